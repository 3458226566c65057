-- Keys of rows that wait, and the first row of a key.
use Rattle.std.specs.Prelude.{ℕ, ◌==◌, Bool, ◌&&◌, List, Option}
use Rattle.sprite_ids.specs.declared.TxNo.{TxNo}
use Rattle.sprite_ids.specs.declared.StreamNo.{StreamNo}
use Rattle.sprite_ids.specs.Lists.{less}
use Rattle.kernel_steps.specs.Rows.{is_under, first_under}

-- whether the other is that process
abbrev pub is_pid : ℕ → ℕ → Bool
is_pid pid other = other == pid

-- whether the first is the process of the second
abbrev pub same_pid : ℕ → ℕ → Bool
same_pid other pid = other == pid

-- whether the two are one remote call
abbrev pub same_call : TxNo → TxNo → Bool
same_call other tx = other.0 == tx.0

-- whether the two are one stream
abbrev pub same_stream : StreamNo → StreamNo → Bool
same_stream other stream = (other.kernel == stream.kernel) && (other.number == stream.number)

-- the first value of the process, and the rows without it
abbrev pub first_of : {V : Type 0} → ℕ → List (ℕ × V) → Option V
first_of pid rows = first_under same_pid pid rows

abbrev pub less_of : {V : Type 0} → ℕ → List (ℕ × V) → List (ℕ × V)
less_of pid rows = less (is_under same_pid pid) rows

-- the first value of the remote call, and the rows without it
abbrev pub first_call : {V : Type 0} → TxNo → List (TxNo × V) → Option V
first_call tx rows = first_under same_call tx rows

abbrev pub less_call : {V : Type 0} → TxNo → List (TxNo × V) → List (TxNo × V)
less_call tx rows = less (is_under same_call tx) rows

-- the first value of the stream, and the rows without it
abbrev pub first_stream : {V : Type 0} → StreamNo → List (StreamNo × V) → Option V
first_stream stream rows = first_under same_stream stream rows

abbrev pub less_stream : {V : Type 0} → StreamNo → List (StreamNo × V) → List (StreamNo × V)
less_stream stream rows = less (is_under same_stream stream) rows
