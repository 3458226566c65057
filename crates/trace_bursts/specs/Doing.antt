-- What a process's bursts did since its last entry, and whether that is what it has before its call.
use Rattle.std.specs.Prelude.{ℕ, ◌+◌, ◌==◌, Bool, true, false, ◌&&◌, if◌then◌else◌, List, Option, Some, None}
use Rattle.std.specs.Option.{option_and_then}
use Rattle.unix_calls.specs.declared.description.Description.{Description}
use Rattle.unix_calls.specs.declared.state.Process.{Process}
use Rattle.unix_calls.specs.State.{process_at}
use Rattle.call_journal.specs.WorthBursts.{distance_of, is_at_most, is_exactly}
use Rattle.trace_bursts.specs.declared.doing.Doing.{Doing}
use Rattle.trace_bursts.specs.declared.doing.Issued.{Issued}
use Rattle.trace_bursts.specs.declared.doing.Issued.TheVariants.{Never, At, Apart}

-- nothing yet
abbrev pub fresh : Doing
fresh = record { done = 0; most = 0; issued = Never }

-- a call is issued behind so many instructions
abbrev pub issued_with : ℕ → Issued → Issued
issued_with done Never = At done
issued_with done (At before) = if before == done then At before else Apart
issued_with done Apart = Apart

-- behind a burst, and behind an issue, of a process that is there or not
abbrev pub burst_behind : Bool → ℕ → Doing → Doing
burst_behind there count doing =
    record { done = doing.done + count; most = if there then doing.done + count else doing.most; issued = doing.issued }

abbrev pub issue_behind : Bool → Doing → Doing
issue_behind there doing =
    record { done = doing.done; most = doing.most; issued = if there then issued_with doing.done doing.issued else doing.issued }

-- a call that was issued comes behind so many instructions; any number where none comes
abbrev pub meets : Issued → Option ℕ → Bool
meets Never due = true
meets (At done) due = is_exactly done due
meets Apart None = true
meets Apart (Some n) = false

-- no more instructions than there are before the call, and exactly these where it was issued
abbrev pub is_met : Doing → Option ℕ → Bool
is_met doing due = is_at_most doing.most due && meets doing.issued due

-- so many instructions tell it, where no call comes behind that many
abbrev pub reach_by : ℕ → ℕ → Issued → ℕ
reach_by left most Never = most
reach_by left most (At done) = left + 1
reach_by left most Apart = left + 1

abbrev pub reach_of : ℕ → Doing → ℕ
reach_of left doing = reach_by left doing.most doing.issued

-- how many instructions the process has from its image in the one-kernel Unix to its call
abbrev pub due_by : Description → List Process → ℕ → Option ℕ
due_by c ps pid = option_and_then (distance_of c) (process_at ps pid)
