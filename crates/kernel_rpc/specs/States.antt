-- How calls stand.
use Rattle.std.specs.Prelude.{ℕ, ◌==◌, nat_le, Bool, true, false, ◌&&◌, Option, Some, None, is_some}
use Rattle.std.specs.List.{list_any}
use Rattle.sprite_ids.specs.declared.TxNo.{TxNo}
use Rattle.kernel_rpc.specs.declared.call.Call.{Call}
use Rattle.kernel_rpc.specs.declared.call.CallState.{CallState}
use Rattle.kernel_rpc.specs.declared.call.CallState.TheVariants.{Sent, Taken, Answered, Done, GivenUp}
use Rattle.kernel_rpc.specs.Machine.{Machine, call_of, is_taken}

-- how an unfinished call stands
abbrev pub state_in : Bool → Bool → CallState
state_in true taken = Answered
state_in false true = Taken
state_in false false = Sent

-- how a finished call stands, by whether it was given up and whether it was begun
abbrev pub state_past : Bool → Bool → Option CallState
state_past true started = Some GivenUp
state_past false true = Some Done
state_past false false = None

-- whether a call of that number is one of so many
abbrev pub was_begun : ℕ → TxNo → Bool
was_begun begun tx = nat_le 1 tx.0 && nat_le tx.0 begun

-- how a looked-up call stands
abbrev pub state_by : Machine → TxNo → Option Call → Option CallState
state_by machine tx None = state_past (list_any (λ (given : TxNo). given.0 == tx.0) machine.given_up) (was_begun machine.begun tx)
state_by machine tx (Some call) = Some (state_in (is_some call.reply) (is_taken call))

-- how the call of that number stands; None where none was begun
abbrev pub state_of : Machine → TxNo → Option CallState
state_of machine tx = state_by machine tx (call_of machine tx)
