-- What stands behind an entry that calls a server unreachable.
use Rattle.std.specs.Prelude.{◌≡◌, ℕ, ◌≤◌, true, List, ◌∷◌, ◌++◌, count_by}
use Rattle.unix_calls.specs.declared.Description.{Description}
use Rattle.unix_calls.specs.declared.Entry.{Entry}
use Rattle.unix_calls.specs.declared.Event.TheVariants.{Enter}
use Rattle.unix_calls.specs.declared.Rec.{Rec}
use Rattle.call_journal.specs.Matching.{has_event, is_loss}
use Rattle.call_journal.specs.Unreachable.{is_unreachable_entry, unreachable_for_cause}

-- how many packets between two kernels a trace tells to be lost
abbrev pub losses_between : ℕ → ℕ → List Rec → ℕ
losses_between a b trace = count_by (has_event (is_loss a b)) trace

-- before each entry of the trace that calls a server unreachable, at least eight packets between its kernel and another were lost
abbrev pub LossesBehind : List Rec → Type 0
LossesBehind trace =
    (before rest : List Rec) (kernel : ℕ) (entry : Entry) → trace ≡ before ++ record { kernel = kernel; event = Enter entry } ∷ rest → is_unreachable_entry entry ≡ true → (to : ℕ) × (8 ≤ losses_between kernel to before)

-- so it is where servers are called unreachable only for cause
abbrev pub UnreachableFollowsLosses : Type 0
UnreachableFollowsLosses = (c : Description) (trace : List Rec) → unreachable_for_cause c trace ≡ true → LossesBehind trace
