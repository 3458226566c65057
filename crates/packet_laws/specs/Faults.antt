-- That no more packets meet a fault than go out.
use Rattle.std.specs.Prelude.{◌≡◌, ℕ, true, List, ◌∷◌, ◌++◌}
use Rattle.link_plan.specs.declared.Fate.{Fate}
use Rattle.unix_calls.specs.declared.Event.TheVariants as events
use Rattle.unix_calls.specs.declared.Rec.{Rec}
use Rattle.call_journal.specs.Past.{Past}
use Rattle.call_journal.specs.WorthPackets.{are_faults_few}

-- behind each past of a trace that ends where a packet met a fault, fewer faults between the two kernels are told than packets that may
-- have met one: sends, resends, and requests that came and may be answered
abbrev pub EachFaultHasPacket : List Rec → Type 0
EachFaultHasPacket trace = (past : Past) (rest : List Rec) (kernel a b : ℕ) (met : Fate) → trace ≡ past.records ++ record { kernel = kernel; event = events.Fault a b met } ∷ rest → are_faults_few past a b ≡ true
