use Rattle.std.proofs.Common.{drop}
use Rattle.trace_forms.specs.Facing.{Facing}
use Rattle.trace_forms.specs.Parts.{is_use_well}
use Rattle.trace_forms.specs.Uses.{TellsUses}
use Rattle.trace_forms.proofs.uses.uses_are_formed.Given as goal

-- the records so far are written as they should be, and are told
abbrev pub invariant-loop-place : goal.invariant-loop-place
invariant-loop-place l = Facing l.c (λ past rec rest. is_use_well l.c past rec.kernel rec.event rest) (λ past rest. TellsUses l.c l.last l.streams (drop l.place l.openings) past rest) l.trace (drop l.place l.trace)
