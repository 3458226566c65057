use Rattle.std.proofs.Common.{drop}
use Rattle.trace_forms.specs.Facing.{Facing}
use Rattle.trace_forms.specs.Parts.{is_entry_well}
use Rattle.trace_forms.specs.Entries.{TellsEntries}
use Rattle.trace_forms.proofs.entries.entries_are_formed.Given as goal

-- the records so far are written as they should be, and are told
abbrev pub invariant-loop-place : goal.invariant-loop-place
invariant-loop-place l = Facing l.c (λ past rec rest. is_entry_well l.c past rec.kernel rec.event) (λ past rest. TellsEntries l.c l.places.entries l.names l.opened (drop l.place l.openings) past rest) l.trace (drop l.place l.trace)
