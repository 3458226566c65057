use Rattle.std.proofs.Common.{◌≡◌, take}
use Rattle.std.specs.List.{list_any}
use Rattle.call_journal.specs.Drops.{is_taken}
use Rattle.call_journal.specs.Matching.{is_at}
use Rattle.trace_rules.specs.declared.place.StampAt.{StampAt}
use Rattle.trace_rules.specs.Places.{has_stamp}
use Rattle.write_rules.proofs.versions.stamps_taken.Given as goal

-- those of the records so far
abbrev pub invariant-loop-rec : goal.invariant-loop-rec
invariant-loop-rec l = (at : StampAt) → has_stamp l.taken.keys at ≡ list_any (is_at at.kernel (is_taken at.file at.stamp)) (take l.rec-index l.trace)
