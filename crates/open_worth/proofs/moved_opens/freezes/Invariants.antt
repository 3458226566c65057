use Rattle.std.proofs.Common.{◌≡◌, ◌+◌, drop, count_by}
use Rattle.call_journal.specs.Matching.{has_event}
use Rattle.call_journal.specs.WorthRecords.{is_any_freeze}
use Rattle.open_worth.proofs.moved_opens.freezes.Given as goal

-- those so far, and those of the rest, are all
abbrev pub invariant-loop-rec : goal.invariant-loop-rec
invariant-loop-rec l = l.count + count_by (has_event is_any_freeze) (drop l.rec-index l.trace) ≡ count_by (has_event is_any_freeze) l.fn.trace
