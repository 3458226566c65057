use Rattle.std.proofs.Common.{◌≡◌, ◌+◌, drop, count_by}
use Rattle.call_journal.specs.Matching.{has_event}
use Rattle.call_journal.specs.WorthSends.{is_free_send}
use Rattle.send_worth.proofs.free_sends.free_sends.Given as goal

-- those so far, and those of the rest, are all
abbrev pub invariant-loop-rec : goal.invariant-loop-rec
invariant-loop-rec l = l.count + count_by (has_event is_free_send) (drop l.rec-index l.trace) ≡ count_by (has_event is_free_send) l.fn.trace
