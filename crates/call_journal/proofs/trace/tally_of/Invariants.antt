use Rattle.std.proofs.Common.{◌≡◌, drop}
use Rattle.call_journal.specs.Counts.{tally_after}
use Rattle.call_journal.proofs.trace.tally_of.Given as goal

abbrev pub invariant-loop-event : goal.invariant-loop-event
invariant-loop-event l = tally_after l.tally (drop l.event-index l.told) ≡ tally_after l.fn.before l.fn.told
