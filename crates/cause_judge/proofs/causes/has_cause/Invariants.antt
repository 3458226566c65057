use Rattle.std.proofs.Common.{◌≡◌, ◌≤◌, false, drop, length}
use Rattle.call_journal.specs.Past.{some_then}
use Rattle.cause_judge.specs.Causes.{is_cause}
use Rattle.cause_judge.proofs.causes.has_cause.Given as goal

abbrev pub decreases-loop-place : goal.decreases-loop-place
decreases-loop-place l = l.place

-- none of the records from that place on is the cause
abbrev pub invariant-loop-place : goal.invariant-loop-place
invariant-loop-place l =
    record {
      within : l.place ≤ length l.before;
      none : some_then (is_cause l.c l.kernel l.entry.pid l.entry.number) (drop l.place l.before) ≡ false;
    }
