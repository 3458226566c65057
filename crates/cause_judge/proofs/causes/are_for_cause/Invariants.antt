use Rattle.std.proofs.Common.{◌≡◌, drop, take}
use Rattle.call_journal.specs.Unreachable.{unreachable_for_cause}
use Rattle.cause_judge.specs.Causes.{each_keeps}
use Rattle.cause_judge.proofs.causes.are_for_cause.Given as goal

-- the records so far keep the rule
abbrev pub invariant-loop-place : goal.invariant-loop-place
invariant-loop-place l = each_keeps l.c (take l.place l.trace) (drop l.place l.trace) ≡ unreachable_for_cause l.c l.trace
