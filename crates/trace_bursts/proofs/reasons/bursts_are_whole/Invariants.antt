use Rattle.std.proofs.Common.{◌≡◌, drop}
use Rattle.trace_bursts.specs.Reasons.{are_whole}
use Rattle.trace_bursts.proofs.reasons.bursts_are_whole.Given as goal

-- the rest is whole exactly where all are
abbrev pub invariant-loop-place : goal.invariant-loop-place
invariant-loop-place l = are_whole (drop l.place l.trace) ≡ are_whole l.trace
