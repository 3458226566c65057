use Rattle.std.proofs.Common.{◌≤◌, drop, length}
use Rattle.trace_bursts.specs.Behind.{TellsBehind}
use Rattle.trace_bursts.proofs.behind.behind_entries.Given as goal

-- what stands behind the place is told
abbrev pub invariant-loop-place : goal.invariant-loop-place
invariant-loop-place l = TellsBehind (drop l.place l.trace) l.behind × (l.place ≤ length l.trace)

abbrev pub decreases-loop-place : goal.decreases-loop-place
decreases-loop-place l = l.place
