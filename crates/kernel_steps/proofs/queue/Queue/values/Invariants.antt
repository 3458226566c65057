use Rattle.std.proofs.Common.{◌≡◌, ◌++◌, drop}
use Rattle.kernel_steps.specs.Rows.{all_under}
use Rattle.kernel_steps.proofs.queue.Queue.values.Given as goal

-- the values so far and those that come yet
abbrev pub invariant-loop-row : goal.invariant-loop-row
invariant-loop-row g l = l.values ++ all_under g.K.PartialEq.eq l.key (drop l.row-index l.self) ≡ all_under g.K.PartialEq.eq l.key l.self
