use Rattle.std.proofs.Common.{◌≡◌, ◌+◌, drop}
use Rattle.call_journal.specs.Moves.{kernel_from}
use Rattle.move_rules.proofs.arrivals.kernel_named.Given as goal

-- none so far has the name
abbrev pub invariant-loop-place : goal.invariant-loop-place
invariant-loop-place l = kernel_from (1 + l.place) (drop l.place l.kernels) l.name ≡ kernel_from 1 l.kernels l.name
