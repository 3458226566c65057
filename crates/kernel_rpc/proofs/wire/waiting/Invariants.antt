use Rattle.std.proofs.Common.{◌≡◌, take, map}
use Rattle.kernel_rpc.specs.Machine.{fresh}
use Rattle.kernel_rpc.proofs.wire.waiting.Given as goal

-- the receivers of the kernels so far
abbrev pub invariant-loop-kernel : goal.invariant-loop-kernel
invariant-loop-kernel l = l.receivers ≡ map fresh (take l.kernel-index l.kernels)
