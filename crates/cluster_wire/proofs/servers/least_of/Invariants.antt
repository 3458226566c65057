use Rattle.std.proofs.Common.{◌≡◌, drop}
use Rattle.cluster_wire.specs.Goings.{least_of}
use Rattle.cluster_wire.proofs.servers.least_of.Given as goal

abbrev pub invariant-loop-kernel : goal.invariant-loop-kernel
invariant-loop-kernel l = least_of (drop l.kernel-index l.kernels) l.least ≡ least_of l.kernels l.fn.one
