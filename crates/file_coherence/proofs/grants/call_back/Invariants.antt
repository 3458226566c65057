use Rattle.std.proofs.Common.{◌≡◌, drop}
use Rattle.file_views.specs.Grants.{call_back}
use Rattle.file_coherence.proofs.grants.call_back.Given as goal

abbrev pub invariant-loop-kernel : goal.invariant-loop-kernel
invariant-loop-kernel l = call_back (drop l.kernel-index l.kernels) l.kind l.view ≡ call_back l.kernels l.kind l.fn.view
