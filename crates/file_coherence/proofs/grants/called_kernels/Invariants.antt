use Rattle.std.proofs.Common.{◌≡◌, ◌++◌, filter, drop}
use Rattle.file_views.specs.Grants.{is_called}
use Rattle.file_coherence.proofs.grants.called_kernels.Given as goal

abbrev pub invariant-loop-number : goal.invariant-loop-number
invariant-loop-number l = l.called ++ filter (is_called l.uncached l.view l.one) (drop l.number-index l.number-items) ≡ filter (is_called l.uncached l.view l.one) l.number-items
