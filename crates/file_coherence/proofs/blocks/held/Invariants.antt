use Rattle.std.proofs.Common.{◌≡◌, drop}
use Rattle.file_views.specs.Clients.{held}
use Rattle.file_coherence.proofs.blocks.held.Given as goal

abbrev pub invariant-loop-one : goal.invariant-loop-one
invariant-loop-one l = held (drop l.one-index l.blocks) l.number ≡ held l.blocks l.number
