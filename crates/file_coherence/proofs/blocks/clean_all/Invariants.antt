use Rattle.std.proofs.Common.{◌≡◌, ◌++◌, map, take, drop}
use Rattle.file_views.specs.Clients.{cleaned}
use Rattle.file_coherence.proofs.blocks.clean_all.Given as goal

abbrev pub invariant-loop-at : goal.invariant-loop-at
invariant-loop-at l = l.blocks ≡ map cleaned (take l.at l.fn.blocks) ++ drop l.at l.fn.blocks
