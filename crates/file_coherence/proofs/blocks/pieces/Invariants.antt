use Rattle.std.proofs.Common.{◌≡◌, ◌++◌, drop}
use Rattle.file_views.specs.Clients.{pieces}
use Rattle.file_coherence.proofs.blocks.pieces.Given as goal

abbrev pub invariant-loop-one : goal.invariant-loop-one
invariant-loop-one l = l.dirty ++ pieces l.limits l.size (drop l.one-index l.blocks) ≡ pieces l.limits l.size l.blocks
