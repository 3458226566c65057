use Rattle.std.proofs.Common.{◌≡◌, drop}
use Rattle.file_views.specs.Serving.{store_blocks}
use Rattle.file_coherence.proofs.serving.store_blocks.Given as goal

abbrev pub invariant-loop-piece : goal.invariant-loop-piece
invariant-loop-piece l = store_blocks l.limits l.bytes l.size (drop l.piece-index l.pieces) ≡ store_blocks l.limits l.fn.bytes l.size l.pieces
