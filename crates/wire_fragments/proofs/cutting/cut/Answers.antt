use Rattle.std.proofs.Common.{arith}
use Rattle.wire_fragments.proofs.CutLaws.{piece_short, frames_more}
use Rattle.wire_fragments.proofs.cutting.cut.Goals as goal

pub frame-requires : goal.frame-requires
frame-requires c = rw c.piece.ensures (piece_short c.args.message.now c.pieces.index)

pub pieces-preserved : goal.pieces-preserved
pieces-preserved c =
    let less = c.pieces-test.true in
    record {
      all = frames_more (record { from = c.args.from; to = c.args.to; id = c.args.id }) c.args.message.now _ _ _ _ _ c.pieces.index c.count_of-count.result less c.count_of-count.ensures c.piece.ensures c.in_ok-frame.ensures c.in_ok-push.ensures.items c.pieces.invariant.all;
      within = omega (arith, less);
    }
