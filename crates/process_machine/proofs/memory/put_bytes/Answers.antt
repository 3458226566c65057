use Rattle.std.proofs.Common.{arith}
use Rattle.process_machine.proofs.MemoryLaws.{put_more}
use Rattle.process_machine.proofs.memory.put_bytes.Goals as goal

pub pieces-preserved : goal.pieces-preserved
pieces-preserved c =
    record {
      stay = c.put_piece.ensures.stay;
      within = omega arith;
      rest = put_more _ _ _ _ _ _ _ _ c.pieces.invariant.stay.few (omega arith) c.saturating_add-at.ensures c.put_piece.ensures.value c.pieces.invariant.rest;
    }
