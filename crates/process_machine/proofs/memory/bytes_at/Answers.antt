use Rattle.std.proofs.Common.{arith}
use Rattle.process_machine.proofs.MemoryLaws.{gathered}
use Rattle.process_machine.proofs.memory.bytes_at.Goals as goal

pub pieces-preserved : goal.pieces-preserved
pieces-preserved c =
    record {
      within = omega arith;
      so_far = gathered _ _ _ _ _ _ _ c.requires.few c.pieces.invariant.so_far c.saturating_add-at.ensures c.in_ok-append_piece.ensures;
    }
