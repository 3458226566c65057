use Rattle.std.proofs.Common.{sym, arith}
use Rattle.process_machine.proofs.MemoryLaws.{put_piece_in, bytes_past}
use Rattle.process_machine.proofs.memory.put_piece.Goals as goal

pub returns-then-number-len-clause-value : goal.returns-then-number-len-clause-value
returns-then-number-len-clause-value c =
    put_piece_in c.args.pages.now c.args.number c.args.offset _ _ c.args.piece.now c.requires.inside c.at_mut.ensures.value c.put_in_at.ensures.value

pub returns-else-number-len-clause-value : goal.returns-else-number-len-clause-value
returns-else-number-len-clause-value c =
    sym (bytes_past c.args.pages.now _ c.args.piece.now (omega arith))
