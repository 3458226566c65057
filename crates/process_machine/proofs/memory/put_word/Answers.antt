use Rattle.std.proofs.Common.{refl}
use Rattle.byteorder.specs.Endian.{little_bytes}
use Rattle.process_machine.proofs.MemoryLaws.{put_once}
use Rattle.process_machine.proofs.memory.put_word.Goals as goal

pub returns-then-number-len-clause-value : goal.returns-then-number-len-clause-value
returns-then-number-len-clause-value c =
    put_once c.args.pages.now c.args.address c.write_u64.new.buf (little_bytes 8 c.args.word) _ _ c.write_u64.ensures refl c.if-offset.true c.at_mut.ensures.value c.put_in_at.ensures.value
