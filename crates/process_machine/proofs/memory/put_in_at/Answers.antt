use Rattle.std.proofs.Common.{refl}
use Rattle.process_machine.proofs.MemoryLaws.{overwritten}
use Rattle.process_machine.proofs.memory.put_in_at.Goals as goal

pub returns-in-Some-clause-value : goal.returns-in-Some-clause-value
returns-in-Some-clause-value c =
    overwritten c.args.page.now _ _ c.overwrite.new.self c.args.offset c.args.word.now c.requires.page c.requires.offset c.in-Some.is refl c.overwrite.ensures
