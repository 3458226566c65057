use Rattle.std.proofs.Common.{sym, refl}
use Rattle.file_store.proofs.LengthLaws.{failed_back}
use Rattle.file_store.proofs.files.put_block_in.Goals as goal

pub returns-in-Some-clause-err : goal.returns-in-Some-clause-err
returns-in-Some-clause-err c =
    failed_back c.put_block.result c.args.list.now.entries _ c.args.file.now c.in-Some.content.now c.put_block.new.self refl (sym c.in-Some.ensures.value) c.put_block.ensures.err
