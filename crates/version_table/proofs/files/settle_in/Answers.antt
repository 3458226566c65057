use Rattle.std.proofs.Common.{sym, refl}
use Rattle.version_table.specs.Files.{settled}
use Rattle.version_table.proofs.FileLaws.{changed_there}
use Rattle.version_table.proofs.files.settle_in.Goals as goal

pub returns-clause-files : goal.returns-clause-files
returns-clause-files c =
    changed_there settled c.args.list.now.entries _ c.args.file.now c.settle.new.self c.in-Some.versioned.now (sym c.in-Some.ensures.value) refl c.settle.ensures.file
