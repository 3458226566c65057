use Rattle.std.proofs.Common.{sym, refl}
use Rattle.version_table.specs.Files.{answered}
use Rattle.version_table.proofs.FileLaws.{changed_there}
use Rattle.version_table.proofs.files.answer_in.Goals as goal

pub returns-in-Some-clause-files : goal.returns-in-Some-clause-files
returns-in-Some-clause-files c =
    changed_there (λ v. answered v c.args.kernel) c.args.list.now.entries _ c.args.file.now c.answer.new.self c.in-Some.versioned.now (sym c.in-Some.ensures.value) refl c.answer.ensures.file
