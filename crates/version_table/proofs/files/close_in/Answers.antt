use Rattle.std.proofs.Common.{sym, refl}
use Rattle.version_table.proofs.FileLaws.{closed_there}
use Rattle.version_table.proofs.files.close_in.Goals as goal

pub returns-in-Some-clause-files : goal.returns-in-Some-clause-files
returns-in-Some-clause-files c =
    closed_there c.args.list.now.entries _ c.args.file.now c.args.kernel c.args.stream.now c.args.grants c.close.new.self c.in-Some.versioned.now (sym c.in-Some.ensures.value) refl c.close.ensures.file
