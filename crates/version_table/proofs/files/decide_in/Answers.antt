use Rattle.std.proofs.Common.{sym, refl}
use Rattle.version_table.specs.Files.{decided}
use Rattle.version_table.proofs.FileLaws.{decided_there, failed_there}
use Rattle.version_table.proofs.files.decide_in.Goals as goal

pub returns-in-Some-clause-ok : goal.returns-in-Some-clause-ok
returns-in-Some-clause-ok c =
    decided_there c.decide.result (λ v. decided c.args.cached v c.args.action.now) c.args.list.now.entries _ c.args.file.now c.decide.new.self c.in-Some.versioned.now (sym c.in-Some.ensures.value) refl c.decide.ensures.ok

pub returns-in-Some-clause-err : goal.returns-in-Some-clause-err
returns-in-Some-clause-err c =
    failed_there c.decide.result c.args.list.now.entries _ c.args.file.now c.decide.new.self c.in-Some.versioned.now (sym c.in-Some.ensures.value) refl c.decide.ensures.err
