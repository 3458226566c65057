use Rattle.std.proofs.Common.{sym, ap, subst, ◌∙◌}
use Rattle.version_table.specs.Files.{is_busy}
use Rattle.version_table.specs.Versions.{Table, file_of, files_in, AreKept}
use Rattle.version_table.proofs.FileLaws.{answered_files}
use Rattle.version_table.proofs.versions.Versions.answered.Goals as goal

pub invariant_of-self : goal.invariant_of-self
invariant_of-self c =
    let busy = ap (λ (t : Table). is_busy (file_of t.files c.args.file)) c.self.view_is ∙ c.requires in
    subst AreKept (sym c.answer.ensures.files) (answered_files (files_in c.self.inside.files) c.args.file c.args.kernel busy c.self.invariant)
