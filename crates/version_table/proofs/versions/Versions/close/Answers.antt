use Rattle.std.proofs.Common.{sym, ap, subst, ◌∙◌}
use Rattle.version_table.specs.Files.{is_busy}
use Rattle.version_table.specs.Versions.{Table, file_of, files_in, AreKept}
use Rattle.version_table.proofs.FileLaws.{closed_files}
use Rattle.version_table.proofs.versions.Versions.close.Goals as goal

pub invariant_of-self : goal.invariant_of-self
invariant_of-self c =
    let free = ap (λ (t : Table). is_busy (file_of t.files c.args.file)) c.self.view_is ∙ c.requires in
    subst AreKept (sym c.close.ensures.files) (closed_files (files_in c.self.inside.files) c.args.file c.args.kernel c.args.stream c.args.grants free c.self.invariant)
