use Rattle.std.proofs.Common.{sym, subst}
use Rattle.version_table.specs.Versions.{AreKept, files_in}
use Rattle.version_table.specs.Versions.{IsFile}
use Rattle.version_table.proofs.FileLaws.{each_dropped}
use Rattle.version_table.proofs.versions.Versions.forget.Goals as goal

pub invariant_of-self : goal.invariant_of-self
invariant_of-self c = subst AreKept (sym c.forget.ensures) (each_dropped IsFile (files_in c.self.inside.files) c.args.file c.self.invariant)
