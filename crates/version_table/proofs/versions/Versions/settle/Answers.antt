use Rattle.std.proofs.Common.{sym, ap, subst, ◌∙◌}
use Rattle.version_table.specs.Files.{is_ready, IsPrepared}
use Rattle.version_table.specs.Versions.{Table, file_of, files_in, AreKept}
use Rattle.version_table.proofs.FileLaws.{its_own, settled_files}
use Rattle.version_table.proofs.versions.Versions.settle.Goals as goal

pub settle-requires-clause-ready : goal.settle-requires-clause-ready
settle-requires-clause-ready c = ap (λ (t : Table). is_ready (file_of t.files c.args.file)) c.self.view_is ∙ c.requires

pub settle-requires-clause-prepared : goal.settle-requires-clause-prepared
settle-requires-clause-prepared c = (its_own (files_in c.self.inside.files) c.args.file c.self.invariant).kept.ready

pub invariant_of-self : goal.invariant_of-self
invariant_of-self c = subst AreKept (sym c.settle.ensures.files) (settled_files (files_in c.self.inside.files) c.args.file c.self.invariant)

pub returns-clause-prepared : goal.returns-clause-prepared
returns-clause-prepared c = subst (λ (t : Table). IsPrepared (file_of t.files c.args.file)) c.self.view_is (its_own (files_in c.self.inside.files) c.args.file c.self.invariant).kept.ready
