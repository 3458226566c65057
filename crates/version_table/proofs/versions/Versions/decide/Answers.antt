use Rattle.std.proofs.Common.{ap, ◌∙◌}
use Rattle.version_table.specs.Files.{is_busy, is_roomy}
use Rattle.version_table.specs.Versions.{Table, file_of, files_in}
use Rattle.version_table.proofs.ReadyLaws.{decided_kept}
use Rattle.version_table.proofs.versions.Versions.decide.Goals as goal

pub invariant_of-self : goal.invariant_of-self
invariant_of-self c =
    let room = ap (λ (t : Table). is_roomy (file_of t.files c.args.file)) c.self.view_is ∙ c.requires.room in
    let free = ap (λ (t : Table). is_busy (file_of t.files c.args.file)) c.self.view_is ∙ c.requires.free in
    decided_kept c.decide.result c.self.inside.cached (files_in c.self.inside.files) (files_in c.decide.new.files) c.args.file c.args.action c.decide.ensures.ok c.decide.ensures.err room free c.self.invariant
