use Rattle.std.proofs.Common.{ap, ◌∙◌}
use Rattle.file_store.specs.Files.{Files, is_there, files_in, with_new}
use Rattle.file_store.proofs.LengthLaws.{new_within, within_after}
use Rattle.file_store.proofs.store.Store.make.Goals as goal

pub make-requires : goal.make-requires
make-requires c = ap (λ (all : Files). is_there all.files c.args.file) c.self.view_is ∙ c.requires

pub invariant_of-self : goal.invariant_of-self
invariant_of-self c =
    let limit = c.self.inside.limit in
    let files = files_in c.self.inside.files in
    (c.self.invariant.0, within_after c.make.result limit (files_in c.make.new.files) (with_new files c.args.file) files c.make.ensures.ok c.make.ensures.err (new_within limit files c.args.file c.self.invariant.1) c.self.invariant.1)
