use Rattle.std.proofs.Common.{◌∷◌, [], ap, ◌++◌, ◌∙◌}
use Rattle.indexmap.specs.IndexMap.{insert_entry}
use Rattle.server_names.specs.Names.{Listed, is_at}
use Rattle.server_names.proofs.directories.Directories.begin.Goals as goal

pub returns-clause-ok : goal.returns-clause-ok
returns-clause-ok c =
    let first = c.in_ok-push.ensures.ok ∙ ap (λ (es : Listed). es ++ (c.args.part, c.args.entry) ∷ []) c.new-entries.ensures in
    rw (← c.self.view_is) (c.in_ok-insert.ensures.entries ∙ ap (insert_entry is_at c.self.inside.lists.entries c.args.directory) first)
