use Rattle.std.proofs.Common.{◌∷◌, [], ◌++◌, ◌∙◌, sym, ap}
use Rattle.indexmap.specs.IndexMap.{set_value_at}
use Rattle.server_names.specs.Names.{Listed}
use Rattle.server_names.proofs.DirectoryLaws.{listed_here, set_past, set_same_here, on_err}
use Rattle.server_names.proofs.directories.Directories.push_at.Goals as goal

pub returns-in_default-clause-ok : goal.returns-in_default-clause-ok
returns-in_default-clause-ok c = rw (← c.self.view_is) (set_past c.self.inside.lists.entries c.args.at _ c.in_default.ensures.value)

pub returns-in_err-push-clause-err : goal.returns-in_err-push-clause-err
returns-in_err-push-clause-err c =
    let entries = c.self.inside.lists.entries in
    on_err c.from_residual.result (rw (← c.self.view_is) (ap (set_value_at entries c.args.at) c.in_err-push.ensures.err ∙ set_same_here entries c.args.at c.in-Some.entries.now c.in-Some.ensures.value))

pub returns-clause-ok : goal.returns-clause-ok
returns-clause-ok c =
    let entries = c.self.inside.lists.entries in
    let seen = listed_here entries c.args.at c.in-Some.entries.now c.in-Some.ensures.value in
    rw (← c.self.view_is) (ap (set_value_at entries c.args.at) (c.in_ok-push.ensures.ok ∙ ap (λ (es : Listed). es ++ (c.args.part, c.args.entry) ∷ []) (sym seen)))
