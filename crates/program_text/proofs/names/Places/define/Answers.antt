use Rattle.std.proofs.Common.{◌∙◌, sym, ap, ◌++◌, ◌∷◌, []}
use Rattle.indexmap.proofs.CallerLemmas.{insert_entry-new}
use Rattle.program_text.specs.Words.{same}
use Rattle.program_text.proofs.NameLaws.{none_there}
use Rattle.program_text.proofs.names.Places.define.Goals as goal

pub returns-clause-added : goal.returns-clause-added
returns-clause-added c h =
    c.in_ok-insert.ensures.entries
    ∙ (insert_entry-new same c.self.inside.places c.args.name c.args.place (sym c.in_ok-insert.ensures.old ∙ none_there c.in_ok-insert.field-0 c.is_none.result c.is_none.ensures h)
    ∙ ap (λ ls. ls ++ (c.args.name, c.args.place) ∷ []) c.self.view_is)
