use Rattle.std.proofs.Common.{sym, ◌∙◌}
use Rattle.sprite_paths.proofs.PathLaws.{parts_decide}
use Rattle.sprite_paths.proofs.path.Path.same.Goals as goal

pub returns : goal.returns
returns c =
    let decides = parts_decide c.self.inside.parts c.other.inside.parts in
    rw (← c.self.view_is, ← c.other.view_is) (λ equal. decides.0 (sym c.eq.ensures ∙ equal), λ is. c.eq.ensures ∙ decides.1 is)
