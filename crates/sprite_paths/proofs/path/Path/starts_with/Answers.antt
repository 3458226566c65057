use Rattle.std.proofs.Common.{sym, ◌∙◌}
use Rattle.sprite_paths.proofs.PathLaws.{prefix_decides}
use Rattle.sprite_paths.proofs.path.Path.starts_with.Goals as goal

pub returns-clause-prefix : goal.returns-clause-prefix
returns-clause-prefix c =
    let tested = rw (c.parts.ensures.parts, c.parts-2.ensures.parts) at c.starts_with.ensures.value in
    let decides = prefix_decides c.args.prefix.now c.args.self.now in
    (λ starts. decides.0 (sym tested ∙ starts), λ is. tested ∙ decides.1 is)
