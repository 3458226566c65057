use Rattle.std.proofs.Common.{◌++◌, Some, sym, ap, ap₂, subst, ◌∙◌}
use Rattle.sprite_paths.specs.Path.{behind, IsPath}
use Rattle.sprite_paths.proofs.PathLaws.{drop_is_path, behind_found, behind_none}
use Rattle.sprite_paths.proofs.path.Path.behind.Goals as goal

pub invariant_of-result : goal.invariant_of-result
invariant_of-result c =
    let end = c.in_ok-followed-in-Some.ensures ∙ ap (λ front. front ++ c.in-Some.rest.now) c.new.ensures ∙ c.in-Some.ensures.cases.1 in
    subst IsPath (sym end) (drop_is_path _ _ c.parts.ensures.path)

pub returns-in_ok-followed-in-Some : goal.returns-in_ok-followed-in-Some
returns-in_ok-followed-in-Some c =
    let end = c.in_ok-followed-in-Some.ensures ∙ ap (λ front. front ++ c.in-Some.rest.now) c.new.ensures ∙ c.in-Some.ensures.cases.1 in
    ap Some end ∙ sym (behind_found c.parts-2.result.now c.parts.result.now c.in-Some.ensures.cases.0) ∙ ap₂ behind c.parts-2.ensures.parts c.parts.ensures.parts

pub returns-in-None : goal.returns-in-None
returns-in-None c =
    sym (behind_none c.parts-2.result.now c.parts.result.now c.in-None.ensures.cases) ∙ ap₂ behind c.parts-2.ensures.parts c.parts.ensures.parts
