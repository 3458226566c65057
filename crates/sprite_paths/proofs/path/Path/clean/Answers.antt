-- What a path text leads to within the limits is a path.
use Rattle.std.proofs.Common.{◌≡◌, sym, ap, subst, ◌∙◌}
use Rattle.sprite_paths.specs.Path.{start_of, walked, is_within_limits, IsPath}
use Rattle.sprite_paths.proofs.PathLaws.{walked_path}
use Rattle.sprite_paths.proofs.path.Path.clean.Goals as goal

pub invariant_of-result : goal.invariant_of-result
invariant_of-result c =
    let cwd = c.args.cwd.now in
    let text = c.args.text.now in
    let end : c.in_ok-parts.parts ≡ walked (start_of cwd text) text = c.in_ok-parts.ensures ∙ ap (λ start. walked start text) c.in_ok-start.ensures.start in
    let within = ap is_within_limits (sym end ∙ sym c.as_slice.ensures) ∙ sym c.fits.ensures ∙ c.if-not-fits.false in
    subst IsPath (sym end) (walked_path cwd text c.in_ok-start.ensures.path (sym c.is_text.ensures ∙ c.if-not-is_text.false) within)
