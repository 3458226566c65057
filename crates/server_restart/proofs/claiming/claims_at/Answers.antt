use Rattle.std.proofs.Common.{◌≡◌, ◌≤◌, ℕ, List, Option, None, get_or, ap, sym, ◌∙◌, arith}
use Rattle.server_restart.proofs.PlayLaws.{claims_low}
use Rattle.server_restart.proofs.claiming.claims_at.Goals as goal

pub returns : goal.returns
returns c =
    let low : 1 ≤ c.args.kernel = omega arith in
    c.kept_at.ensures ∙ (ap (λ (i : ℕ). get_or c.args.kept.now i None) c.place.ensures ∙ sym (claims_low c.args.kept.now c.args.kernel low))
