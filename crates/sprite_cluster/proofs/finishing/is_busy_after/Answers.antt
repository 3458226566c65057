use Rattle.std.proofs.Common.{◌≡◌, ◌+◌, rules, subst}
use Rattle.sprite_cluster.specs.Finishing.{is_busy}
use Rattle.sprite_cluster.proofs.finishing.is_busy_after.Goals as goal

pub returns : goal.returns
returns g c =
    let same : c.in-Some.kernel ≡ c.args.before + 1 = search rules in
    subst (λ kernel. c.is_busy.result ≡ is_busy c.args.wire.now.machine c.args.state.now kernel) same c.is_busy.ensures
