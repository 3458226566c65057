use Rattle.std.proofs.Common.{subst}
use Rattle.kernel_rpc.specs.declared.Expired.{Expired}
use Rattle.cluster_wire.specs.Firing.{Fires}
use Rattle.cluster_choices.proofs.ActLaws.{last_fires}
use Rattle.cluster_choices.proofs.delivery.expire_now.Goals as goal

pub returns-in-GivenUp : goal.returns-in-GivenUp
returns-in-GivenUp g c =
    last_fires g.L.Link.faults g.L.Link.asked c.args.c.now c.args.kernel c.args.tx c.in-GivenUp.before c.in-GivenUp.now c.args.wire.now c.fire.new.wire c.give_up.new.wire c.args.state.now c.give_up.new.state c.give_up.result
    (subst (λ (what : Expired). Fires g.L.Link.faults g.L.Link.asked c.args.kernel c.args.tx what c.args.wire.now c.fire.new.wire) c.in-GivenUp.is c.in_ok-fire.ensures) c.give_up.ensures
