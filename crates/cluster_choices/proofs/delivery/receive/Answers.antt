use Rattle.std.proofs.Common.{Bool, ◌&&◌, subst}
use Rattle.kernel_rpc.specs.Machine.{may_be_silent}
use Rattle.cluster_wire.specs.Arriving.{SilentIf}
use Rattle.cluster_choices.proofs.delivery.receive.Goals as goal

pub returns : goal.returns
returns g c = record {
  said = c.in_ok-_said._said;
  between = c.take.new.wire;
  takes = c.in_ok-_said.ensures;
  silent = subst (λ (b : Bool). SilentIf g.L.Link.faults g.L.Link.asked (b && may_be_silent c.take.new.wire.machine c.args.tx c.args.kernel) c.args.tx c.args.kernel c.take.new.wire c.end_serving.new.wire) c.asks_prefix-asks.ensures c.end_serving.ensures.silent;
}
