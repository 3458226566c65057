use Rattle.std.proofs.Common.{◌++◌, ap, map, refl, ◌∙◌}
use Rattle.kernel_rpc.specs.Servers.{pairs}
use Rattle.cluster_wire.specs.Calling.{sent_as}
use Rattle.cluster_wire.specs.Goings.{broadcast_to, may_go_to}
use Rattle.cluster_wire.proofs.CallLaws.{broadcast_as, broadcast_begins, may_go, on_ok, packets_grow}
use Rattle.cluster_wire.proofs.calls.broadcast.Goals as goal

pub returns-clause-begun : goal.returns-clause-begun
returns-clause-begun g c =
    on_ok c.put_all.result (λ grown. broadcast_begins g.L.Link.faults g.L.Link.asked c.args.kernel c.args.port c.args.tx c.in_ok-tx.tx
    (broadcast_as c.args.owner c.args.sending.body c.as_slice-servers.result.now c.least_of.result)
    (broadcast_to (may_go_to c.args.sending.to c.args.kernel c.args.owner) c.args.owner c.args.sending) c.about-about.result c.in_ok-tx.fates c.args.wire.now c.broadcast.new.self c.args.sent.now c.put_all.new.sent
    (may_go c.args.kernel c.args.owner c.least_of.result c.args.sending c.as_slice-servers.result.now c.may_go_to.result c.as_slice-servers.ensures c.may_go_to.ensures.is c.if-not-may_go_to.false c.least_of.ensures)
    refl c.about-about.ensures c.requires.number (c.may_go_to.ensures.caller_apart c.if-not-may_go_to.false) (c.may_go_to.ensures.apart c.if-not-may_go_to.false) (c.may_go_to.ensures.owner_there c.if-not-may_go_to.false)
    c.requires.free c.requires.least c.in_ok-tx.ensures.fates c.in_ok-tx.ensures.link c.in_ok-tx.ensures.machine c.in_ok-tx.ensures.known c.in_ok-tx.ensures.tx
    (grown ∙ ap (λ fates. c.args.sent.now ++ map (sent_as c.in_ok-tx.tx) (pairs c.as_slice-servers.result.now fates)) c.as_slice.ensures)) c.put_all.ensures

pub returns-clause-asked : goal.returns-clause-asked
returns-clause-asked g c =
    on_ok c.put_all.result (λ grown. record {
      more = pairs c.as_slice-servers.result.now c.in_ok-tx.fates;
      grown = packets_grow c.args.sent.now c.put_all.new.sent c.in_ok-tx.tx (pairs c.as_slice-servers.result.now c.in_ok-tx.fates) (grown ∙ ap (λ fates. c.args.sent.now ++ map (sent_as c.in_ok-tx.tx) (pairs c.as_slice-servers.result.now fates)) c.as_slice.ensures);
      asks = c.in_ok-tx.ensures.link;
    }) c.put_all.ensures
