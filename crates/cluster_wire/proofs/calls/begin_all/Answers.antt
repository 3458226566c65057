use Rattle.std.proofs.Common.{rules}
use Rattle.kernel_rpc.specs.Machine.{Machine}
use Rattle.kernel_steps.specs.declared.Sending.{Sending}
use Rattle.cluster_wire.specs.Calling.{IsBegin, sent_by}
use Rattle.cluster_wire.specs.Faults.{packets}
use Rattle.cluster_wire.specs.Goings.{goes}
use Rattle.cluster_wire.proofs.CallLaws.{all_go, did_begin}
use Rattle.cluster_wire.proofs.LinkLaws.{asks_more}
use Rattle.cluster_wire.proofs.RanLaws.{leads_all, leads_on}
use Rattle.cluster_wire.proofs.calls.begin_all.Goals as goal

pub sends-preserved : goal.sends-preserved
sends-preserved g c = record {
  leads = leads_on g.L.Link.faults g.L.Link.asked (λ (machine : Machine) (sending : Sending). goes c.args.c.now c.args.kernel sending) (IsBegin c.args.kernel) sent_by c.args.sends.now c.args.wire.now c.sends.sends c.remove-sending.new.self c.remove-sending.result c.sends.wire c.begin.new.wire c.sends.sent c.begin.new.sent
      c.remove-sending.ensures.value c.remove-sending.ensures.list (did_begin g.L.Link.faults g.L.Link.asked c.args.c.now c.args.kernel c.remove-sending.result c.sends.wire c.begin.new.wire c.sends.sent c.begin.new.sent c.in_ok-begin.ensures.begun) c.sends.invariant.leads;
  asks = asks_more g.L.Link.faults g.L.Link.asked c.args.kernel c.args.wire.now.link c.sends.wire.link c.begin.new.wire.link (packets c.sends.sent) (packets c.begin.new.sent) c.sends.invariant.asks c.in_ok-begin.ensures.asked;
}

pub returns-clause-begun : goal.returns-clause-begun
returns-clause-begun g c =
    leads_all g.L.Link.faults g.L.Link.asked (λ (machine : Machine) (sending : Sending). goes c.args.c.now c.args.kernel sending) (IsBegin c.args.kernel) sent_by c.args.sends.now c.args.wire.now c.sends.sends c.sends.wire c.sends.sent (search rules) c.sends.invariant.leads

pub returns-clause-go : goal.returns-clause-go
returns-clause-go g c =
    let done = leads_all g.L.Link.faults g.L.Link.asked (λ (machine : Machine) (sending : Sending). goes c.args.c.now c.args.kernel sending) (IsBegin c.args.kernel) sent_by c.args.sends.now c.args.wire.now c.sends.sends c.sends.wire c.sends.sent (search rules) c.sends.invariant.leads in
    all_go c.args.c.now c.args.kernel c.args.sends.now c.args.wire.now.machine done.steps done.each
