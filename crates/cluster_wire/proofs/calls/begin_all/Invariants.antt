use Rattle.std.proofs.Common.{length}
use Rattle.kernel_rpc.specs.Machine.{Machine}
use Rattle.kernel_steps.specs.declared.Sending.{Sending}
use Rattle.link_plan.specs.Counts.{Asks}
use Rattle.cluster_wire.specs.Calling.{IsBegin, sent_by}
use Rattle.cluster_wire.specs.Faults.{packets}
use Rattle.cluster_wire.specs.Goings.{goes}
use Rattle.cluster_wire.proofs.RanLaws.{Leads}
use Rattle.cluster_wire.proofs.calls.begin_all.Given as goal

abbrev pub invariant-sends : goal.invariant-sends
invariant-sends g l = record {
  leads : Leads g.L.Link.faults g.L.Link.asked (λ (machine : Machine) (sending : Sending). goes l.fn.c l.fn.kernel sending) (IsBegin l.fn.kernel) sent_by l.fn.sends l.fn.wire l.sends l.wire l.sent;
  asks : Asks g.L.Link.faults g.L.Link.asked l.kernel l.fn.wire.link l.wire.link (packets l.sent);
}

abbrev pub decreases-sends : goal.decreases-sends
decreases-sends g l = length l.sends
