use Rattle.std.proofs.Common.{length}
use Rattle.link_plan.specs.Counts.{Asks}
use Rattle.cluster_wire.specs.Replying.{IsAnswer, answered_by, goes_back}
use Rattle.cluster_wire.proofs.RanLaws.{Leads}
use Rattle.cluster_wire.proofs.calls.answer_all.Given as goal

abbrev pub invariant-answers : goal.invariant-answers
invariant-answers g l = record {
  leads : Leads g.L.Link.faults g.L.Link.asked (goes_back l.kernel) IsAnswer answered_by l.fn.answers l.fn.wire l.answers l.wire l.answered;
  asks : Asks g.L.Link.faults g.L.Link.asked l.kernel l.fn.wire.link l.wire.link l.answered;
}

abbrev pub decreases-answers : goal.decreases-answers
decreases-answers g l = length l.answers
