use Rattle.std.proofs.Common.{rules}
use Rattle.cluster_wire.specs.Replying.{IsAnswer, answered_by, goes_back}
use Rattle.cluster_wire.proofs.LinkLaws.{asks_more}
use Rattle.cluster_wire.proofs.RanLaws.{leads_all, leads_on}
use Rattle.cluster_wire.proofs.ReplyLaws.{did_answer}
use Rattle.cluster_wire.proofs.calls.answer_all.Goals as goal

pub answers-preserved : goal.answers-preserved
answers-preserved g c = record {
  leads = leads_on g.L.Link.faults g.L.Link.asked (goes_back c.args.kernel) IsAnswer answered_by c.args.answers.now c.args.wire.now c.answers.answers c.remove-body.new.self c.remove-body.result c.answers.wire c.answer.new.wire c.answers.answered c.answer.new.answered
      c.remove-body.ensures.value c.remove-body.ensures.list (did_answer g.L.Link.faults g.L.Link.asked c.args.kernel c.remove-body.result c.answers.wire c.answer.new.wire c.answers.answered c.answer.new.answered c.in_ok-answer.ensures.answered) c.answers.invariant.leads;
  asks = asks_more g.L.Link.faults g.L.Link.asked c.args.kernel c.args.wire.now.link c.answers.wire.link c.answer.new.wire.link c.answers.answered c.answer.new.answered c.answers.invariant.asks c.in_ok-answer.ensures.asked;
}

pub returns-clause-answered : goal.returns-clause-answered
returns-clause-answered g c =
    leads_all g.L.Link.faults g.L.Link.asked (goes_back c.args.kernel) IsAnswer answered_by c.args.answers.now c.args.wire.now c.answers.answers c.answers.wire c.answers.answered (search rules) c.answers.invariant.leads
