use Rattle.std.proofs.Common.{drop, count_by}
use Rattle.std.proofs.lemmas.List.{drop_all}
use Rattle.call_journal.specs.Matching.{has_event}
use Rattle.call_journal.specs.WorthSends.{is_free_send}
use Rattle.trace_rules.specs.Lists.{counted_all}
use Rattle.trace_counts.specs.CountLaws.{counted_next}
use Rattle.send_worth.proofs.free_sends.free_sends.Goals as goal

pub loop-rec-preserved : goal.loop-rec-preserved
loop-rec-preserved c =
    let all = count_by (has_event is_free_send) c.args.trace.now in
    counted_next (has_event is_free_send) c.args.trace.now c.loop-rec.rec-index c.rec-item.result c.loop-rec.count c.in_ok-count.count all c.is_free_send.result c.loop-rec-test.true c.rec-item.is c.loop-rec.invariant c.in_ok-count.ensures.sum c.is_free_send.ensures

pub returns : goal.returns
returns c =
    let trace = c.args.trace.now in
    counted_all (has_event is_free_send) c.loop-rec.count (count_by (has_event is_free_send) trace) (drop c.loop-rec.rec-index trace) (drop_all c.loop-rec.rec-index trace c.loop-rec-test.false) c.loop-rec.invariant
