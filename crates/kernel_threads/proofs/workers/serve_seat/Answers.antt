use Rattle.std.proofs.Common.{rules}
use Rattle.turn_gate.proofs.TurnLaws.{later_on}
use Rattle.kernel_threads.proofs.workers.serve_seat.Goals as goal

pub returns-then-not-more-clause-later : goal.returns-then-not-more-clause-later
returns-then-not-more-clause-later g c = later_on c.args.seat.token.me.0 c.loop.seat.token.me.0 c.work-back.result.0.token.me.0 c.loop.invariant.later c.work-back.ensures.later

pub loop-preserved : goal.loop-preserved
loop-preserved g c = record {
  table = search rules;
  later = later_on c.args.seat.token.me.0 c.loop.seat.token.me.0 c.work-back.result.0.token.me.0 c.loop.invariant.later c.work-back.ensures.later;
  may_end = c.work-back.ensures.may_end;
}
