use Rattle.std.proofs.Common.{rules, map}
use Rattle.kernel_threads.proofs.SeatLaws.{are_later_begin, are_later_on}
use Rattle.kernel_threads.proofs.serving.serve_beside.Goals as goal

pub loop-init : goal.loop-init
loop-init g c = record {
  table = search rules;
  later = are_later_begin (map (λ s. s.token.me.0) c.args.seats.items);
  len = search rules;
  capacity = search rules;
}

pub returns-then-not-more-clause-later : goal.returns-then-not-more-clause-later
returns-then-not-more-clause-later g c =
    are_later_on (map (λ s. s.token.me.0) c.args.seats.items) (map (λ s. s.token.me.0) c.loop.seats.items) (map (λ s. s.token.me.0) c.serve_once-back.result.0.items) c.loop.invariant.later c.serve_once-back.ensures.later

pub loop-preserved : goal.loop-preserved
loop-preserved g c = record {
  table = search rules;
  later = are_later_on (map (λ s. s.token.me.0) c.args.seats.items) (map (λ s. s.token.me.0) c.loop.seats.items) (map (λ s. s.token.me.0) c.serve_once-back.result.0.items) c.loop.invariant.later c.serve_once-back.ensures.later;
  len = search rules;
  capacity = search rules;
}
