use Rattle.std.proofs.Common.{◌≡◌, IfSome}
use Rattle.turn_gate.specs.Steps.{Later}
use Rattle.kernel_threads.specs.Seats.{MayEndAt}
use Rattle.kernel_threads.proofs.workers.serve_seat.Given as goal

abbrev pub invariant-loop : goal.invariant-loop
invariant-loop g l = record {
  table : l.seat.token.table_id ≡ l.fn.seat.token.table_id;
  later : Later l.fn.seat.token.me.0 l.seat.token.me.0;
  may_end : IfSome l.burst (MayEndAt g.V.Stepped.may_end l.seat.token.me.0.origin);
}
