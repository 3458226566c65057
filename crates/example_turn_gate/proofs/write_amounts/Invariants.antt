use Rattle.std.proofs.Common.{◌≡◌}
use Rattle.turn_gate.specs.Steps.{Later}
use Rattle.example_turn_gate.proofs.write_amounts.Given as goal

abbrev pub invariant-loop-amount : goal.invariant-loop-amount
invariant-loop-amount g l = record {
  table : l.seat.token.table_id ≡ l.fn.seat.token.table_id;
  later : Later l.fn.seat.token.me.0 l.seat.token.me.0;
}
