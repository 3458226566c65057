use Rattle.std.proofs.Common.{◌≡◌, All, map}
use Rattle.turn_gate.specs.Steps.{IsIdle}
use Rattle.turn_gate.specs.Ended.{gathered, gathered_to}
use Rattle.turn_gate.proofs.gate.Gate.finish.Given as goal

abbrev pub invariant-loop-seat : goal.invariant-loop-seat
invariant-loop-seat g l = record {
  next : (goal.iterator-loop-seat g).can_next l.seat-iterator;
  finite : (goal.iterator-loop-seat g).is_finite l.seat-iterator;
  table : l.token.table_id ≡ l.table.shared.table_id;
  idle : IsIdle l.token.me;
  others : All (λ s. s.token.table_id ≡ l.table.shared.table_id) l.seat-iterator.rest.items;
  all : gathered_to l.token.me.0 (map (λ s. s.token.me.0) l.seat-iterator.rest.items) ≡ gathered (map (λ s. s.token.me.0) l.fn.seats.items);
}
