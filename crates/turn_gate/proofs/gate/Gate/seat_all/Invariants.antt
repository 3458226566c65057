use Rattle.std.proofs.Common.{◌≡◌, ◌≤◌, ◌+◌, [], All, map, length, vec_capacity}
use Rattle.turn_gate.specs.Ended.{opener, newcomers}
use Rattle.turn_gate.proofs.gate.Gate.seat_all.Given as goal

abbrev pub invariant-loop-tally : goal.invariant-loop-tally
invariant-loop-tally g l = record {
  low : 1 ≤ l.tally;
  high : l.tally ≤ l.seats;
  table : l.first.table_id ≡ l.self.table.shared.table_id;
  first : l.first.me ≡ (opener (g.V.Book.origin l.self.table.shared.key.value) (g.V.Book.log l.self.table.shared.key.value) l.tally, []);
  row : map (λ s. s.token.me.0) l.row.items ≡ newcomers (g.V.Book.origin l.self.table.shared.key.value) (g.V.Book.log l.self.table.shared.key.value) 1 (length l.row.items);
  tables : All (λ s. s.token.table_id ≡ l.self.table.shared.table_id) l.row.items;
  long : length l.row.items + 1 ≡ l.tally;
  room : l.seats ≤ vec_capacity l.row;
}
