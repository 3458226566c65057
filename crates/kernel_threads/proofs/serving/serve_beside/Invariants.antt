use Rattle.std.proofs.Common.{◌≡◌, All, map, vec_capacity, vec_len}
use Rattle.kernel_threads.specs.Seats.{AreLater}
use Rattle.kernel_threads.proofs.serving.serve_beside.Given as goal

abbrev pub invariant-loop : goal.invariant-loop
invariant-loop g l = record {
  table : All (λ s. s.token.table_id ≡ l.gate.table.shared.table_id) l.seats.items;
  later : AreLater (map (λ s. s.token.me.0) l.fn.seats.items) (map (λ s. s.token.me.0) l.seats.items);
  len : vec_len l.seats ≡ vec_len l.fn.seats;
  capacity : vec_capacity l.seats ≡ vec_capacity l.fn.seats;
}
