use Rattle.std.proofs.Common.{◌≡◌, ◌≤◌, ◌+◌, All, map, vec_capacity, vec_len}
use Rattle.kernel_threads.specs.Seats.{Parted}
use Rattle.kernel_threads.proofs.threads.fn.serve_all.scope.Given as goal

abbrev pub invariant-loop : goal.invariant-loop
invariant-loop g l = record {
  here : All (λ s. s.token.table_id ≡ l.gate.table.shared.table_id) l.seats.items;
  away : All (λ h. h.promise.was.value.token.table_id ≡ l.gate.table.shared.table_id) l.workers.items;
  parted : Parted (map (λ s. s.token.me.0) l.initial.seats.items) (map (λ s. s.token.me.0) l.seats.items) (map (λ h. h.promise.was.value.token.me.0) l.workers.items);
  room : vec_len l.seats + vec_len l.workers ≤ vec_capacity l.seats;
  places : vec_len l.seats + vec_len l.workers ≤ vec_capacity l.workers;
}
