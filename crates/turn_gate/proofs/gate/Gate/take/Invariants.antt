use Rattle.std.proofs.Common.{◌≡◌, ◌%◌, ◌^◌, ℕ, Some, None, []}
use Rattle.turn_gate.specs.Steps.{with_ticket}
use Rattle.turn_gate.proofs.gate.Gate.take.Given as goal

abbrev pub invariant-loop : goal.invariant-loop
invariant-loop g l = (l.token.table_id ≡ l.fn.seat.token.table_id) × ((t : ℕ) × (l.ticket ≡ t % 2 ^ 64) × (l.token.me ≡ (with_ticket l.fn.seat.token.me.0 (Some t) None, [])))
