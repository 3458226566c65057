use Rattle.std.proofs.Common.{rules, ◌≡◌}
use Rattle.turn_gate.specs.Steps.{Later}
use Rattle.kernel_threads.proofs.SeatLaws.{every_last, every_first, every_pushed}
use Rattle.kernel_threads.proofs.ThreadLaws.{parted_begins, parted_sent, parted_kept, parted_served, parted_done}
use Rattle.kernel_threads.proofs.threads.fn.serve_all.scope.Goals as goal

pub loop-init : goal.loop-init
loop-init g c = record {
  here = c.requires.table;
  away = search rules;
  parted = parted_begins (λ s. s.token.me.0) (λ h. h.promise.was.value.token.me.0) c.captures.seats.items c.captures.workers.items c.requires.none;
  room = search rules;
  places = search rules;
}

pub returns-in_default : goal.returns-in_default
returns-in_default g c = record {
  table = c.join_all.ensures.table;
  later = parted_done (λ s. s.token.me.0) (λ h. h.promise.was.value.token.me.0) c.captures.seats.items c.loop.seats.items c.join_all.result.items c.loop.workers.items c.loop.invariant.parted (search rules);
}

pub spawn_with-requires-clause-runs : goal.spawn_with-requires-clause-runs
spawn_with-requires-clause-runs g c = let last : c.in-Some.seat.token.table_id ≡ c.captures.gate.now.table.shared.table_id = every_last (λ s. s.token.table_id ≡ c.captures.gate.now.table.shared.table_id) c.loop.seats.items c.pop.new.self.items c.in-Some.seat c.in-Some.ensures.items c.loop.invariant.here in search (rules, last)

pub serve_beside-seats-requires : goal.serve_beside-seats-requires
serve_beside-seats-requires g c =
    let last : c.in-Some.seat.token.table_id ≡ c.captures.gate.now.table.shared.table_id = every_last (λ s. s.token.table_id ≡ c.captures.gate.now.table.shared.table_id) c.loop.seats.items c.pop.new.self.items c.in-Some.seat c.in-Some.ensures.items c.loop.invariant.here in
    let one : c.spawn_with-in-Err.result.token.table_id ≡ c.captures.gate.now.table.shared.table_id = search (rules, last) in
    every_pushed (λ s. s.token.table_id ≡ c.captures.gate.now.table.shared.table_id) c.pop.new.self.items c.push_reserved-in-Err.new.self.items c.spawn_with-in-Err.result c.push_reserved-in-Err.ensures.items
    (every_first (λ s. s.token.table_id ≡ c.captures.gate.now.table.shared.table_id) c.loop.seats.items c.pop.new.self.items c.in-Some.seat c.in-Some.ensures.items c.loop.invariant.here)
    one

pub returns-in-Err : goal.returns-in-Err
returns-in-Err g c = record {
  table = c.join_all-in-Err.ensures.table;
  later =
      let one : Later c.in-Some.seat.token.me.0 c.spawn_with-in-Err.result.token.me.0 = search (rules, c.spawn_with-in-Err.ensures.later) in
      let kept = parted_kept (λ s. s.token.me.0) (λ h. h.promise.was.value.token.me.0) c.captures.seats.items c.loop.seats.items c.pop.new.self.items c.push_reserved-in-Err.new.self.items c.loop.workers.items c.in-Some.seat c.spawn_with-in-Err.result c.in-Some.ensures.items c.push_reserved-in-Err.ensures.items one c.loop.invariant.parted in
      parted_served (λ s. s.token.me.0) (λ h. h.promise.was.value.token.me.0) c.captures.seats.items c.push_reserved-in-Err.new.self.items c.serve_beside-seats.result.items c.join_all-in-Err.result.items c.loop.workers.items c.serve_beside-seats.ensures.later c.join_all-in-Err.ensures.later kept;
}

pub loop-preserved : goal.loop-preserved
loop-preserved g c = let last : c.in-Some.seat.token.table_id ≡ c.captures.gate.now.table.shared.table_id = every_last (λ s. s.token.table_id ≡ c.captures.gate.now.table.shared.table_id) c.loop.seats.items c.pop.new.self.items c.in-Some.seat c.in-Some.ensures.items c.loop.invariant.here in record {
  here = every_first (λ s. s.token.table_id ≡ c.captures.gate.now.table.shared.table_id) c.loop.seats.items c.pop.new.self.items c.in-Some.seat c.in-Some.ensures.items c.loop.invariant.here;
  away = every_pushed (λ h. h.promise.was.value.token.table_id ≡ c.captures.gate.now.table.shared.table_id) c.loop.workers.items c.push_reserved.new.self.items c.in-Ok.worker c.push_reserved.ensures.items c.loop.invariant.away (search (rules, last));
  parted = parted_sent (λ s. s.token.me.0) (λ h. h.promise.was.value.token.me.0) c.captures.seats.items c.loop.seats.items c.pop.new.self.items c.loop.workers.items c.push_reserved.new.self.items c.in-Some.seat c.in-Ok.worker c.in-Some.ensures.items c.push_reserved.ensures.items (search rules) c.loop.invariant.parted;
  room = search rules;
  places = search rules;
}

pub returns : goal.returns
returns g c = record {
  table = c.join_all-2.ensures.table;
  later = parted_done (λ s. s.token.me.0) (λ h. h.promise.was.value.token.me.0) c.captures.seats.items c.loop.seats.items c.join_all-2.result.items c.loop.workers.items c.loop.invariant.parted c.join_all-2.ensures.later;
}
