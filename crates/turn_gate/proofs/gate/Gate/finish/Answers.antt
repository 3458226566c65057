use Rattle.std.proofs.Common.{rules, ◌≡◌, sym, ap, ◌∙◌}
use Rattle.turn_gate.proofs.SmallLaws.{none_not}
use Rattle.turn_gate.proofs.SeatLaws.{every_head, every_tail, joins_as, idle_joined}
use Rattle.turn_gate.proofs.EndLaws.{finished, taken_is, gathered_done, gathered_on, ended_at, holds_at}
use Rattle.turn_gate.proofs.gate.Gate.finish.Goals as goal

pub join_seat-requires : goal.join_seat-requires
join_seat-requires g c =
    let i = c.loop-seat.invariant in (
      i.table,
      every_head (λ s. s.token.table_id ≡ c.args.self.table.shared.table_id) c.loop-seat.seat-iterator.rest.items c.next.new.self.rest.items c.in-Some.seat c.in-Some.ensures.steps.0 i.others,
      c.in-Some.seat.idle.3,
      search rules,
      joins_as _ _ _ _ _ c.loop-seat.token.id c.loop-seat.token.me c.in-Some.seat.token.id c.in-Some.seat.token.me i.idle c.in-Some.seat.idle,
    )

pub loop-seat-preserved : goal.loop-seat-preserved
loop-seat-preserved g c =
    let i = c.loop-seat.invariant in let j = c.join_seat.ensures in record {
      next = search rules;
      finite = search rules;
      table = j.0 ∙ i.table;
      idle = idle_joined c.loop-seat.token.me c.join_seat.new.seat.me c.in-Some.seat.token.me.0 i.idle j.2;
      others = every_tail (λ s. s.token.table_id ≡ c.args.self.table.shared.table_id) c.loop-seat.seat-iterator.rest.items c.next.new.self.rest.items c.in-Some.seat c.in-Some.ensures.steps.0 i.others;
      all = gathered_on _ c.loop-seat.token.me.0 c.join_seat.new.seat.me.0 _ c.loop-seat.seat-iterator.rest.items c.next.new.self.rest.items c.in-Some.seat i.all c.in-Some.ensures.steps.0 (ap (λ z. z.0) j.2);
    }

pub unreachable-requires : goal.unreachable-requires
unreachable-requires g c =
    let i = c.loop-seat.invariant in
    let e = finished _ _ _ _ _ _ c.loop-seat.token.id c.loop-seat.token.me _ _ c.requires.all i.idle (gathered_done _ c.loop-seat.token.me.0 _ c.loop-seat.seat-iterator.rest.items i.all (search rules)) c.close_with-closed.ensures.values.2 in
    none_not e.0 (sym c.in-None-value.is ∙ taken_is _ e.0 c.take-value.result e.1 c.take-value.ensures.value)

pub returns-clause-ended : goal.returns-clause-ended
returns-clause-ended g c =
    let i = c.loop-seat.invariant in
    let e = finished _ _ _ _ _ _ c.loop-seat.token.id c.loop-seat.token.me _ _ c.requires.all i.idle (gathered_done _ c.loop-seat.token.me.0 _ c.loop-seat.seat-iterator.rest.items i.all (search rules)) c.close_with-closed.ensures.values.2 in
    ended_at g.V.Book.origin g.V.Book.log _ _ _ e.0 c.in-Some-value.value c.take-value.result (taken_is _ e.0 c.take-value.result e.1 c.take-value.ensures.value) c.in-Some-value.is e.2

pub returns-clause-holds : goal.returns-clause-holds
returns-clause-holds g c =
    let i = c.loop-seat.invariant in
    let e = finished _ _ _ _ _ _ c.loop-seat.token.id c.loop-seat.token.me _ _ c.requires.all i.idle (gathered_done _ c.loop-seat.token.me.0 _ c.loop-seat.seat-iterator.rest.items i.all (search rules)) c.close_with-closed.ensures.values.2 in
    holds_at g.V.Book.holds e.0 c.in-Some-value.value c.take-value.result (taken_is _ e.0 c.take-value.result e.1 c.take-value.ensures.value) c.in-Some-value.is e.3
