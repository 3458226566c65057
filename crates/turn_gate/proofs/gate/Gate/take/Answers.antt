use Rattle.std.proofs.Common.{rules, Some, ap, ◌∙◌}
use Rattle.turn_gate.proofs.StepLaws.{draws}
use Rattle.turn_gate.proofs.TurnLaws.{looks_as, got, front}
use Rattle.turn_gate.proofs.gate.Gate.take.Goals as goal

pub fetch_add-ticket-requires : goal.fetch_add-ticket-requires
fetch_add-ticket-requires g c = (search rules, search rules, draws _ _ _ _ _ _ _ c.args.seat.token.me c.args.seat.idle)

pub load-requires : goal.load-requires
load-requires g c = let i = c.loop.invariant in (search rules, search rules, looks_as _ _ _ _ _ _ _ i.1.0 c.args.seat.token.me.0 c.loop.token.me c.args.seat.idle.0 i.1.2)

pub exchange-requires : goal.exchange-requires
exchange-requires g c =
    let i = c.loop.invariant in
    let r = got _ _ _ i.1.0 c.args.seat.token.me.0 c.loop.token.me c.load.new.seat.me c.load.result i.1.2 c.load.ensures.2 (c.if-load-ticket.true ∙ i.1.1) in
    (search rules, (Some r.0, front c.load.new.seat.me.1 (Some r.0) (ap (λ z. z.1) r.1)))
