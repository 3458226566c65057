use Rattle.std.proofs.Common.{rules, ◌-◌, ◌≤◌, ap, subst}
use Rattle.turn_gate.proofs.TurnLaws.{longer, counts_as, raises_as, after_turn, later_put, idle_again, plain_again}
use Rattle.turn_gate.proofs.gate.Gate.put.Goals as goal

pub fetch_add-requires : goal.fetch_add-requires
fetch_add-requires g c = (
  search rules,
  search rules,
  counts_as _ _ _ _ _ _ c.exchange.new.seat.id c.args.turn.token.me c.exchange.new.seat.me c.args.turn.value (c.length.result - c.args.turn.before) c.args.turn.served c.exchange.ensures.3 c.requires.log
      (longer _ _ _ _ _ c.requires.log.1 c.length.ensures c.args.turn.counted),
)

pub fetch_add-ticket-requires : goal.fetch_add-ticket-requires
fetch_add-ticket-requires g c = (search rules, search rules, raises_as _ _ _ _ _ _ c.fetch_add.new.seat.id c.args.turn.token.me c.exchange.new.seat.me c.fetch_add.new.seat.me c.args.turn.value c.args.turn.served c.exchange.ensures.3 c.fetch_add.ensures.2 c.requires.holds c.requires.origin)

pub invariant_of-result : goal.invariant_of-result
invariant_of-result g c =
    let after = after_turn _ c.args.turn.token.me c.exchange.new.seat.me c.fetch_add.new.seat.me c.fetch_add-ticket.new.seat.me c.args.turn.value c.args.turn.served c.exchange.ensures.3 c.fetch_add.ensures.2 c.fetch_add-ticket.ensures.2 in record {
      idle = idle_again _ c.args.turn.token.me.0 (g.V.Book.log c.args.turn.value) c.args.turn.served.0 after;
      plain = plain_again _ _ c.args.turn.token.me.0 (g.V.Book.log c.args.turn.value) c.args.turn.plain c.requires.log after;
    }

pub returns-clause-later : goal.returns-clause-later
returns-clause-later g c =
    let after = after_turn _ c.args.turn.token.me c.exchange.new.seat.me c.fetch_add.new.seat.me c.fetch_add-ticket.new.seat.me c.args.turn.value c.args.turn.served c.exchange.ensures.3 c.fetch_add.ensures.2 c.fetch_add-ticket.ensures.2 in
    later_put c.args.turn.token.me.0 _ (g.V.Book.log c.args.turn.value) c.requires.log (subst (λ n. c.args.turn.token.me.0.seen ≤ n) c.args.turn.counted c.args.turn.saw) (ap (λ z. z.0) after)
