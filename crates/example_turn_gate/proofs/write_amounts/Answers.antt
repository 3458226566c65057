use Rattle.std.proofs.Common.{◌∙◌}
use Rattle.turn_gate.proofs.TurnLaws.{later_on}
use Rattle.example_turn_gate.proofs.write_amounts.Goals as goal

pub loop-amount-preserved : goal.loop-amount-preserved
loop-amount-preserved g c =
    let i = c.loop-amount.invariant in record {
      table = c.put-seat.ensures.table ∙ (c.take-turn.ensures.table ∙ i.table);
      later = later_on c.args.seat.token.me.0 c.loop-amount.seat.token.me.0 c.put-seat.result.token.me.0 i.later (later_on c.loop-amount.seat.token.me.0 _ c.put-seat.result.token.me.0 c.take-turn.ensures.later c.put-seat.ensures.later);
    }
