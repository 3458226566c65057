use Rattle.cases.proofs.ChanceLaws.{held_still}
use Rattle.cases.proofs.chance.run_by_chance.Goals as goal

pub take_turn-requires-clause-may_end : goal.take_turn-requires-clause-may_end
take_turn-requires-clause-may_end g c = held_still _ _ c.loop-turn.chance.held.items c.finish.ensures.stays.origin_stays c.loop-turn.invariant.may_end
