use Rattle.turn_gate.proofs.TurnLaws.{later_on}
use Rattle.kernel_threads.proofs.serving.visit.Goals as goal

pub returns-in-Began-clause-later : goal.returns-in-Began-clause-later
returns-in-Began-clause-later g c = later_on c.args.seat.token.me.0 c.take_turn-seat.result.0.token.me.0 c.end_burst.result.0.token.me.0 c.take_turn-seat.ensures.later c.end_burst.ensures.later
