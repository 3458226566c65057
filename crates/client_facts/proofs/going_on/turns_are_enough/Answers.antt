use Rattle.client_facts.proofs.TurnLaws.{turns_are_enough}
use Rattle.client_facts.proofs.going_on.turns_are_enough.Goals as goal

pub returns : goal.returns
returns c = turns_are_enough
