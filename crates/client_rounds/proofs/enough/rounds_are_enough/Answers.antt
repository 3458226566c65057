use Rattle.client_rounds.proofs.EnoughLaws.{rounds_are_enough}
use Rattle.client_rounds.proofs.enough.rounds_are_enough.Goals as goal

pub returns : goal.returns
returns c = rounds_are_enough
