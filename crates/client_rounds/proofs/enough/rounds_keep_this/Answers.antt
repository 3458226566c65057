use Rattle.client_rounds.proofs.EnoughLaws.{rounds_keep_this}
use Rattle.client_rounds.proofs.enough.rounds_keep_this.Goals as goal

pub returns : goal.returns
returns c = rounds_keep_this
