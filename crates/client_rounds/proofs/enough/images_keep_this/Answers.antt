use Rattle.client_rounds.proofs.BeginLaws.{images_keep_this}
use Rattle.client_rounds.proofs.enough.images_keep_this.Goals as goal

pub returns : goal.returns
returns c = images_keep_this
