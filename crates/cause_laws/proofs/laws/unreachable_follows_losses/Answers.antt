use Rattle.cause_laws.proofs.LossLaws.{follows_losses}
use Rattle.cause_laws.proofs.laws.unreachable_follows_losses.Goals as goal

pub returns : goal.returns
returns c = follows_losses
