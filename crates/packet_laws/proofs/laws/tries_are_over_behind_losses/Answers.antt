use Rattle.packet_laws.proofs.ExpiryLaws.{has_loss_before}
use Rattle.packet_laws.proofs.laws.tries_are_over_behind_losses.Goals as goal

pub returns : goal.returns
returns c = has_loss_before
