use Rattle.packet_laws.proofs.DeliverLaws.{was_sent_for_each}
use Rattle.packet_laws.proofs.laws.deliveries_are_of_sendings.Goals as goal

pub returns : goal.returns
returns c = was_sent_for_each
