use Rattle.packet_laws.specs.Deliveries.{EachWasSent}
use Rattle.packet_laws.proofs.DeliverLaws.{was_sent_for_each}
use Rattle.reached_laws.proofs.PacketLaws.{of_wires}
use Rattle.reached_laws.proofs.laws.deliveries_have_sendings.Goals as goal

pub returns : goal.returns
returns g c = of_wires g.L.Link.faults g.L.Link.asked EachWasSent was_sent_for_each
