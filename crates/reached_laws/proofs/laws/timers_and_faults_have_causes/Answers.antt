use Rattle.packet_laws.proofs.EighthLaws.{last_is_worth}
use Rattle.packet_laws.proofs.ExpiryLaws.{has_loss_before}
use Rattle.packet_laws.proofs.FaultLaws.{has_packet_for_each}
use Rattle.packet_laws.specs.Expiries.{EachHasLoss, EachLastIsWorth}
use Rattle.packet_laws.specs.Faults.{EachFaultHasPacket}
use Rattle.reached_laws.proofs.PacketLaws.{of_wires}
use Rattle.reached_laws.proofs.laws.timers_and_faults_have_causes.Goals as goal

pub returns-clause-losses : goal.returns-clause-losses
returns-clause-losses g c = of_wires g.L.Link.faults g.L.Link.asked EachHasLoss has_loss_before

pub returns-clause-last : goal.returns-clause-last
returns-clause-last g c = of_wires g.L.Link.faults g.L.Link.asked EachLastIsWorth last_is_worth

pub returns-clause-faults : goal.returns-clause-faults
returns-clause-faults g c = of_wires g.L.Link.faults g.L.Link.asked EachFaultHasPacket has_packet_for_each
