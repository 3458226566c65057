use Rattle.packet_laws.proofs.FaultLaws.{has_packet_for_each}
use Rattle.packet_laws.proofs.laws.faults_are_of_packets.Goals as goal

pub returns : goal.returns
returns c = has_packet_for_each
