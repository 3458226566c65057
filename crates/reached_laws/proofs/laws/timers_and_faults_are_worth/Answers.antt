use Rattle.packet_laws.specs.Worth.{AllGoWell}
use Rattle.packet_laws.proofs.WorthLaws.{all_go_well}
use Rattle.reached_laws.proofs.PacketLaws.{of_wires}
use Rattle.reached_laws.proofs.laws.timers_and_faults_are_worth.Goals as goal

pub returns : goal.returns
returns g c = of_wires g.L.Link.faults g.L.Link.asked AllGoWell all_go_well
