use Rattle.packet_laws.proofs.WorthLaws.{all_go_well}
use Rattle.packet_laws.proofs.laws.timers_and_faults_are_worth.Goals as goal

pub returns : goal.returns
returns c = all_go_well
