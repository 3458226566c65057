use Rattle.name_states.proofs.StateLaws.{states_name_well}
use Rattle.name_states.proofs.laws.states_name_well.Goals as goal

pub returns : goal.returns
returns c = states_name_well
