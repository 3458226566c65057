use Rattle.unix_laws.proofs.StreamLaws.{streams_stay_home}
use Rattle.unix_laws.proofs.laws.streams_stay_home.Goals as goal

pub returns : goal.returns
returns c = streams_stay_home
