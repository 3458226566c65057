use Rattle.prefix_laws.proofs.LearnLaws.{servers_learn}
use Rattle.prefix_laws.proofs.prefixes.servers_learn_none.Goals as goal

pub returns : goal.returns
returns c = servers_learn
