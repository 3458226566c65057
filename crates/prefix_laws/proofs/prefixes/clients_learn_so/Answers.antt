use Rattle.prefix_laws.proofs.LearnLaws.{clients_learn}
use Rattle.prefix_laws.proofs.prefixes.clients_learn_so.Goals as goal

pub returns : goal.returns
returns c = clients_learn
