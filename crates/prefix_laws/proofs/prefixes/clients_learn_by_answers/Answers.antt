use Rattle.prefix_laws.proofs.LearnLaws.{clients_answered}
use Rattle.prefix_laws.proofs.prefixes.clients_learn_by_answers.Goals as goal

pub returns : goal.returns
returns c = clients_answered
