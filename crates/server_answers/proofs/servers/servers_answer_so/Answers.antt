use Rattle.server_answers.proofs.ServerLaws.{servers_answer}
use Rattle.server_answers.proofs.servers.servers_answer_so.Goals as goal

pub returns : goal.returns
returns c = servers_answer
