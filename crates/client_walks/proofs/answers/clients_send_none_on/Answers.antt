use Rattle.client_walks.proofs.AnswerLaws.{send_none_on}
use Rattle.client_walks.proofs.answers.clients_send_none_on.Goals as goal

pub returns : goal.returns
returns c = send_none_on
