use Rattle.kept_requests.proofs.StepLaws.{servers_answer}
use Rattle.kept_requests.proofs.laws.servers_answer_or_keep.Goals as goal

pub returns : goal.returns
returns c = servers_answer
