use Rattle.reached_clients.proofs.TakenLaws.{taken_is_new}
use Rattle.reached_clients.proofs.laws.what_is_taken_is_new.Goals as goal

pub returns : goal.returns
returns c = taken_is_new
