use Rattle.client_facts.proofs.TurnLaws.{going_on_keeps}
use Rattle.client_facts.proofs.going_on.going_on_keeps.Goals as goal

pub returns : goal.returns
returns c = going_on_keeps
