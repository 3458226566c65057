use Rattle.server_facts.proofs.BootLaws.{shared_is_counted}
use Rattle.server_facts.proofs.shared.shared_is_counted.Goals as goal

pub returns : goal.returns
returns c = shared_is_counted
