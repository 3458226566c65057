use Rattle.client_facts.proofs.BootLaws.{homes_begin_with_facts}
use Rattle.client_facts.proofs.begins.homes_begin_with_facts.Goals as goal

pub returns : goal.returns
returns c = homes_begin_with_facts
