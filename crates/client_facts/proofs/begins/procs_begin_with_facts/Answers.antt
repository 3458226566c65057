use Rattle.client_facts.proofs.BootLaws.{procs_begin_with_facts}
use Rattle.client_facts.proofs.begins.procs_begin_with_facts.Goals as goal

pub returns : goal.returns
returns c = procs_begin_with_facts
