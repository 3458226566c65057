use Rattle.server_facts.proofs.BootLaws.{boot_has_calls}
use Rattle.server_facts.proofs.calls.boot_has_calls.Goals as goal

pub returns : goal.returns
returns c = boot_has_calls
