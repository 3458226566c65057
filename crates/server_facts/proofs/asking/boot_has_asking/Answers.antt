use Rattle.server_facts.proofs.BootLaws.{boot_has_asking}
use Rattle.server_facts.proofs.asking.boot_has_asking.Goals as goal

pub returns : goal.returns
returns c = boot_has_asking
