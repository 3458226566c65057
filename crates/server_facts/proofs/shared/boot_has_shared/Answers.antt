use Rattle.server_facts.proofs.BootLaws.{boot_has_shared}
use Rattle.server_facts.proofs.shared.boot_has_shared.Goals as goal

pub returns : goal.returns
returns c = boot_has_shared
