use Rattle.server_facts.proofs.UnlinkedBoot.{boot_has_unlinked}
use Rattle.server_facts.proofs.unlinked.boot_has_unlinked.Goals as goal

pub returns : goal.returns
returns c = boot_has_unlinked
