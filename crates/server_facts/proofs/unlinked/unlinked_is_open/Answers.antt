use Rattle.server_kernel.specs.Facts.{UnlinkedAreOpen}
use Rattle.server_facts.specs.Unlinked.{UnlinkedStand}
use Rattle.server_facts.proofs.BootLaws.{from_boot}
use Rattle.server_facts.proofs.UnlinkedBoot.{boot_has_unlinked}
use Rattle.server_facts.proofs.UnlinkedLaws.{step_keeps_unlinked}
use Rattle.server_facts.proofs.unlinked.unlinked_is_open.Goals as goal

pub returns : goal.returns
returns c = from_boot UnlinkedStand UnlinkedAreOpen step_keeps_unlinked boot_has_unlinked (λ s h. h.opens)
