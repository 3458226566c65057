use Rattle.server_facts.specs.Asking.{AskingIsAction, AskingStands}
use Rattle.server_facts.proofs.AskingLaws.{step_keeps_asking}
use Rattle.server_facts.proofs.BootLaws.{boot_has_asking, from_boot}
use Rattle.server_facts.proofs.asking.asking_is_action.Goals as goal

pub returns : goal.returns
returns c = from_boot AskingStands AskingIsAction step_keeps_asking boot_has_asking (λ s h. h.action)
