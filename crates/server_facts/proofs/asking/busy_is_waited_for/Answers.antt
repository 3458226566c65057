use Rattle.server_kernel.specs.Facts.{BusyAreWaitedFor}
use Rattle.server_facts.specs.Asking.{AskingStands}
use Rattle.server_facts.proofs.AskingLaws.{step_keeps_asking}
use Rattle.server_facts.proofs.BootLaws.{boot_has_asking, from_boot}
use Rattle.server_facts.proofs.asking.busy_is_waited_for.Goals as goal

pub returns : goal.returns
returns c = from_boot AskingStands BusyAreWaitedFor step_keeps_asking boot_has_asking (λ s h. h.waited)
