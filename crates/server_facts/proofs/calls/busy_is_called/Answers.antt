use Rattle.server_facts.specs.Calls.{BusyIsCalled, BusyStands}
use Rattle.server_facts.proofs.BootLaws.{boot_has_busy, from_boot}
use Rattle.server_facts.proofs.BusyLaws.{step_keeps_busy}
use Rattle.server_facts.proofs.calls.busy_is_called.Goals as goal

pub returns : goal.returns
returns c = from_boot BusyStands BusyIsCalled step_keeps_busy boot_has_busy (λ s h. h.busy)
