use Rattle.server_facts.specs.Calls.{CallsStand, KernelsAreCalled}
use Rattle.server_facts.proofs.BootLaws.{boot_has_calls, from_boot}
use Rattle.server_facts.proofs.CallLaws.{step_keeps_calls}
use Rattle.server_facts.proofs.calls.calls_are_out.Goals as goal

pub returns : goal.returns
returns c = from_boot CallsStand KernelsAreCalled step_keeps_calls boot_has_calls (λ s h. h.out)
