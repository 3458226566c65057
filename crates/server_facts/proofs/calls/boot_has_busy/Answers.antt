use Rattle.server_facts.proofs.BootLaws.{boot_has_busy}
use Rattle.server_facts.proofs.calls.boot_has_busy.Goals as goal

pub returns : goal.returns
returns c = boot_has_busy
