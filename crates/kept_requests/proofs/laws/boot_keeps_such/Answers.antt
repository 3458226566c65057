use Rattle.kept_requests.proofs.StepLaws.{boot_keeps}
use Rattle.kept_requests.proofs.laws.boot_keeps_such.Goals as goal

pub returns : goal.returns
returns c = boot_keeps
