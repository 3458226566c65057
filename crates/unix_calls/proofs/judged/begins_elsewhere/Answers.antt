use Rattle.std.proofs.Common.{refl}
use Rattle.std.specs.Fmt.{digits}
use Rattle.process_machine.specs.Runs.{call_bound}
use Rattle.unix_calls.proofs.judged.begins_elsewhere.Goals as goal

pub returns-clause-output : goal.returns-clause-output
unfolding call_bound digits
returns-clause-output c = refl
