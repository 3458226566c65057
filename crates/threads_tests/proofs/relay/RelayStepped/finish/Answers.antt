use Rattle.std.proofs.Common.{◌/◌}
use Rattle.threads_tests.proofs.RelayLaws.{moves}
use Rattle.threads_tests.proofs.relay.RelayStepped.finish.Goals as goal

pub returns-else-self-eq0-clause-moves : goal.returns-else-self-eq0-clause-moves
returns-else-self-eq0-clause-moves c = λ running none. moves (c.args.self.now.left / c.args.self.now.plan.stretch) c.args.self.now.plan.kernels c.args.self.now.left c.requires.2
