use Rattle.std.proofs.Common.{length}
use Rattle.server_restart.proofs.stepping.+least_ready.Given as goal

abbrev pub decreases-least_ready : goal.decreases-least_ready
decreases-least_ready l = length l.calls.now
