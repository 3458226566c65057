use Rattle.std.proofs.Common.{length}
use Rattle.server_restart.proofs.stepping.+read_opens.Given as goal

abbrev pub decreases-read_opens : goal.decreases-read_opens
decreases-read_opens l = length l.noted.now
