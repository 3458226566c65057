use Rattle.std.proofs.Common.{length}
use Rattle.server_restart.proofs.claiming.+reopen_all.Given as goal

abbrev pub decreases-reopen_all : goal.decreases-reopen_all
decreases-reopen_all l = length l.streams.now
