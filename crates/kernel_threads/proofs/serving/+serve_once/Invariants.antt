use Rattle.std.proofs.Common.{length}
use Rattle.kernel_threads.proofs.serving.+serve_once.Given as goal

abbrev pub decreases-serve_once : goal.decreases-serve_once
decreases-serve_once g l = length l.seats.items
