use Rattle.std.proofs.Common.{length}
use Rattle.file_coherence.proofs.serving.+serve_all.Given as goal

abbrev pub decreases-serve_all : goal.decreases-serve_all
decreases-serve_all l = length l.waiting.now
