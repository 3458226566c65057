use Rattle.std.proofs.Common.{length}
use Rattle.file_coherence.proofs.data.+advance.Given as goal

abbrev pub decreases-advance : goal.decreases-advance
decreases-advance l = length l.waiting.now
