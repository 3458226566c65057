use Rattle.std.proofs.Common.{drop}
use Rattle.trace_walk.specs.Walks.{Walking}
use Rattle.trace_walk.proofs.walking.walk.Given as goal

-- what is told of the records so far
abbrev pub invariant-loop-rec : goal.invariant-loop-rec
invariant-loop-rec g l = Walking l.fn.c l.fn.most l.fn.trace (g.W.Watches.tells l.fn.c l.fn.trace l.watch) (drop l.rec-index l.fn.trace) l.place l.cost l.world l.processes
