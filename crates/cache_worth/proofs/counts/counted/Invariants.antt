use Rattle.std.proofs.Common.{take}
use Rattle.cache_worth.specs.Counts.{TellsCounts}
use Rattle.cache_worth.proofs.counts.counted.Given as goal

-- the records so far are counted
abbrev pub invariant-loop-rec : goal.invariant-loop-rec
invariant-loop-rec l = TellsCounts l.counts.entries (take l.rec-index l.trace)
