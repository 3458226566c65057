use Rattle.std.proofs.Common.{drop}
use Rattle.packet_worth.specs.Counts.{Counting}
use Rattle.packet_worth.proofs.deliveries.totals_of.Given as goal

-- the records so far are counted
abbrev pub invariant-loop-rec : goal.invariant-loop-rec
invariant-loop-rec l = Counting l.totals l.fn.trace (drop l.rec-index l.fn.trace)
