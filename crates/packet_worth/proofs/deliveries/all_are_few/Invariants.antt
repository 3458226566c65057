use Rattle.std.proofs.Common.{◌≡◌, drop}
use Rattle.std.specs.List.{list_all}
use Rattle.packet_worth.specs.Counts.{is_few_in}
use Rattle.packet_worth.proofs.deliveries.all_are_few.Given as goal

-- the records so far are few
abbrev pub invariant-loop-rec : goal.invariant-loop-rec
invariant-loop-rec l = list_all (is_few_in l.totals) (drop l.rec-index l.trace) ≡ list_all (is_few_in l.fn.totals) l.fn.trace
