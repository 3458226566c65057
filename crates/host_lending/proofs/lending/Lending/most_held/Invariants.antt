use Rattle.std.proofs.Common.{◌≡◌, drop}
use Rattle.host_lending.specs.Tables.{most_among}
use Rattle.host_lending.proofs.lending.Lending.most_held.Given as goal

abbrev pub invariant-loop-host : goal.invariant-loop-host
invariant-loop-host l = most_among l.self l.borrower l.most (drop l.host-index l.self) ≡ most_among l.self l.borrower 0 l.self
