use Rattle.std.proofs.Common.{◌≡◌, drop, None}
use Rattle.host_lending.specs.Lending.{last_from}
use Rattle.host_lending.specs.Tables.{is_other_host}
use Rattle.host_lending.proofs.lending.Lending.last_other.Given as goal

abbrev pub invariant-loop-host : goal.invariant-loop-host
invariant-loop-host l =
    last_from (is_other_host l.from l.borrower) l.found (drop l.host-index l.self) ≡ last_from (is_other_host l.from l.borrower) None l.self
