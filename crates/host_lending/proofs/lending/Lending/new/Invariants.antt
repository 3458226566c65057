use Rattle.std.proofs.Common.{◌≡◌, ◌≤◌, ◌+◌, ◌-◌, ◌++◌, map}
use Rattle.host_lending.specs.Lending.{kernels_from}
use Rattle.host_lending.specs.Tables.{busy, busy_hosts}
use Rattle.host_lending.proofs.lending.Lending.new.Given as goal

-- the hosts so far, and then those from the next number on, are all
abbrev pub invariant-fill : goal.invariant-fill
invariant-fill l = record {
  all : l.table.items ++ map busy (kernels_from l.number (l.hosts + 1 - l.number)) ≡ busy_hosts l.hosts;
  least : 1 ≤ l.number;
  within : l.number ≤ l.hosts + 1;
}

abbrev pub decreases-fill : goal.decreases-fill
decreases-fill l = l.hosts + 1 - l.number
