use Rattle.std.proofs.Common.{◌≡◌, ◌≤◌, length, take}
use Rattle.std.specs.List.{filter}
use Rattle.kernel_rpc.specs.Machine.{may_come}
use Rattle.kernel_rpc.proofs.queries.count_coming.Given as goal

-- those so far that may come are counted
abbrev pub invariant-loop-copy : goal.invariant-loop-copy
invariant-loop-copy l = record {
  is : l.count ≡ length (filter (may_come l.kernel l.punctual) (take l.copy-index l.copies));
  few : l.count ≤ l.copy-index;
}
