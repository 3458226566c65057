use Rattle.std.proofs.Common.{◌≡◌, ◌≤◌, length, take}
use Rattle.std.specs.List.{filter}
use Rattle.kernel_rpc.specs.Machine.{is_due_at}
use Rattle.kernel_rpc.proofs.queries.timers_due.Given as goal

-- those so far whose timer may fire are counted
abbrev pub invariant-loop-at : goal.invariant-loop-at
invariant-loop-at l = record {
  is : l.count ≡ length (filter (is_due_at l.kernel l.table.copies.items) (take l.at l.table.unfinished.items));
  few : l.count ≤ l.at;
}
