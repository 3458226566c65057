use Rattle.std.proofs.Common.{◌≡◌, drop}
use Rattle.std.specs.List.{list_any}
use Rattle.kernel_rpc.specs.Machine.{is_due}
use Rattle.kernel_rpc.proofs.queries.has_due.Given as goal

-- none so far
abbrev pub invariant-loop-at : goal.invariant-loop-at
invariant-loop-at l = list_any (is_due l.table.copies.items) (drop l.at l.table.unfinished.items) ≡ list_any (is_due l.table.copies.items) l.table.unfinished.items
