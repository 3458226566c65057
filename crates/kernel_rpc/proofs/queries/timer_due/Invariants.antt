use Rattle.std.proofs.Common.{◌≡◌, drop, map, slice_get}
use Rattle.std.specs.List.{filter}
use Rattle.kernel_rpc.specs.declared.call.Call.{Call}
use Rattle.kernel_rpc.specs.Machine.{is_due_at}
use Rattle.kernel_rpc.proofs.queries.timer_due.Given as goal

-- at the place that is left, of those to come, stands what is looked for
abbrev pub invariant-loop-at : goal.invariant-loop-at
invariant-loop-at l = slice_get (map (λ (call : Call). call.tx) (filter (is_due_at l.kernel l.table.copies.items) (drop l.at l.table.unfinished.items))) l.left
    ≡ slice_get (map (λ (call : Call). call.tx) (filter (is_due_at l.kernel l.table.copies.items) l.table.unfinished.items)) l.place
