use Rattle.std.proofs.Common.{arith, rules, ltb, ◌≡◌, true, get_or, subst, sym, ◌∙◌}
use Rattle.std.proofs.lemmas.List.Sorted.{IsPartitionPoint-from_clause, IsPartitionedBy-ltb}
use Rattle.kernel_rpc.specs.declared.call.Call.{Call}
use Rattle.kernel_rpc.specs.Machine.{is_call}
use Rattle.kernel_rpc.proofs.CountLaws.{apart_below, none_there, position_is, position_none, some_call}
use Rattle.kernel_rpc.proofs.calls.place_of.Goals as goal
use Rattle.kernel_rpc.proofs.calls.place_of.Goals.{else-at-calls-via-then-at-calls+else-eq, else-at-calls-via-else-at-calls}

pub returns-then-eq : goal.returns-then-eq
returns-then-eq c =
    let parted = IsPartitionedBy-ltb (λ (call : Call). call.tx.0) _ c.args.tx.0 c.requires in
    let point = IsPartitionPoint-from_clause (λ (call : Call). ltb call.tx.0 c.args.tx.0) _ _ c.partition_point-at.ensures.partitioned parted (λ a r q k. search rules) in
    sym (position_is (is_call c.args.tx) c.args.calls.now c.partition_point-at.result c.index-calls-at.result (omega arith) (subst (λ (call : Call). is_call c.args.tx call ≡ true) c.index-calls-at.is (search rules)) (λ k under. apart_below c.args.tx (get_or c.args.calls.now k c.index-calls-at.result) (point.0 k c.index-calls-at.result (omega arith) under)))

pub returns : goal.returns
returns c =
    let parted = IsPartitionedBy-ltb (λ (call : Call). call.tx.0) _ c.args.tx.0 c.requires in
    let point = IsPartitionPoint-from_clause (λ (call : Call). ltb call.tx.0 c.args.tx.0) _ _ c.partition_point-at.ensures.partitioned parted (λ a r q k. search rules) in
    elim c.else-at-calls.branch [ else-at-calls-via-then-at-calls+else-eq w ↦ sym (none_there c.args.tx c.args.calls.now c.partition_point-at.result w.index-calls-at.result c.requires w.if-at-calls.true (sym w.eq.ensures ∙ w.if-eq.false) (λ k under. point.0 k w.index-calls-at.result (omega arith) under) (point.1 c.partition_point-at.result w.index-calls-at.result (omega arith) w.if-at-calls.true)) | else-at-calls-via-else-at-calls w ↦ sym (position_none (is_call c.args.tx) c.args.calls.now some_call (λ k under. apart_below c.args.tx (get_or c.args.calls.now k some_call) (point.0 k some_call (omega arith) (omega arith)))) ]
