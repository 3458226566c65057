use Rattle.std.proofs.Common.{arith, rules, ltb, ◌≡◌, true, get_or, subst, sym, ◌∙◌}
use Rattle.std.proofs.lemmas.List.Sorted.{IsPartitionPoint-from_clause, IsPartitionedBy-ltb}
use Rattle.kernel_rpc.specs.declared.call.PacketCopy.{PacketCopy}
use Rattle.kernel_rpc.specs.Machine.{is_copy}
use Rattle.kernel_rpc.proofs.CountLaws.{position_is, position_none}
use Rattle.kernel_rpc.proofs.RiseLaws.{copy_below, no_copy, some_copy}
use Rattle.kernel_rpc.proofs.copies.place_of.Goals as goal
use Rattle.kernel_rpc.proofs.copies.place_of.Goals.{else-at-copies-via-then-at-copies+else-eq, else-at-copies-via-else-at-copies}

pub returns-then-eq : goal.returns-then-eq
returns-then-eq c =
    let parted = IsPartitionedBy-ltb (λ (copy : PacketCopy). copy.number.0) _ c.args.number.0 c.requires in
    let point = IsPartitionPoint-from_clause (λ (copy : PacketCopy). ltb copy.number.0 c.args.number.0) _ _ c.partition_point-at.ensures.partitioned parted (λ a r q k. search rules) in
    sym (position_is (is_copy c.args.number) c.args.copies.now c.partition_point-at.result c.index-copies-at.result (omega arith) (subst (λ (copy : PacketCopy). is_copy c.args.number copy ≡ true) c.index-copies-at.is (search rules)) (λ k under. copy_below c.args.number (get_or c.args.copies.now k c.index-copies-at.result) (point.0 k c.index-copies-at.result (omega arith) under)))

pub returns : goal.returns
returns c =
    let parted = IsPartitionedBy-ltb (λ (copy : PacketCopy). copy.number.0) _ c.args.number.0 c.requires in
    let point = IsPartitionPoint-from_clause (λ (copy : PacketCopy). ltb copy.number.0 c.args.number.0) _ _ c.partition_point-at.ensures.partitioned parted (λ a r q k. search rules) in
    elim c.else-at-copies.branch [ else-at-copies-via-then-at-copies+else-eq w ↦ sym (no_copy c.args.number c.args.copies.now c.partition_point-at.result w.index-copies-at.result c.requires w.if-at-copies.true (sym w.eq.ensures ∙ w.if-eq.false) (λ k under. point.0 k w.index-copies-at.result (omega arith) under) (point.1 c.partition_point-at.result w.index-copies-at.result (omega arith) w.if-at-copies.true)) | else-at-copies-via-else-at-copies w ↦ sym (position_none (is_copy c.args.number) c.args.copies.now some_copy (λ k under. copy_below c.args.number (get_or c.args.copies.now k some_copy) (point.0 k some_copy (omega arith) (omega arith)))) ]
