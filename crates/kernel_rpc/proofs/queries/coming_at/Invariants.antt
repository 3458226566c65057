use Rattle.std.proofs.Common.{◌≡◌, drop, map, slice_get}
use Rattle.std.specs.List.{filter}
use Rattle.kernel_rpc.specs.declared.call.PacketCopy.{PacketCopy}
use Rattle.kernel_rpc.specs.Machine.{may_come}
use Rattle.kernel_rpc.proofs.queries.coming_at.Given as goal

-- at the place that is left, of those to come, stands what is looked for
abbrev pub invariant-loop-copy : goal.invariant-loop-copy
invariant-loop-copy l = slice_get (map (λ (copy : PacketCopy). copy.number) (filter (may_come l.kernel l.punctual) (drop l.copy-index l.copies))) l.left
    ≡ slice_get (map (λ (copy : PacketCopy). copy.number) (filter (may_come l.kernel l.punctual) l.copies)) l.place
