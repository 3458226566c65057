use Rattle.std.proofs.Common.{subst, sym}
use Rattle.kernel_rpc.specs.Table.{Rise}
use Rattle.kernel_rpc.proofs.RiseLaws.{rise}
use Rattle.kernel_rpc.proofs.wire.Wire.packet.Goals as goal

pub find_copy-requires : goal.find_copy-requires
find_copy-requires g c = subst Rise (sym c.as_slice.ensures.value) (rise 1 c.self.inside.table.next_copy c.self.inside.table.copies.items c.self.invariant.rising)
