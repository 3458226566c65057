use Rattle.std.proofs.Common.{subst, sym}
use Rattle.kernel_rpc.specs.Table.{Ascend}
use Rattle.kernel_rpc.proofs.CountLaws.{ascend}
use Rattle.kernel_rpc.proofs.wire.Wire.call.Goals as goal

pub find_call-requires : goal.find_call-requires
find_call-requires g c = subst Ascend (sym c.as_slice.ensures.value) (ascend 0 c.self.inside.table.begun c.self.inside.table.unfinished.items c.self.invariant.sound.numbered)
