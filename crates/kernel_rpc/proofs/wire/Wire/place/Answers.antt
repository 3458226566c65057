use Rattle.std.proofs.Common.{subst, sym}
use Rattle.kernel_rpc.specs.Table.{Ascend}
use Rattle.kernel_rpc.proofs.CountLaws.{ascend}
use Rattle.kernel_rpc.proofs.wire.Wire.place.Goals as goal

pub place_of-requires : goal.place_of-requires
place_of-requires g c = subst Ascend (sym c.as_slice.ensures.value) (ascend 0 c.self.inside.table.begun c.self.inside.table.unfinished.items c.self.invariant.sound.numbered)
