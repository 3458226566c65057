use Rattle.std.proofs.Common.{arith, ◌≡◌, sym, ap, ◌∙◌}
use Rattle.kernel_rpc.proofs.PortLaws.{no_more_than_begun}
use Rattle.kernel_rpc.proofs.wire.Wire.free_port.Goals as goal

pub least_port-requires : goal.least_port-requires
least_port-requires g c =
    let few = no_more_than_begun 0 c.self.inside.table.begun c.self.inside.table.unfinished.items c.self.invariant.sound.numbered in
    let begun : c.self.inside.table.begun ≡ c.begun-most.result = ap (λ wired. wired.machine.begun) c.self.view_is ∙ sym c.begun-most.ensures in
    omega arith
