use Rattle.std.proofs.Common.{IsSome, refl, subst, sym}
use Rattle.kernel_rpc.specs.Machine.{call_of}
use Rattle.kernel_rpc.specs.Bodies.{Reads}
use Rattle.kernel_rpc.specs.Sound.{Sound}
use Rattle.kernel_rpc.specs.Table.{machine_of}
use Rattle.kernel_rpc.proofs.BeginLaws.{may_be_silent_apart}
use Rattle.kernel_rpc.proofs.CountLaws.{stands_of}
use Rattle.kernel_rpc.proofs.LandLaws.{silent_sound}
use Rattle.kernel_rpc.proofs.PartLaws.{eq_turned}
use Rattle.kernel_rpc.proofs.OrderLaws.{Rises}
use Rattle.kernel_rpc.proofs.wire.Wire.silent.Goals as goal

pub silence-requires-clause-stands : goal.silence-requires-clause-stands
silence-requires-clause-stands g c = stands_of (Reads g.M.Message.reading) (g.L.Link.faults c.self.inside.link) c.self.inside.table c.self.invariant

pub silence-requires-clause-there : goal.silence-requires-clause-there
silence-requires-clause-there g c =
    let machine = machine_of c.self.inside.table in
    let allowed = rw (← c.self.view_is) at c.requires in
    let apart = may_be_silent_apart c.args.at (call_of machine c.args.tx) allowed in
    subst (λ o. IsSome o) (sym apart.1) refl

pub invariant_of-self : goal.invariant_of-self
invariant_of-self g c =
    let machine = machine_of c.self.inside.table in
    let tx = c.args.tx in
    let allowed = rw (← c.self.view_is) at c.requires in
    let apart = may_be_silent_apart c.args.at (call_of machine tx) allowed in
    record {
      sound = subst (Sound (Reads g.M.Message.reading) (g.L.Link.faults c.self.inside.link)) (sym c.silence.ensures.machine) (silent_sound (Reads g.M.Message.reading) (g.L.Link.faults c.self.inside.link) machine tx c.args.at apart.0 apart.1 (eq_turned apart.0.owner c.args.at apart.2) c.self.invariant.sound);
      counted = c.silence.ensures.counted;
      rising = subst Rises (sym c.silence.ensures.machine) c.self.invariant.rising;
    }
