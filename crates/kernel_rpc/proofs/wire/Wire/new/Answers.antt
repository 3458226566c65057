use Rattle.std.proofs.Common.{arith, subst, sym, ap, ◌∙◌}
use Rattle.kernel_rpc.specs.Machine.{Machine}
use Rattle.kernel_rpc.specs.Bodies.{Reads}
use Rattle.kernel_rpc.specs.Sound.{Sound}
use Rattle.kernel_rpc.specs.Table.{counts_of}
use Rattle.kernel_rpc.proofs.OrderLaws.{Rises}
use Rattle.kernel_rpc.proofs.wire.Wire.new.Goals as goal

pub invariant_of-result : goal.invariant_of-result
invariant_of-result g c = record {
  sound = subst (Sound (Reads g.M.Message.reading) (g.L.Link.faults c.args.link)) (sym c.new.ensures.machine) record { numbered = omega arith; flying = tt; calls = tt };
  counted = c.new.ensures.counted ∙ ap (λ (m : Machine). counts_of m.copies m.unfinished) (sym c.new.ensures.machine);
  rising = subst Rises (sym c.new.ensures.machine) (omega arith);
}
