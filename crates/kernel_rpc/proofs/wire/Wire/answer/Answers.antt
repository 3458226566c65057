use Rattle.std.proofs.Common.{◌≡◌, true, Some, sym, ap, subst, ◌∙◌}
use Rattle.kernel_rpc.specs.Machine.{holds, owner_of, part_in, call_of}
use Rattle.kernel_rpc.specs.Bodies.{Reads}
use Rattle.kernel_rpc.specs.Links.{AsksBack}
use Rattle.kernel_rpc.specs.Sound.{Sound}
use Rattle.kernel_rpc.specs.Table.{machine_of}
use Rattle.kernel_rpc.proofs.BeginLaws.{may_answer_held}
use Rattle.kernel_rpc.proofs.LandLaws.{answer_sound}
use Rattle.kernel_rpc.proofs.OrderLaws.{Rises, rises_replied}
use Rattle.kernel_rpc.proofs.wire.Wire.answer.Goals as goal

pub invariant_of-self-2 : goal.invariant_of-self-2
invariant_of-self-2 g c =
    let machine = machine_of c.self.inside.table in
    let tx = c.args.tx in
    let reads = Reads g.M.Message.reading in
    let after = c.answer.new.link in
    let given = c.in_ok-fate.fate in
    let allowed : holds (part_in (owner_of (call_of machine tx)) (call_of machine tx)) ≡ true = rw (← c.self.view_is) at c.requires.taken in
    let held = may_answer_held (call_of machine tx) allowed in
    let readable : reads c.in_ok-bytes.bytes = (c.args.body, ap g.M.Message.reading c.in_ok-bytes.ensures.bytes ∙ g.met.M.Message.again c.args.body c.in_ok-bytes.ensures.known) in
    let asks : AsksBack g.L.Link.faults g.L.Link.asked c.self.inside.link after given (Some held.0) = subst (AsksBack g.L.Link.faults g.L.Link.asked c.self.inside.link after given) held.1 c.in_ok-fate.ensures.link in
    record { sound = subst (Sound reads (g.L.Link.faults after)) (sym c.in_ok-fate.ensures.ok) (answer_sound reads g.L.Link.faults g.L.Link.asked c.self.inside.link after machine tx held.0 c.in_ok-bytes.bytes given readable held.1 held.2 asks c.self.invariant.sound); counted = c.in_ok-fate.ensures.counted; rising = subst Rises (sym c.in_ok-fate.ensures.ok) (rises_replied (call_of machine tx) given machine c.self.invariant.rising) }
