use Rattle.std.proofs.Common.{◌≡◌, ◌+◌, true, Some, arith, ◌≤◌, refl, sym, ap, subst, ◌∙◌}
use Rattle.std.specs.List.{find}
use Rattle.kernel_rpc.specs.Machine.{is_last, may_fire, resent, call_of, is_call, is_due}
use Rattle.kernel_rpc.specs.Bodies.{Reads}
use Rattle.kernel_rpc.specs.Links.{AsksAll}
use Rattle.kernel_rpc.specs.Sound.{IsSound, Sound}
use Rattle.kernel_rpc.specs.Table.{Ascend, machine_of}
use Rattle.kernel_rpc.proofs.BeginLaws.{before_last, gives_up}
use Rattle.kernel_rpc.proofs.CountLaws.{ascend}
use Rattle.kernel_rpc.proofs.LandLaws.{give_up_sound}
use Rattle.kernel_rpc.proofs.SoundLaws.{due_spent, found_sound, resend_sound}
use Rattle.kernel_rpc.proofs.OrderLaws.{Rises, rises_resent}
use Rattle.kernel_rpc.proofs.wire.Wire.expire.Goals as goal

pub find_call-requires : goal.find_call-requires
find_call-requires g c = subst Ascend (sym c.as_slice.ensures.value) (ascend 0 c.self.inside.table.begun c.self.inside.table.unfinished.items c.self.invariant.sound.numbered)

pub invariant_of-self-then-is_last : goal.invariant_of-self-then-is_last
invariant_of-self-then-is_last g c =
    record { sound = subst (Sound (Reads g.M.Message.reading) (g.L.Link.faults c.self.inside.link)) (sym c.in_ok-give_up.ensures.ok) (give_up_sound (Reads g.M.Message.reading) (g.L.Link.faults c.self.inside.link) (machine_of c.self.inside.table) c.args.tx c.self.invariant.sound); counted = c.in_ok-give_up.ensures.counted; rising = subst Rises (sym c.in_ok-give_up.ensures.ok) c.self.invariant.rising }

pub returns-then-is_last-clause-ok : goal.returns-then-is_last-clause-ok
returns-then-is_last-clause-ok g c =
    let machine = machine_of c.self.inside.table in
    let tx = c.args.tx in
    let call = c.in-Some.call.now in
    let reads = Reads g.M.Message.reading in
    let faults = g.L.Link.faults c.self.inside.link in
    let found : call_of machine tx ≡ Some call = ap (find (is_call tx)) (sym c.as_slice.ensures.value) ∙ sym c.in-Some.ensures in
    let fires : may_fire machine.copies (call_of machine tx) ≡ true = rw (← c.self.view_is) at c.requires in
    let due : is_due machine.copies call ≡ true = subst (λ o. may_fire machine.copies o ≡ true) found fires in
    let last : is_last call ≡ true = sym c.is_last.ensures ∙ c.if-is_last.true in
    let seven = before_last call last in
    let spent = due_spent reads faults machine.copies call due (found_sound (IsSound reads faults machine.copies) (is_call tx) call machine.unfinished found c.self.invariant.sound.calls) in
    let now = c.faults-now.ensures in
    let apart : call.before + 8 ≤ c.faults-now.result = omega arith in
    rw (← c.self.view_is) (gives_up g.L.Link.faults g.L.Link.asked (record { link = c.self.inside.link; machine = machine }) (record { link = c.self.inside.link; machine = machine_of c.give_up.new.table }) tx (call_of machine tx) call c.faults-now.result found last now apart refl c.in_ok-give_up.ensures.ok)

pub invariant_of-self-2 : goal.invariant_of-self-2
invariant_of-self-2 g c =
    let machine = machine_of c.self.inside.table in
    let tx = c.args.tx in
    let call = c.in-Some.call.now in
    let reads = Reads g.M.Message.reading in
    let faults = g.L.Link.faults c.self.inside.link in
    let found : call_of machine tx ≡ Some call = ap (find (is_call tx)) (sym c.as_slice.ensures.value) ∙ sym c.in-Some.ensures in
    let fires : may_fire machine.copies (call_of machine tx) ≡ true = rw (← c.self.view_is) at c.requires in
    let due : is_due machine.copies call ≡ true = subst (λ o. may_fire machine.copies o ≡ true) found fires in
    let sent = c.in_ok-sent.sent.items in
    let after = c.resend.new.link in
    let asks : AsksAll g.L.Link.faults g.L.Link.asked c.self.inside.link after sent (Some call) = subst (AsksAll g.L.Link.faults g.L.Link.asked c.self.inside.link after sent) found c.in_ok-sent.ensures.link in
    let there : machine_of c.resend.new.table ≡ resent tx (Some call) sent machine = c.in_ok-sent.ensures.ok ∙ ap (λ o. resent tx o sent machine) found in
    record { sound = subst (Sound reads (g.L.Link.faults after)) (sym there) (resend_sound reads g.L.Link.faults g.L.Link.asked c.self.inside.link after machine tx call sent found due asks c.self.invariant.sound); counted = c.in_ok-sent.ensures.counted; rising = subst Rises (sym there) (rises_resent tx call sent machine c.self.invariant.rising) }
