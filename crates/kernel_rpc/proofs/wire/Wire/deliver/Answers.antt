use Rattle.std.proofs.Common.{◌≡◌, List, None, Some, refl, sym, ap, subst, ◌∙◌}
use Rattle.std.specs.List.{find, position}
use Rattle.link_plan.specs.declared.Fate.TheVariants.{Once}
use Rattle.sprite_ids.proofs.OnceLaws.{found_there, none_found, nothing_found}
use Rattle.kernel_rpc.specs.declared.call.Arrival.TheVariants.{FirstRequest, FirstReply, AskedAgain, Past}
use Rattle.kernel_rpc.specs.declared.call.PacketCopy.{PacketCopy}
use Rattle.kernel_rpc.specs.declared.results.Delivered.TheVariants.{Request, Reply, Repeated, Old}
use Rattle.kernel_rpc.specs.Machine.{arrival_of, call_of, copy_of, is_call, is_copy}
use Rattle.kernel_rpc.specs.Bodies.{IsMessage, Reads, body_of, reply_of}
use Rattle.kernel_rpc.specs.Links.{AsksBack}
use Rattle.kernel_rpc.specs.Results.{Delivers}
use Rattle.kernel_rpc.specs.Sound.{Sound}
use Rattle.kernel_rpc.specs.Histories.{AreNumbersRising}
use Rattle.kernel_rpc.specs.Table.{Rise, counts_of, machine_of}
use Rattle.kernel_rpc.proofs.ArrivalLaws.{first_request, asked_again}
use Rattle.kernel_rpc.proofs.CountLaws.{counted_stray}
use Rattle.kernel_rpc.proofs.OrderLaws.{Rises, rises_arrived, rises_landed}
use Rattle.kernel_rpc.proofs.RiseLaws.{rise}
use Rattle.kernel_rpc.proofs.LandLaws.{flying_is, take_request_sound, take_reply_sound, take_again_sound, past_sound}
use Rattle.kernel_rpc.proofs.wire.Wire.deliver.Goals as goal

pub find_copy-requires : goal.find_copy-requires
find_copy-requires g c = subst Rise (sym c.as_slice.ensures.value) (rise 1 c.self.inside.table.next_copy c.self.inside.table.copies.items c.self.invariant.rising)

pub land-requires : goal.land-requires
land-requires g c = rise 1 c.self.inside.table.next_copy c.self.inside.table.copies.items c.self.invariant.rising

pub take_request-requires-clause-flying : goal.take_request-requires-clause-flying
take_request-requires-clause-flying g c =
    let machine = machine_of c.self.inside.table in
    let packet = c.in-Some.packet in
    let faults = g.L.Link.faults c.self.inside.link in
    let reads = Reads g.M.Message.reading in
    let p = is_call packet.tx in
    let there : copy_of machine c.args.copy ≡ Some packet = ap (find (is_copy c.args.copy)) (sym c.as_slice.ensures.value) ∙ sym c.find_copy.ensures ∙ c.in-Some.is in
    let flying = flying_is c.args.copy packet machine.copies there in
    flying

pub take_reply-requires-clause-flying : goal.take_reply-requires-clause-flying
take_reply-requires-clause-flying g c =
    let machine = machine_of c.self.inside.table in
    let packet = c.in-Some.packet in
    let faults = g.L.Link.faults c.self.inside.link in
    let reads = Reads g.M.Message.reading in
    let p = is_call packet.tx in
    let there : copy_of machine c.args.copy ≡ Some packet = ap (find (is_copy c.args.copy)) (sym c.as_slice.ensures.value) ∙ sym c.find_copy.ensures ∙ c.in-Some.is in
    let flying = flying_is c.args.copy packet machine.copies there in
    flying

pub take_again-requires-clause-flying : goal.take_again-requires-clause-flying
take_again-requires-clause-flying g c =
    let machine = machine_of c.self.inside.table in
    let packet = c.in-Some.packet in
    let faults = g.L.Link.faults c.self.inside.link in
    let reads = Reads g.M.Message.reading in
    let p = is_call packet.tx in
    let there : copy_of machine c.args.copy ≡ Some packet = ap (find (is_copy c.args.copy)) (sym c.as_slice.ensures.value) ∙ sym c.find_copy.ensures ∙ c.in-Some.is in
    let flying = flying_is c.args.copy packet machine.copies there in
    flying

pub arrive-requires-clause-flying : goal.arrive-requires-clause-flying
arrive-requires-clause-flying g c =
    let machine = machine_of c.self.inside.table in
    let packet = c.in-Some.packet in
    let faults = g.L.Link.faults c.self.inside.link in
    let reads = Reads g.M.Message.reading in
    let p = is_call packet.tx in
    let there : copy_of machine c.args.copy ≡ Some packet = ap (find (is_copy c.args.copy)) (sym c.as_slice.ensures.value) ∙ sym c.find_copy.ensures ∙ c.in-Some.is in
    let flying = flying_is c.args.copy packet machine.copies there in
    flying

pub invariant_of-self : goal.invariant_of-self
invariant_of-self g c =
    let machine = machine_of c.self.inside.table in
    let packet = c.in-Some.packet in
    let faults = g.L.Link.faults c.self.inside.link in
    let reads = Reads g.M.Message.reading in
    let p = is_call packet.tx in
    let there : copy_of machine c.args.copy ≡ Some packet = ap (find (is_copy c.args.copy)) (sym c.as_slice.ensures.value) ∙ sym c.find_copy.ensures ∙ c.in-Some.is in
    let flying = flying_is c.args.copy packet machine.copies there in
    let none : call_of machine packet.tx ≡ None = nothing_found p machine.unfinished (none_found p machine.unfinished (ap (λ wired. position p wired.machine.unfinished) c.self.view_is ∙ sym c.place.ensures ∙ c.in_default-place.is)) in
    let is : arrival_of packet (call_of machine packet.tx) ≡ Past = ap (arrival_of packet) none in
    record {
      sound = rw c.land.ensures.items (past_sound reads faults machine packet flying is c.self.invariant.sound);
      counted = c.self.invariant.counted ∙ sym (counted_stray machine.unfinished machine.copies packet (none_found p machine.unfinished (ap (λ wired. position p wired.machine.unfinished) c.self.view_is ∙ sym c.place.ensures ∙ c.in_default-place.is)) flying) ∙ ap (λ copies. counts_of copies machine.unfinished) (sym c.land.ensures.items);
      rising = subst (λ copies. AreNumbersRising 1 copies machine.next_copy) (sym c.land.ensures.items) (rises_landed packet machine c.self.invariant.rising);
    }

pub invariant_of-self-in-FirstRequest : goal.invariant_of-self-in-FirstRequest
invariant_of-self-in-FirstRequest g c =
    let machine = machine_of c.self.inside.table in
    let packet = c.in-Some.packet in
    let faults = g.L.Link.faults c.self.inside.link in
    let reads = Reads g.M.Message.reading in
    let p = is_call packet.tx in
    let there : copy_of machine c.args.copy ≡ Some packet = ap (find (is_copy c.args.copy)) (sym c.as_slice.ensures.value) ∙ sym c.find_copy.ensures ∙ c.in-Some.is in
    let flying = flying_is c.args.copy packet machine.copies there in
    let at = c.in-Some-place.at in
    let call = c.index.result.now in
    let place : position p machine.unfinished ≡ Some at = ap (λ wired. position p wired.machine.unfinished) c.self.view_is ∙ sym c.place.ensures ∙ c.in-Some-place.is in
    let found : call_of machine packet.tx ≡ Some call = found_there p machine.unfinished at call place ∙ ap Some (sym c.index.ensures) in
    let is : arrival_of packet (call_of machine packet.tx) ≡ FirstRequest = ap (arrival_of packet) found ∙ sym c.arrival_to.ensures ∙ c.in-FirstRequest.is in
    let first = first_request packet (call_of machine packet.tx) is in
    record { sound = subst (Sound reads faults) (sym c.take_request.ensures.machine) (take_request_sound reads faults machine packet first.0 flying first.1 first.2 first.3 Once c.self.invariant.sound); counted = c.take_request.ensures.counted; rising = subst Rises (sym c.take_request.ensures.machine) (rises_arrived FirstRequest packet Once machine c.self.invariant.rising) }

pub invariant_of-self-in-FirstReply : goal.invariant_of-self-in-FirstReply
invariant_of-self-in-FirstReply g c =
    let machine = machine_of c.self.inside.table in
    let packet = c.in-Some.packet in
    let faults = g.L.Link.faults c.self.inside.link in
    let reads = Reads g.M.Message.reading in
    let p = is_call packet.tx in
    let there : copy_of machine c.args.copy ≡ Some packet = ap (find (is_copy c.args.copy)) (sym c.as_slice.ensures.value) ∙ sym c.find_copy.ensures ∙ c.in-Some.is in
    let flying = flying_is c.args.copy packet machine.copies there in
    record { sound = subst (Sound reads faults) (sym c.take_reply.ensures.machine) (take_reply_sound reads faults machine packet flying Once c.self.invariant.sound); counted = c.take_reply.ensures.counted; rising = subst Rises (sym c.take_reply.ensures.machine) (rises_arrived FirstReply packet Once machine c.self.invariant.rising) }

pub invariant_of-self-in-AskedAgain : goal.invariant_of-self-in-AskedAgain
invariant_of-self-in-AskedAgain g c =
    let machine = machine_of c.self.inside.table in
    let packet = c.in-Some.packet in
    let faults = g.L.Link.faults c.self.inside.link in
    let reads = Reads g.M.Message.reading in
    let p = is_call packet.tx in
    let there : copy_of machine c.args.copy ≡ Some packet = ap (find (is_copy c.args.copy)) (sym c.as_slice.ensures.value) ∙ sym c.find_copy.ensures ∙ c.in-Some.is in
    let flying = flying_is c.args.copy packet machine.copies there in
    let at = c.in-Some-place.at in
    let call = c.index.result.now in
    let place : position p machine.unfinished ≡ Some at = ap (λ wired. position p wired.machine.unfinished) c.self.view_is ∙ sym c.place.ensures ∙ c.in-Some-place.is in
    let found : call_of machine packet.tx ≡ Some call = found_there p machine.unfinished at call place ∙ ap Some (sym c.index.ensures) in
    let is : arrival_of packet (call_of machine packet.tx) ≡ AskedAgain = ap (arrival_of packet) found ∙ sym c.arrival_to.ensures ∙ c.in-AskedAgain.is in
    let again = asked_again packet (call_of machine packet.tx) is in
    let after = c.take_again.new.link in
    let answer = c.in_ok-fate-in-AskedAgain.fate in
    let asks : AsksBack g.L.Link.faults g.L.Link.asked c.self.inside.link after answer (Some again.0) = subst (AsksBack g.L.Link.faults g.L.Link.asked c.self.inside.link after answer) again.1 c.in_ok-fate-in-AskedAgain.ensures.link in
    record { sound = subst (Sound reads (g.L.Link.faults after)) (sym c.in_ok-fate-in-AskedAgain.ensures.ok) (take_again_sound reads g.L.Link.faults g.L.Link.asked c.self.inside.link after machine packet again.0 answer flying again.1 again.2 asks c.self.invariant.sound); counted = c.in_ok-fate-in-AskedAgain.ensures.counted; rising = subst Rises (sym c.in_ok-fate-in-AskedAgain.ensures.ok) (rises_arrived AskedAgain packet answer machine c.self.invariant.rising) }

pub invariant_of-self-in-Past : goal.invariant_of-self-in-Past
invariant_of-self-in-Past g c =
    let machine = machine_of c.self.inside.table in
    let packet = c.in-Some.packet in
    let faults = g.L.Link.faults c.self.inside.link in
    let reads = Reads g.M.Message.reading in
    let p = is_call packet.tx in
    let there : copy_of machine c.args.copy ≡ Some packet = ap (find (is_copy c.args.copy)) (sym c.as_slice.ensures.value) ∙ sym c.find_copy.ensures ∙ c.in-Some.is in
    let flying = flying_is c.args.copy packet machine.copies there in
    let at = c.in-Some-place.at in
    let call = c.index.result.now in
    let place : position p machine.unfinished ≡ Some at = ap (λ wired. position p wired.machine.unfinished) c.self.view_is ∙ sym c.place.ensures ∙ c.in-Some-place.is in
    let found : call_of machine packet.tx ≡ Some call = found_there p machine.unfinished at call place ∙ ap Some (sym c.index.ensures) in
    let is : arrival_of packet (call_of machine packet.tx) ≡ Past = ap (arrival_of packet) found ∙ sym c.arrival_to.ensures ∙ c.in-Past.is in
    record { sound = subst (Sound reads faults) (sym c.arrive.ensures.machine) (past_sound reads faults machine packet flying is c.self.invariant.sound); counted = c.arrive.ensures.stands.counted; rising = c.arrive.ensures.stands.rising }

pub returns-in_default-place-clause-ok : goal.returns-in_default-place-clause-ok
returns-in_default-place-clause-ok g c =
    let machine = machine_of c.self.inside.table in
    let packet = c.in-Some.packet in
    let faults = g.L.Link.faults c.self.inside.link in
    let reads = Reads g.M.Message.reading in
    let p = is_call packet.tx in
    let there : copy_of machine c.args.copy ≡ Some packet = ap (find (is_copy c.args.copy)) (sym c.as_slice.ensures.value) ∙ sym c.find_copy.ensures ∙ c.in-Some.is in
    let flying = flying_is c.args.copy packet machine.copies there in
    let none : call_of machine packet.tx ≡ None = nothing_found p machine.unfinished (none_found p machine.unfinished (ap (λ wired. position p wired.machine.unfinished) c.self.view_is ∙ sym c.place.ensures ∙ c.in_default-place.is)) in
    let is : arrival_of packet (call_of machine packet.tx) ≡ Past = ap (arrival_of packet) none in
    rw (← c.self.view_is) (subst (λ o. Delivers g.M.Message.reading g.L.Link.faults g.L.Link.asked (record { link = c.self.inside.link; machine = machine }) (record { link = c.self.inside.link; machine = record machine { copies = c.land.new.copies.items } }) o Old) (sym there) (is, refl, ap (λ (copies : List PacketCopy). record machine { copies = copies }) c.land.ensures.items))

pub returns-in_ok-message-in-FirstRequest-clause-ok : goal.returns-in_ok-message-in-FirstRequest-clause-ok
returns-in_ok-message-in-FirstRequest-clause-ok g c =
    let machine = machine_of c.self.inside.table in
    let packet = c.in-Some.packet in
    let faults = g.L.Link.faults c.self.inside.link in
    let reads = Reads g.M.Message.reading in
    let p = is_call packet.tx in
    let there : copy_of machine c.args.copy ≡ Some packet = ap (find (is_copy c.args.copy)) (sym c.as_slice.ensures.value) ∙ sym c.find_copy.ensures ∙ c.in-Some.is in
    let flying = flying_is c.args.copy packet machine.copies there in
    let at = c.in-Some-place.at in
    let call = c.index.result.now in
    let place : position p machine.unfinished ≡ Some at = ap (λ wired. position p wired.machine.unfinished) c.self.view_is ∙ sym c.place.ensures ∙ c.in-Some-place.is in
    let found : call_of machine packet.tx ≡ Some call = found_there p machine.unfinished at call place ∙ ap Some (sym c.index.ensures) in
    let is : arrival_of packet (call_of machine packet.tx) ≡ FirstRequest = ap (arrival_of packet) found ∙ sym c.arrival_to.ensures ∙ c.in-FirstRequest.is in
    let message = c.in_ok-message-in-FirstRequest.message in
    let again : call_of machine packet.tx ≡ Some c.index-in-FirstRequest.result.now = found_there p machine.unfinished at c.index-in-FirstRequest.result.now place ∙ ap Some (sym c.index-in-FirstRequest.ensures) in
    let said : IsMessage g.M.Message.reading (body_of (call_of machine packet.tx)) message = subst (λ o. IsMessage g.M.Message.reading (body_of o) message) (sym again) c.in_ok-message-in-FirstRequest.ensures in
    rw (← c.self.view_is) (subst (λ o. Delivers g.M.Message.reading g.L.Link.faults g.L.Link.asked (record { link = c.self.inside.link; machine = machine }) (record { link = c.self.inside.link; machine = machine_of c.take_request.new.table }) o (Request packet.tx message)) (sym there) (is, refl, said, refl, c.take_request.ensures.machine))

pub returns-in_ok-message-in-FirstReply-clause-ok : goal.returns-in_ok-message-in-FirstReply-clause-ok
returns-in_ok-message-in-FirstReply-clause-ok g c =
    let machine = machine_of c.self.inside.table in
    let packet = c.in-Some.packet in
    let faults = g.L.Link.faults c.self.inside.link in
    let reads = Reads g.M.Message.reading in
    let p = is_call packet.tx in
    let there : copy_of machine c.args.copy ≡ Some packet = ap (find (is_copy c.args.copy)) (sym c.as_slice.ensures.value) ∙ sym c.find_copy.ensures ∙ c.in-Some.is in
    let flying = flying_is c.args.copy packet machine.copies there in
    let at = c.in-Some-place.at in
    let call = c.index.result.now in
    let place : position p machine.unfinished ≡ Some at = ap (λ wired. position p wired.machine.unfinished) c.self.view_is ∙ sym c.place.ensures ∙ c.in-Some-place.is in
    let found : call_of machine packet.tx ≡ Some call = found_there p machine.unfinished at call place ∙ ap Some (sym c.index.ensures) in
    let is : arrival_of packet (call_of machine packet.tx) ≡ FirstReply = ap (arrival_of packet) found ∙ sym c.arrival_to.ensures ∙ c.in-FirstReply.is in
    let message = c.in_ok-message-in-FirstReply.message in
    let again : call_of machine packet.tx ≡ Some c.index-in-FirstReply.result.now = found_there p machine.unfinished at c.index-in-FirstReply.result.now place ∙ ap Some (sym c.index-in-FirstReply.ensures) in
    let said : IsMessage g.M.Message.reading (reply_of (call_of machine packet.tx)) message = subst (λ o. IsMessage g.M.Message.reading (reply_of o) message) (sym again) c.in_ok-message-in-FirstReply.ensures in
    rw (← c.self.view_is) (subst (λ o. Delivers g.M.Message.reading g.L.Link.faults g.L.Link.asked (record { link = c.self.inside.link; machine = machine }) (record { link = c.self.inside.link; machine = machine_of c.take_reply.new.table }) o (Reply packet.tx message)) (sym there) (is, refl, said, refl, c.take_reply.ensures.machine))

pub returns-in_ok-fate-in-AskedAgain-clause-ok : goal.returns-in_ok-fate-in-AskedAgain-clause-ok
returns-in_ok-fate-in-AskedAgain-clause-ok g c =
    let machine = machine_of c.self.inside.table in
    let packet = c.in-Some.packet in
    let faults = g.L.Link.faults c.self.inside.link in
    let reads = Reads g.M.Message.reading in
    let p = is_call packet.tx in
    let there : copy_of machine c.args.copy ≡ Some packet = ap (find (is_copy c.args.copy)) (sym c.as_slice.ensures.value) ∙ sym c.find_copy.ensures ∙ c.in-Some.is in
    let flying = flying_is c.args.copy packet machine.copies there in
    let at = c.in-Some-place.at in
    let call = c.index.result.now in
    let place : position p machine.unfinished ≡ Some at = ap (λ wired. position p wired.machine.unfinished) c.self.view_is ∙ sym c.place.ensures ∙ c.in-Some-place.is in
    let found : call_of machine packet.tx ≡ Some call = found_there p machine.unfinished at call place ∙ ap Some (sym c.index.ensures) in
    let is : arrival_of packet (call_of machine packet.tx) ≡ AskedAgain = ap (arrival_of packet) found ∙ sym c.arrival_to.ensures ∙ c.in-AskedAgain.is in
    rw (← c.self.view_is) (subst (λ o. Delivers g.M.Message.reading g.L.Link.faults g.L.Link.asked (record { link = c.self.inside.link; machine = machine }) (record { link = c.take_again.new.link; machine = machine_of c.take_again.new.table }) o (Repeated packet.tx c.in_ok-fate-in-AskedAgain.fate)) (sym there) (is, refl, c.in_ok-fate-in-AskedAgain.ensures.link, c.in_ok-fate-in-AskedAgain.ensures.ok))

pub returns-in-Past-clause-ok : goal.returns-in-Past-clause-ok
returns-in-Past-clause-ok g c =
    let machine = machine_of c.self.inside.table in
    let packet = c.in-Some.packet in
    let faults = g.L.Link.faults c.self.inside.link in
    let reads = Reads g.M.Message.reading in
    let p = is_call packet.tx in
    let there : copy_of machine c.args.copy ≡ Some packet = ap (find (is_copy c.args.copy)) (sym c.as_slice.ensures.value) ∙ sym c.find_copy.ensures ∙ c.in-Some.is in
    let flying = flying_is c.args.copy packet machine.copies there in
    let at = c.in-Some-place.at in
    let call = c.index.result.now in
    let place : position p machine.unfinished ≡ Some at = ap (λ wired. position p wired.machine.unfinished) c.self.view_is ∙ sym c.place.ensures ∙ c.in-Some-place.is in
    let found : call_of machine packet.tx ≡ Some call = found_there p machine.unfinished at call place ∙ ap Some (sym c.index.ensures) in
    let is : arrival_of packet (call_of machine packet.tx) ≡ Past = ap (arrival_of packet) found ∙ sym c.arrival_to.ensures ∙ c.in-Past.is in
    rw (← c.self.view_is) (subst (λ o. Delivers g.M.Message.reading g.L.Link.faults g.L.Link.asked (record { link = c.self.inside.link; machine = machine }) (record { link = c.self.inside.link; machine = machine_of c.arrive.new.table }) o Old) (sym there) (is, refl, c.arrive.ensures.machine))
