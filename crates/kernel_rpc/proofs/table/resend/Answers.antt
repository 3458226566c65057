use Rattle.std.proofs.Common.{◌≡◌, ℕ, ◌++◌, ◌+◌, ◌*◌, length, slice_set, List, map, Some, arith, refl, sym, ap, subst, ◌∙◌}
use Rattle.std.proofs.lemmas.List.{length-map}
use Rattle.link_plan.specs.declared.Fate.{Fate}
use Rattle.link_plan.specs.Counts.{Asks}
use Rattle.sprite_ids.proofs.OnceLaws.{changed_here, found_there}
use Rattle.sprite_ids.specs.Lists.{changed}
use Rattle.kernel_rpc.specs.declared.call.Call.{Call}
use Rattle.kernel_rpc.specs.declared.call.PacketCopy.{PacketCopy}
use Rattle.kernel_rpc.specs.declared.call.Receiver.{Receiver}
use Rattle.kernel_rpc.specs.Copies.{requests}
use Rattle.kernel_rpc.specs.Links.{AsksAll}
use Rattle.kernel_rpc.specs.Machine.{call_of, is_call, request, resent, tried}
use Rattle.kernel_rpc.specs.Table.{counts_of, machine_of}
use Rattle.kernel_rpc.proofs.CopyLaws.{each_request}
use Rattle.kernel_rpc.proofs.CountLaws.{counted_set, placed_is, raised_counts}
use Rattle.kernel_rpc.proofs.table.resend.Goals as goal

pub returns-clause-link : goal.returns-clause-link
returns-clause-link g c =
    let machine = machine_of c.args.table.now in
    let call = c.index-call.result.now in
    let sent = c.send_to.new.sent.items in
    let found : call_of machine c.args.tx ≡ Some call = found_there (is_call c.args.tx) machine.unfinished c.place-at.result call c.place-at.ensures ∙ ap Some (sym c.index-call.ensures) in
    let kernels : map (λ (packet : ℕ × Fate). packet.0) sent ≡ map (λ (receiver : Receiver). receiver.kernel) call.receivers = c.send_to.ensures.receivers ∙ ap (map (λ (receiver : Receiver). receiver.kernel)) c.as_slice-receivers.ensures in
    let asks = subst (λ (packet : PacketCopy). Asks g.L.Link.faults g.L.Link.asked packet.from c.args.link.now c.send_to.new.link sent) c.request-packet.ensures c.send_to.ensures.link in
    subst (AsksAll g.L.Link.faults g.L.Link.asked c.args.link.now c.send_to.new.link sent) (sym found) (kernels, asks)

pub returns-clause-ok : goal.returns-clause-ok
returns-clause-ok g c =
    let machine = machine_of c.args.table.now in
    let p = is_call c.args.tx in
    let call = c.index-call.result.now in
    let sent = c.send_to.new.sent.items in
    let kernel : Receiver → ℕ = λ receiver. receiver.kernel in
    let to : ℕ × Fate → ℕ = λ packet. packet.0 in
    let found : call_of machine c.args.tx ≡ Some call = found_there p machine.unfinished c.place-at.result call c.place-at.ensures ∙ ap Some (sym c.index-call.ensures) in
    let kernels : map to sent ≡ map kernel call.receivers = c.send_to.ensures.receivers ∙ ap (map kernel) c.as_slice-receivers.ensures in
    let many : length sent ≡ length call.receivers = sym (length-map sent to) ∙ ap length kernels ∙ length-map call.receivers kernel in
    let packet = request call machine.next_copy call.owner in
    let flown = c.send_to.ensures.copies ∙ ap (λ copies. copies ++ requests c.request-packet.result c.request-packet.result.number.0 sent) c.in_ok-make_room.ensures.items ∙ ap (λ (packet : PacketCopy). machine.copies ++ requests packet packet.number.0 sent) c.request-packet.ensures in
    let there = changed_here p tried machine.unfinished c.place-at.result c.index_mut-call.result.now c.place-at.ensures c.index_mut-call.ensures.value in
    let next : machine.next_copy + 2 * length c.as_slice-receivers.result.now ≡ machine.next_copy + 2 * length sent = (let count = ap length c.as_slice-receivers.ensures in omega arith) in
    rw c.lost_more-call.ensures (ap (λ (copies : List PacketCopy). record machine { unfinished = slice_set machine.unfinished c.place-at.result (tried c.index_mut-call.result.now); copies = copies; next_copy = machine.next_copy + 2 * length c.as_slice-receivers.result.now }) flown ∙ ap (λ (calls : List Call). record machine { unfinished = calls; copies = machine.copies ++ requests packet machine.next_copy sent; next_copy = machine.next_copy + 2 * length c.as_slice-receivers.result.now }) there ∙ ap (λ n. record machine { unfinished = changed p tried machine.unfinished; copies = machine.copies ++ requests packet machine.next_copy sent; next_copy = n }) next ∙ sym (ap (λ o. resent c.args.tx o sent machine) found))

pub returns-clause-counted : goal.returns-clause-counted
returns-clause-counted g c =
    let table = c.args.table.now in
    let calls = table.unfinished.items in
    let at = c.place-at.result in
    let stands = c.requires.stands in
    let packet = c.request-packet.result in
    let sent = c.send_to.new.sent.items in
    let more = requests packet packet.number.0 sent in
    let flown = c.send_to.ensures.copies ∙ ap (λ copies. copies ++ more) c.in_ok-make_room.ensures.items in
    let same : packet.tx ≡ c.args.tx = ap (λ (packet : PacketCopy). packet.tx) c.request-packet.ensures ∙ placed_is c.args.tx calls at c.index-call.result.now c.place-at.ensures c.index-call.ensures in
    let each = each_request (λ (copy : PacketCopy). copy.tx ≡ c.args.tx) packet packet.number.0 sent (λ n to late. same) (λ n to. same) in
    let room = ap length c.in_ok-make_room.ensures.items in
    let all = ap length flown in
    raised_counts table.begun calls table.copies.items more table.flying.items c.args.tx at c.index-flying.result.now c.saturating_add.result c.len-before.result c.len.result each stands.numbered c.place-at.ensures stands.counted c.index-flying.ensures (omega arith) (omega arith) (omega arith) c.saturating_add.ensures ∙ ap (λ copies. counts_of copies calls) (sym flown) ∙ sym (counted_set c.send_to.new.copies.items calls at c.index_mut-call.result.now _ c.index_mut-call.ensures.value refl)
