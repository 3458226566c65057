use Rattle.std.proofs.Common.{◌≡◌, ◌++◌, ◌∷◌, [], ◌-◌, length, length-append, arith, sym, ap, ◌∙◌}
use Rattle.kernel_rpc.specs.declared.call.PacketCopy.{PacketCopy}
use Rattle.kernel_rpc.specs.Copies.{requests}
use Rattle.kernel_rpc.specs.Machine.{Machine}
use Rattle.kernel_rpc.specs.Table.{counts_of}
use Rattle.kernel_rpc.proofs.CopyLaws.{each_request}
use Rattle.kernel_rpc.proofs.CountLaws.{counted_begun}
use Rattle.kernel_rpc.proofs.table.begin.Goals as goal

pub returns-clause-counted : goal.returns-clause-counted
returns-clause-counted g c =
    let table = c.args.table.now in
    let call = c.args.call in
    let packet = c.request-packet.result in
    let sent = c.send_to.new.sent.items in
    let more = requests packet packet.number.0 sent in
    let stands = c.requires.stands in
    let new = c.list.new.table in
    let flown = c.send_to.ensures.copies ∙ ap (λ copies. copies ++ more) c.in_ok-make_room.ensures.items in
    let copies : new.copies.items ≡ table.copies.items ++ more = ap (λ (m : Machine). m.copies) c.list.ensures.calls ∙ flown in
    let calls : new.unfinished.items ≡ table.unfinished.items ++ call ∷ [] = ap (λ (m : Machine). m.unfinished) c.list.ensures.calls ∙ ap (λ calls. calls ++ call ∷ []) c.in_ok-reserve.ensures.items in
    let long = length-append table.copies.items more in
    let all = ap length flown in
    let old = ap length c.in_ok-make_room.ensures.items in
    let exact : c.len.result - c.len-before.result ≡ length more = omega arith in
    let same : packet.tx ≡ call.tx = ap (λ (packet : PacketCopy). packet.tx) c.request-packet.ensures in
    let each = each_request (λ (copy : PacketCopy). copy.tx ≡ call.tx) packet packet.number.0 sent (λ n to late. same) (λ n to. same) in
    c.list.ensures.counts ∙ ap (λ ns. ns ++ (c.len.result - c.len-before.result) ∷ []) c.in_ok-reserve-2.ensures.items ∙ ap (λ n. table.flying.items ++ n ∷ []) exact ∙ ap (λ ns. ns ++ length more ∷ []) stands.counted ∙ sym (counted_begun table.begun table.unfinished.items table.copies.items more call each stands.numbered stands.begun c.requires.next) ∙ ap (λ copies. counts_of copies (table.unfinished.items ++ call ∷ [])) (sym copies) ∙ ap (counts_of new.copies.items) (sym calls)
