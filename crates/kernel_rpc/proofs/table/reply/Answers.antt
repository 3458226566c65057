use Rattle.std.proofs.Common.{◌≡◌, ◌++◌, ◌+◌, List, Some, sym, ap, subst, ◌∙◌, arith, length}
use Rattle.link_plan.specs.Counts.{IsAsked}
use Rattle.sprite_ids.proofs.OnceLaws.{found_there}
use Rattle.kernel_rpc.specs.declared.call.PacketCopy.{PacketCopy}
use Rattle.kernel_rpc.specs.Copies.{copies_by}
use Rattle.kernel_rpc.specs.Machine.{call_of, is_call, replied}
use Rattle.kernel_rpc.specs.Links.{AsksBack}
use Rattle.kernel_rpc.specs.Table.{counts_of, machine_of}
use Rattle.kernel_rpc.proofs.CopyLaws.{each_by}
use Rattle.kernel_rpc.proofs.CountLaws.{placed_is, raised_counts}
use Rattle.kernel_rpc.proofs.table.reply.Goals as goal

pub returns-clause-link : goal.returns-clause-link
returns-clause-link g c =
    let machine = machine_of c.args.table.now in
    let call = c.index.result.now in
    let found : call_of machine c.args.tx ≡ Some call = found_there (is_call c.args.tx) machine.unfinished c.args.at call c.requires.place ∙ ap Some (sym c.index.ensures) in
    subst (AsksBack g.L.Link.faults g.L.Link.asked c.args.link.now c.send-fate.new.link c.send-fate.result) (sym found) (subst (λ (packet : PacketCopy). IsAsked (g.L.Link.faults c.args.link.now) (g.L.Link.asked c.args.link.now) (g.L.Link.faults c.send-fate.new.link) (g.L.Link.asked c.send-fate.new.link) packet.from packet.to c.send-fate.result) c.reply_to-packet.ensures c.send-fate.ensures.link)

pub returns-clause-machine : goal.returns-clause-machine
returns-clause-machine g c =
    let machine = machine_of c.args.table.now in
    let call = c.index.result.now in
    let found : call_of machine c.args.tx ≡ Some call = found_there (is_call c.args.tx) machine.unfinished c.args.at call c.requires.place ∙ ap Some (sym c.index.ensures) in
    let sent = c.send-fate.ensures.copies ∙ ap (λ packet. machine.copies ++ copies_by c.send-fate.result packet) c.reply_to-packet.ensures in
    ap (λ (copies : List PacketCopy). record machine { copies = copies; next_copy = machine.next_copy + 2 }) sent ∙ sym (ap (λ o. replied o c.send-fate.result machine) found)

pub returns-clause-counted : goal.returns-clause-counted
returns-clause-counted g c =
    let table = c.args.table.now in
    let stands = c.requires.stands in
    let packet = c.reply_to-packet.result in
    let more = copies_by c.send-fate.result packet in
    let same : packet.tx ≡ c.args.tx = ap (λ (packet : PacketCopy). packet.tx) c.reply_to-packet.ensures ∙ placed_is c.args.tx table.unfinished.items c.args.at c.index.result.now c.requires.place c.index.ensures in
    let each = each_by (λ (copy : PacketCopy). copy.tx ≡ c.args.tx) c.send-fate.result packet same same same in
    let all = ap length c.send-fate.ensures.copies in
    raised_counts table.begun table.unfinished.items table.copies.items more table.flying.items c.args.tx c.args.at c.index-flying.result.now c.saturating_add.result c.len-before.result c.len.result each stands.numbered c.requires.place stands.counted c.index-flying.ensures (omega arith) (omega arith) (omega arith) c.saturating_add.ensures ∙ ap (λ copies. counts_of copies table.unfinished.items) (sym c.send-fate.ensures.copies)
