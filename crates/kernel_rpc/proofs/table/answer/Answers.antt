use Rattle.std.proofs.Common.{◌≡◌, List, Some, refl, sym, ap, ◌∙◌}
use Rattle.std.specs.List.{position}
use Rattle.sprite_ids.specs.Lists.{changed}
use Rattle.sprite_ids.proofs.OnceLaws.{changed_here}
use Rattle.kernel_rpc.specs.declared.call.Call.{Call}
use Rattle.kernel_rpc.specs.declared.call.PacketCopy.{PacketCopy}
use Rattle.kernel_rpc.specs.Machine.{Machine, answered, call_of, is_call, replied, with_call}
use Rattle.kernel_rpc.specs.Table.{machine_of}
use Rattle.kernel_rpc.proofs.CountLaws.{counted_set}
use Rattle.kernel_rpc.proofs.RunLaws.{unfinished_replied}
use Rattle.kernel_rpc.proofs.table.answer.Goals as goal

pub returns-clause-ok : goal.returns-clause-ok
returns-clause-ok g c =
    let machine = machine_of c.args.table.now in
    let p = is_call c.args.tx in
    let f = answered c.args.bytes in
    let mid = machine_of c.reply-fate.new.table in
    let room : Machine = record machine { copies = c.make_room.new.copies.items } in
    let same : room ≡ machine = ap (λ (copies : List PacketCopy). record machine { copies = copies }) c.in_ok-make_room.ensures.items in
    let calls : mid.unfinished ≡ machine.unfinished = ap (λ (m : Machine). m.unfinished) c.reply-fate.ensures.machine ∙ (unfinished_replied (call_of room c.args.tx) c.reply-fate.result room).0 in
    let place : position p mid.unfinished ≡ Some c.place-at.result = ap (position p) calls ∙ c.place-at.ensures in
    let there = changed_here p f mid.unfinished c.place-at.result c.index_mut-call.result.now place c.index_mut-call.ensures.value in
    rw c.set_part.ensures (ap (λ (calls : List Call). record mid { unfinished = calls }) there ∙ ap (λ (m : Machine). record m { unfinished = changed p f m.unfinished }) c.reply-fate.ensures.machine ∙ ap (λ (m : Machine). with_call c.args.tx f (replied (call_of m c.args.tx) c.reply-fate.result m)) same)

pub returns-clause-counted : goal.returns-clause-counted
returns-clause-counted g c =
    let mid = machine_of c.reply-fate.new.table in
    c.reply-fate.ensures.counted ∙ sym (counted_set mid.copies mid.unfinished c.place-at.result c.index_mut-call.result.now _ c.index_mut-call.ensures.value refl)
