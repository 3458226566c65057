use Rattle.std.proofs.Common.{arith, ◌≡◌, ◌<◌, ◌+◌, ◌*◌, [], ◌∷◌, ◌++◌, length, map, ap, sym, ◌∙◌, ℕ, length-append, append_assoc, subst}
use Rattle.std.proofs.lemmas.List.{map-append}
use Rattle.link_plan.specs.Counts.{Asks}
use Rattle.link_plan.specs.declared.Fate.{Fate}
use Rattle.kernel_rpc.specs.declared.call.Receiver.{Receiver}
use Rattle.kernel_rpc.specs.Copies.{copies_by, requests}
use Rattle.kernel_rpc.proofs.SendLaws.{requests_push, asks_push, map_next}
use Rattle.kernel_rpc.proofs.copies.send_to.Goals as goal

pub loop-receiver-preserved : goal.loop-receiver-preserved
loop-receiver-preserved g c =
    let at = c.loop-receiver.invariant in
    let last : ℕ × Fate = (c.receiver-item.result.kernel, c.fate-fate.result) in
    let before = c.loop-receiver.sent.items in
    let kernel : Receiver → ℕ = λ receiver. receiver.kernel in
    let to : ℕ × Fate → ℕ = λ packet. packet.0 in
    let packet = c.args.packet.now in
    let so_far = requests packet packet.number.0 before in
    let here : c.loop-receiver.receiver-index < length c.args.receivers.now = omega arith in
    let numbers : c.loop-receiver.number ≡ packet.number.0 + 2 * length before = at.number ∙ ap (λ n. packet.number.0 + 2 * n) (sym at.count) in
    let more : so_far ++ copies_by c.fate-fate.result c.addressed.result ≡ requests packet packet.number.0 c.note.new.sent.items = ap (λ copy. so_far ++ copies_by c.fate-fate.result copy) c.addressed.ensures ∙ ap (λ n. so_far ++ copies_by c.fate-fate.result (record packet { number = record { 0 = n }; to = last.0 })) numbers ∙ sym (requests_push packet packet.number.0 before last) ∙ ap (requests packet packet.number.0) (sym c.note.ensures.items) in
    record {
      number = omega arith;
      count = ap length c.note.ensures.items ∙ length-append before (last ∷ []) ∙ ap (λ n. n + 1) at.count;
      receivers = ap (map to) c.note.ensures.items ∙ map-append to before (last ∷ []) ∙ ap (λ kernels. kernels ++ last.0 ∷ []) at.receivers ∙ sym (map_next kernel c.args.receivers.now c.loop-receiver.receiver-index c.receiver-item.result here c.receiver-item.is);
      copies = c.fly.ensures.items ∙ ap (λ copies. copies ++ copies_by c.fate-fate.result c.addressed.result) at.copies ∙ append_assoc c.args.copies.now.items so_far (copies_by c.fate-fate.result c.addressed.result) ∙ ap (λ copies. c.args.copies.now.items ++ copies) more;
      link = subst (λ sent. Asks g.L.Link.faults g.L.Link.asked packet.from c.args.link.now c.fate-fate.new.self sent) (sym c.note.ensures.items) (asks_push g.L.Link.faults g.L.Link.asked packet.from c.args.link.now c.loop-receiver.link c.fate-fate.new.self before last at.link c.fate-fate.ensures);
      room = omega arith;
      notes = omega arith;
      noted = omega arith;
    }
