use Rattle.std.proofs.Common.{◌≡◌, ◌∙◌, sym, ap, ℕ, ◌+◌, max, drop, arith}
use Rattle.std.proofs.lemmas.Grind.{common_steps}
use Rattle.host_lending.specs.Tables.{most_among}
use Rattle.host_lending.proofs.HostLaws.{most_more}
use Rattle.host_lending.proofs.lending.Lending.most_held.Goals as goal

pub loop-host-preserved : goal.loop-host-preserved
loop-host-preserved c =
    let larger : c.max-most.result ≡ max c.loop-host.most c.count_held.result = grind (arith, common_steps) in
    ap (λ (n : ℕ). most_among c.args.self.now c.args.borrower n (drop (c.loop-host.host-index + 1) c.args.self.now)) (larger ∙ ap (max c.loop-host.most) c.count_held.ensures)
    ∙ sym (most_more c.args.self.now c.deref-host-items.result.now c.args.borrower c.loop-host.most c.loop-host.host-index c.host-item.result (c.deref-host-items.ensures.value ∙ c.self.view_is) c.loop-host-test.true c.host-item.is (sym c.eq.ensures ∙ c.if-eq.false))
    ∙ c.loop-host.invariant
