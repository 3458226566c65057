use Rattle.std.proofs.Common.{◌≡◌, Bool, IfOk, subst}
use Rattle.packet_worth.proofs.CountLaws.{few_told}
use Rattle.packet_worth.proofs.deliveries.deliveries_are_few.Goals as goal

pub returns : goal.returns
returns c = subst (λ (b : Bool). IfOk c.all_are_few.result (λ (kept : Bool). kept ≡ b)) (few_told c.in_ok-totals.totals c.args.trace.now c.in_ok-totals.ensures) c.all_are_few.ensures
