use Rattle.std.proofs.Common.{◌≡◌, ◌∙◌, Bool, IfOk, ap, length, subst}
use Rattle.kill_worth.specs.Told.{are_paid}
use Rattle.kill_worth.proofs.ToldLaws.{kills_count, paid_told}
use Rattle.kill_worth.proofs.telling.kills_are_told.Goals as goal

pub are_paid-requires : goal.are_paid-requires
are_paid-requires c = ap length (c.as_slice.ensures.value ∙ c.in_ok-kills.ensures) ∙ kills_count c.args.c.now c.args.trace.now

pub returns : goal.returns
returns c =
    let told = ap (λ ks. are_paid ks c.args.trace.now) (c.as_slice.ensures.value ∙ c.in_ok-kills.ensures) ∙ paid_told c.args.c.now c.args.trace.now in
    subst (λ (b : Bool). IfOk c.are_paid.result (λ (paid : Bool). paid ≡ b)) told c.are_paid.ensures
