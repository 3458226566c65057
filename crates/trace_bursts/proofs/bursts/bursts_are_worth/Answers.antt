use Rattle.std.proofs.Common.{◌≡◌, ◌∙◌, Bool, ◌&&◌, IfOk, sym, ap, subst}
use Rattle.trace_bursts.specs.Reasons.{bursts_are_counted}
use Rattle.trace_bursts.proofs.ReasonLaws.{worth_is}
use Rattle.trace_bursts.proofs.bursts.bursts_are_worth.Goals as goal

pub returns-then-not-bursts_are_whole : goal.returns-then-not-bursts_are_whole
returns-then-not-bursts_are_whole c =
    let whole = sym c.bursts_are_whole.ensures ∙ c.if-not-bursts_are_whole.true in
    sym (worth_is c.args.c.now c.args.trace.now ∙ ap (λ b. b && bursts_are_counted c.args.c.now c.args.trace.now) whole)

pub returns : goal.returns
returns c =
    let whole = sym c.bursts_are_whole.ensures ∙ c.if-not-bursts_are_whole.false in
    let same = worth_is c.args.c.now c.args.trace.now ∙ ap (λ b. b && bursts_are_counted c.args.c.now c.args.trace.now) whole in
    subst (λ (b : Bool). IfOk c.are_met.result (λ (kept : Bool). kept ≡ b)) (sym same) c.are_met.ensures
