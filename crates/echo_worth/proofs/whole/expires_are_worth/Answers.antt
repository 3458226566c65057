use Rattle.std.proofs.Common.{◌&&◌, ap₂, refl, ◌∙◌}
use Rattle.echo_worth.specs.Whole.{worth_splits}
use Rattle.echo_worth.proofs.whole.expires_are_worth.Goals as goal

pub returns : goal.returns
returns c = c.are_both.ensures ∙ (ap₂ (λ a b. a && b) c.in_ok-packets.ensures c.in_ok-tries.ensures ∙ worth_splits c.args.c.now c.args.trace.now _ _ _ refl refl refl)
