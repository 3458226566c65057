use Rattle.std.proofs.Common.{Some, sym, ap, ◌∙◌}
use Rattle.write_delay.proofs.DueLaws.{last_is, none_is, none_of_none}
use Rattle.write_delay.proofs.delays.Delays.due.Goals as goal

pub returns-in_err-block : goal.returns-in_err-block
returns-in_err-block c =
    rw (← c.self.view_is) (c.from_residual.ensures ∙ sym (none_of_none c.args.step c.self.inside.blocks.entries (sym c.in_err-block.ensures)))

pub returns-then-not-is_due : goal.returns-then-not-is_due
returns-then-not-is_due c =
    rw (← c.self.view_is) (sym (none_is c.args.step c.self.inside.blocks.entries _ (c.self.invariant.1 c.if-not-self.false) (sym c.in_ok-block.ensures) (sym c.if-not-is_due.ensures)))

pub returns : goal.returns
returns c =
    rw (← c.self.view_is) (sym (last_is c.args.step c.self.inside.blocks.entries _ (c.self.invariant.1 c.if-not-self.false) (sym c.in_ok-block.ensures) (sym c.if-not-is_due.ensures) ∙ ap Some (sym c.named.ensures)))
