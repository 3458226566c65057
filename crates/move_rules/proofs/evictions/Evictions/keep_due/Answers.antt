use Rattle.std.proofs.Common.{◌∙◌, ap, sym}
use Rattle.move_rules.specs.Evictions.{has_line}
use Rattle.move_rules.proofs.MarkLaws.{marks_due}
use Rattle.move_rules.proofs.evictions.Evictions.keep_due.Goals as goal

pub returns-clause-due : goal.returns-clause-due
returns-clause-due c =
    marks_due c.args.c.now c.args.self.now c.args.places.now.entries c.args.movers.now c.args.rec.now c.in-Issue.pid c.in-Issue.number c.in_ok-after.after c.in-Issue.call c.args.self.now.due.entries c.mark_all.new.due.entries c.in-Issue.is c.in_ok-after.ensures (ap (λ lines. has_line lines c.args.rec.now.kernel c.in_ok-after.after) (sym c.as_slice.ensures) ∙ sym c.has_line.ensures ∙ c.if-not-has_line.false) c.in_ok-mark_all.ensures
