use Rattle.std.proofs.Common.{◌∙◌, sym}
use Rattle.move_rules.proofs.MarkLaws.{marks_one}
use Rattle.move_rules.proofs.evictions.mark_one.Goals as goal

pub returns : goal.returns
returns c =
    marks_one c.args.marking.now c.args.places.now.entries c.args.births.now.entries c.args.movers.now c.args.pid c.in_ok-stops.stops c.args.due.now.entries c.put_due.new.due.entries (sym c.leaves.ensures ∙ c.if-not-leaves.false) c.in_ok-stops.ensures c.in_ok-put_due.ensures
