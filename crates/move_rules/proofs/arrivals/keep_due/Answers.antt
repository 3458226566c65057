use Rattle.std.proofs.Common.{◌∙◌, sym}
use Rattle.move_rules.specs.ArrivalLaws.{dues_on}
use Rattle.move_rules.proofs.arrivals.keep_due.Goals as goal

pub returns : goal.returns
returns c =
    dues_on c.args.c.now c.args.places.now.entries c.args.event.now c.in-Enter.entry c.args.thaws.now.entries c.args.dues.now.entries c.insert.new.self.entries c.in-Some.target c.thaws_of-count.result c.arrival_behind-due.result c.in-Enter.is (sym c.way_target.ensures ∙ c.in-Some.is) c.thaws_of-count.ensures c.arrival_behind-due.ensures c.in_ok-insert.ensures.updates.0
