use Rattle.std.proofs.Common.{◌∙◌, ap, length}
use Rattle.open_worth.specs.MovedOpens.{few_told, openings_count}
use Rattle.open_worth.proofs.moved_opens.moved_opens_are_few.Goals as goal

pub moved_opens-requires : goal.moved_opens-requires
moved_opens-requires c = ap length c.requires ∙ openings_count c.args.c.now c.args.trace.now

pub returns : goal.returns
returns c = c.are_few.ensures ∙ few_told c.args.c.now c.args.trace.now c.args.openings.now c.in_ok-moved.moved c.in_ok-freezes.freezes c.requires c.in_ok-moved.ensures c.in_ok-freezes.ensures
