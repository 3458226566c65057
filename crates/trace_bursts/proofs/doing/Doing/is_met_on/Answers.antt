use Rattle.std.proofs.Common.{◌∙◌}
use Rattle.trace_bursts.specs.DoingLaws.{met_called, met_far, met_never}
use Rattle.trace_bursts.proofs.doing.Doing.is_met_on.Goals as goal

pub returns-in-Called : goal.returns-in-Called
returns-in-Called c =
    c.is_met.ensures ∙ met_called c.args.program.now c.args.image.now c.args.left c.args.self c.in-Called.way c.in-Called.ensures.0

pub returns-in-On : goal.returns-in-On
returns-in-On c =
    met_far c.args.program.now c.args.image.now c.go_on.new.image c.args.left c.in-On.field-0 c.reach.result c.args.self c.reach.ensures c.in-On.ensures.0 c.in-On.ensures.1

pub returns-in-Never : goal.returns-in-Never
returns-in-Never c = met_never c.args.program.now c.args.image.now c.args.left c.args.self c.in-Never.ensures
