use Rattle.std.proofs.Common.{◌∙◌}
use Rattle.kill_worth.proofs.WholeLaws.{heeded_splits}
use Rattle.kill_worth.proofs.whole.kills_are_heeded.Goals as goal

pub returns : goal.returns
returns c = c.are_both.ensures ∙ heeded_splits c.args.c.now c.args.trace.now _ _ c.in_ok-told.ensures c.in_ok-silent.ensures
