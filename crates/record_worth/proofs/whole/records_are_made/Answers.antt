use Rattle.std.proofs.Common.{◌∙◌}
use Rattle.record_worth.specs.Whole.{made_told}
use Rattle.record_worth.proofs.whole.records_are_made.Goals as goal

pub returns : goal.returns
returns c = c.are_all.ensures ∙ made_told c.args.c.now c.args.trace.now _ _ _ _ _ _ _ c.in_ok-blocks.ensures c.in_ok-stamps.ensures c.in_ok-callbacks.ensures c.in_ok-streams.ensures c.prefixes_are_served-served.ensures c.in_ok-learned.ensures c.in_ok-moves.ensures
