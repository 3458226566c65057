use Rattle.std.proofs.Common.{◌∙◌}
use Rattle.cache_worth.specs.CountLaws.{moderate_told}
use Rattle.cache_worth.proofs.counts.are_moderate.Goals as goal

pub returns : goal.returns
returns c = c.are_few.ensures ∙ moderate_told c.args.counts.now.entries c.args.trace.now c.requires
