use Rattle.std.proofs.Common.{◌∙◌}
use Rattle.cache_worth.specs.Whole.{worth_splits}
use Rattle.cache_worth.proofs.whole.caches_are_worth.Goals as goal

pub returns : goal.returns
returns c = c.are_all.ensures ∙ worth_splits c.args.c.now c.args.trace.now _ _ _ _ _ c.in_ok-taken.ensures c.in_ok-fetched.ensures c.in_ok-sent.ensures c.in_ok-cleaned.ensures c.in_ok-moderate.ensures
