use Rattle.fill_facts.proofs.NoCache.{step_keeps_no_cache}
use Rattle.fill_facts.proofs.no_cache.step_keeps_no_cache.Goals as goal

pub returns : goal.returns
returns c = step_keeps_no_cache
