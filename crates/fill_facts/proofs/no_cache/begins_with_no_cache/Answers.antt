use Rattle.fill_facts.proofs.NoCache.{begins_with_no_cache}
use Rattle.fill_facts.proofs.no_cache.begins_with_no_cache.Goals as goal

pub returns : goal.returns
returns c = begins_with_no_cache
