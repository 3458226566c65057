use Rattle.fill_facts.proofs.NoCache.{image_keeps_no_cache}
use Rattle.fill_facts.proofs.no_cache.image_keeps_no_cache.Goals as goal

pub returns : goal.returns
returns c = image_keeps_no_cache
