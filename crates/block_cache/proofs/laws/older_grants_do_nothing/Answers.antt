use Rattle.block_cache.proofs.StayLaws.{older_grant}
use Rattle.block_cache.proofs.laws.older_grants_do_nothing.Goals as goal

pub returns : goal.returns
returns c = older_grant
