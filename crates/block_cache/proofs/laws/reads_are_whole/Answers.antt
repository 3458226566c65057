use Rattle.block_cache.proofs.StayLaws.{read_whole}
use Rattle.block_cache.proofs.laws.reads_are_whole.Goals as goal

pub returns : goal.returns
returns c = read_whole
