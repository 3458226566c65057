use Rattle.block_cache.proofs.StayLaws.{read_again}
use Rattle.block_cache.proofs.laws.written_bytes_are_read.Goals as goal

pub returns : goal.returns
returns c = read_again
