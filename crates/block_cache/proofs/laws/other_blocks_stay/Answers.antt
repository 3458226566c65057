use Rattle.block_cache.proofs.StayLaws.{written_elsewhere, granted_elsewhere, called_elsewhere}
use Rattle.block_cache.proofs.laws.other_blocks_stay.Goals as goal

pub returns : goal.returns
returns c = record { written = written_elsewhere; granted = granted_elsewhere; called = called_elsewhere }
