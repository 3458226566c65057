use Rattle.block_cache.specs.Ranges.{first_block, block_count}
use Rattle.block_cache.proofs.LookupLaws.{used_at}
use Rattle.block_cache.proofs.StayLaws.{filled_stays, dropped_stays, granted_stays, written_stays}
use Rattle.block_cache.proofs.laws.dirty_blocks_stay.Goals as goal

pub returns : goal.returns
returns c = record { filled = filled_stays; used = λ held file from many key. used_at held.blocks file (first_block from) (block_count from many) key; dropped = dropped_stays; granted = granted_stays; written = written_stays }
