-- Ranges of a file's bytes.
use Rattle.std.specs.Prelude.{◌+◌, ◌-◌, nat_le, Bool}
use Rattle.sprite_ids.specs.declared.BlockNo.{BlockNo}
use Rattle.block_cache.specs.Ranges.{first_block, block_count}
use Rattle.client_file_tables.specs.declared.extent.Extent.{Extent}

-- whether the range lies where a file may have bytes
abbrev pub is_within : Extent → Bool
is_within extent = nat_le (extent.from + extent.length) 4194304

-- the first and the last block of the range
abbrev pub first_of : Extent → BlockNo
first_of extent = record { 0 = first_block extent.from }

abbrev pub last_of : Extent → BlockNo
last_of extent = record { 0 = first_block extent.from + block_count extent.from extent.length - 1 }
