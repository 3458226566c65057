-- Write-backs that have no answer yet, and the blocks that wait for theirs.
use Rattle.std.specs.Prelude.{ℕ, zero, suc, ◌+◌, ◌==◌, Bool, ◌&&◌, if◌then◌else◌, List, Option, Some, None, option_map}
use Rattle.std.specs.List.{find}
use Rattle.sprite_ids.specs.declared.TxNo.{TxNo}
use Rattle.sprite_ids.specs.declared.FileId.{FileId}
use Rattle.sprite_ids.specs.declared.BlockNo.{BlockNo}
use Rattle.block_cache.specs.Ranges.{first_block, block_count}
use Rattle.write_delay.specs.Delays as delays
use Rattle.unix_calls.specs.declared.Event.TheVariants as events
use Rattle.client_file_tables.specs.declared.client_files.ClientFiles.{ClientFiles}
use Rattle.client_file_tables.specs.declared.extent.Extent.{Extent}
use Rattle.client_file_tables.specs.declared.works.WriteBackOut.{WriteBackOut}
use Rattle.client_file_tables.specs.Extents.{is_within}
use Rattle.client_file_tables.specs.Says.{notes}
use Rattle.client_file_tables.specs.Blocks.{state_in}

-- whether the write-back is of that block and went under that stamp
abbrev pub is_out : FileId → BlockNo → ℕ → WriteBackOut → Bool
is_out file block stamp sent =
    ((sent.file.server == file.server) && (sent.file.number == file.number)) && (sent.block.0 == block.0) && (sent.stamp == stamp)

-- the first of these that is
abbrev pub out_in : FileId → BlockNo → ℕ → List (TxNo × WriteBackOut) → Option TxNo
out_in file block stamp rows = option_map (λ (row : TxNo × WriteBackOut). row.0) (find (λ (row : TxNo × WriteBackOut). is_out file block stamp row.1) rows)

-- the block's write-back that has no answer yet and went under the file's present stamp
abbrev pub current_write_back : FileId → BlockNo → ClientFiles → Option TxNo
current_write_back file block s = out_in file block (state_in file s).stamp s.write_backs

-- the block is listed as one that was made dirty in this step
abbrev pub lists : FileId → BlockNo → ClientFiles → ClientFiles
lists file block s = record s { delay = delays.dirtied s.delay file block s.step }

-- unless it has a current write-back
abbrev pub lists_by : Option TxNo → FileId → BlockNo → ClientFiles → ClientFiles
lists_by (Some tx) file block s = s
lists_by None file block s = lists file block s

abbrev pub lists_free : FileId → BlockNo → ClientFiles → ClientFiles
lists_free file block s = lists_by (current_write_back file block s) file block s

-- it is noted that the block was written
abbrev pub dirties : FileId → BlockNo → ClientFiles → ClientFiles
dirties file block s = lists_free file block (notes (events.Dirtied file block) s)

-- and so of as many blocks, from that one on
abbrev pub dirties_from : FileId → ℕ → ℕ → ClientFiles → ClientFiles
dirties_from file first zero s = s
dirties_from file first (suc count) s = dirties file (record { 0 = first + count }) (dirties_from file first count s)

-- and so of the blocks of a range
abbrev pub dirties_all : FileId → Extent → ClientFiles → ClientFiles
dirties_all file extent s = if is_within extent then dirties_from file (first_block extent.from) (block_count extent.from extent.length) s else s
