-- What is read, written, filled and dropped in the cache, for any fact that each call of the cache keeps, and that sees nothing that is told of it.
use Rattle.std.proofs.Common.{ℕ, zero, suc, ◌+◌, Bool, true, false, cond, List, [], Option, Some, None}
use Rattle.sprite_ids.specs.declared.BlockNo.{BlockNo}
use Rattle.sprite_ids.specs.declared.FileId.{FileId}
use Rattle.sprite_ids.specs.declared.TxNo.{TxNo}
use Rattle.unix_calls.specs.declared.DropCause.TheVariants as causes
use Rattle.unix_calls.specs.declared.Event.TheVariants as events
use Rattle.block_cache.specs.declared.Block.{Block}
use Rattle.block_cache.specs.declared.BlockKey.{BlockKey}
use Rattle.block_cache.specs.declared.Filled.{Filled}
use Rattle.block_cache.specs.declared.Filled.TheVariants as fillings
use Rattle.block_cache.specs.Held as held
use Rattle.block_cache.specs.Held.{is_full}
use Rattle.block_cache.specs.Ranges.{block_count, first_block}
use Rattle.client_file_tables.specs.declared.client_files.ClientFiles.{ClientFiles}
use Rattle.client_file_tables.specs.declared.extent.Extent.{Extent}
use Rattle.client_file_tables.specs.declared.works.DataKind.{DataKind}
use Rattle.client_file_tables.specs.declared.works.DataKind.TheVariants as kinds
use Rattle.client_file_tables.specs.Blocks as blocks
use Rattle.client_file_tables.specs.Blocks.{state_in, with_cache}
use Rattle.client_file_tables.specs.Extents.{first_of, is_within, last_of}
use Rattle.client_file_tables.specs.Says as says
use Rattle.client_file_tables.specs.WriteBacks as backs
use Rattle.client_file_tables.specs.WriteBacks.{current_write_back}
use Rattle.client_data.specs.Cached as cached
use Rattle.client_data.specs.Filling as filling
use Rattle.file_walks.proofs.Caches.{CacheCall, Drops, Fills, Reads, Writes, after}

-- a fact of the files' side that each call of the cache keeps, and that sees no block that is listed and nothing that is told of one
pub record BearsBlocks (P : ClientFiles → Type 0) : Type 0 where
  pub caches : (s : ClientFiles) (call : CacheCall) → P s → P (with_cache (after call s.cache) s)
  pub lists : (s : ClientFiles) (file : FileId) (block : BlockNo) → P s → P (backs.lists file block s)
  pub filled : (s : ClientFiles) (file : FileId) (block : BlockNo) → P s → P (says.notes (events.Filled file block) s)
  pub dirtied : (s : ClientFiles) (file : FileId) (block : BlockNo) → P s → P (says.notes (events.Dirtied file block) s)
  pub dropped : (s : ClientFiles) (file : FileId) (block : BlockNo) → P s → P (says.notes (events.Dropped file block causes.Full) s)

module _ (P : ClientFiles → Type 0) (bears : BearsBlocks P) where
  on_if : (b : Bool) (s t : ClientFiles) → P s → P t → P (cond b s t)
  on_if true s t p q = p
  on_if false s t p q = q

  -- Blocks that are put in, read and written

  fills_as : (filled : Filled) (file : FileId) (block : BlockNo) (s : ClientFiles) → P s → P (blocks.fills_as filled file block s)
  fills_as fillings.Filled file block s p = bears.filled s file block p
  fills_as fillings.Kept file block s p = p
  fills_as fillings.Old file block s p = p
  fills_as fillings.Full file block s p = p

  pub fills : (file : FileId) (stamp : ℕ) (block : BlockNo) (bytes : List ℕ) (s : ClientFiles) → P s → P (blocks.fills file stamp block bytes s)
  fills file stamp block bytes s p =
      let answer = held.fill_answer s.cache file stamp block.0 in
      let call : CacheCall = Fills file stamp block bytes in
      on_if (blocks.may_fill file block bytes s) _ s (fills_as answer file block (with_cache (after call s.cache) s) (bears.caches s call p)) p

  reads_found : (o : Option BlockNo) (file : FileId) (extent : Extent) (s : ClientFiles) → P s → P (blocks.reads_found o file extent s)
  reads_found None file extent s p = bears.caches s (Reads file extent.from extent.length) p
  reads_found (Some block) file extent s p = p

  pub reads : (file : FileId) (extent : Extent) (s : ClientFiles) → P s → P (blocks.reads file extent s)
  reads file extent s p = on_if (blocks.may_use file extent s) _ s (reads_found (held.missing s.cache file extent.from extent.length) file extent s p) p

  writes_found : (o : Option BlockNo) (file : FileId) (start : ℕ) (bytes : List ℕ) (s : ClientFiles) → P s → P (blocks.writes_found o file start bytes s)
  writes_found None file start bytes s p = bears.caches s (Writes file start bytes) p
  writes_found (Some block) file start bytes s p = p

  writes : (file : FileId) (start : ℕ) (bytes : List ℕ) (s : ClientFiles) → P s → P (blocks.writes file start bytes s)
  writes file start bytes s p = on_if (blocks.may_write file start bytes s) _ s (writes_found _ file start bytes s p) p

  pub writes_by : (kind : DataKind) (file : FileId) (start : ℕ) (s : ClientFiles) → P s → P (cached.writes_by kind file start s)
  writes_by (kinds.Write bytes) file start s p = writes file start bytes s p
  writes_by (kinds.Read many) file start s p = p
  writes_by (kinds.Seek to) file start s p = p
  writes_by kinds.Size file start s p = p

  -- Blocks that are listed

  lists_by : (o : Option TxNo) (file : FileId) (block : BlockNo) (s : ClientFiles) → P s → P (backs.lists_by o file block s)
  lists_by (Some tx) file block s p = p
  lists_by None file block s p = bears.lists s file block p

  pub lists_free : (file : FileId) (block : BlockNo) (s : ClientFiles) → P s → P (backs.lists_free file block s)
  lists_free file block s p = lists_by (current_write_back file block s) file block s p

  dirties : (file : FileId) (block : BlockNo) (s : ClientFiles) → P s → P (backs.dirties file block s)
  dirties file block s p = lists_free file block (says.notes (events.Dirtied file block) s) (bears.dirtied s file block p)

  dirties_from : (file : FileId) (first count : ℕ) (s : ClientFiles) → P s → P (backs.dirties_from file first count s)
  dirties_from file first zero s p = p
  dirties_from file first (suc count) s p = dirties file (record { 0 = first + count }) (backs.dirties_from file first count s) (dirties_from file first count s p)

  pub dirties_all : (file : FileId) (extent : Extent) (s : ClientFiles) → P s → P (backs.dirties_all file extent s)
  dirties_all file extent s p = on_if (is_within extent) _ s (dirties_from file (first_block extent.from) (block_count extent.from extent.length) s p) p

  -- Room, and zeros behind a file's end

  notes_full : (o : Option (BlockKey × Block)) (s : ClientFiles) → P s → P (blocks.notes_full o s)
  notes_full (Some entry) s p = bears.dropped s entry.0.file entry.0.block p
  notes_full None s p = p

  drops_full : (file : FileId) (extent : Extent) (s : ClientFiles) → P s → P (blocks.drops_full file extent s)
  drops_full file extent s p =
      let call : CacheCall = Drops file (first_of extent) (last_of extent) in
      on_if (is_within extent) _ s (notes_full (blocks.clean_outside file extent s) (with_cache (after call s.cache) s) (bears.caches s call p)) p

  pub makes_room : (file : FileId) (extent : Extent) (s : ClientFiles) → P s → P (filling.makes_room file extent s)
  makes_room file extent s p = on_if (is_full s.cache) _ s (drops_full file extent s p) p

  zeros_within : (file : FileId) (extent : Extent) (block : BlockNo) (s : ClientFiles) → P s → P (filling.zeros_within file extent block s)
  zeros_within file extent block s p =
      let roomy : ClientFiles = filling.makes_room file extent s in
      on_if (filling.gets_room file extent s) _ roomy (fills file (state_in file roomy).stamp block [] roomy (makes_room file extent s p)) (makes_room file extent s p)

  zeros_first : (o : Option BlockNo) (file : FileId) (extent : Extent) (s : ClientFiles) → P s → P (filling.zeros_first o file extent s)
  zeros_first (Some block) file extent s p = on_if (filling.is_past_end file block s) _ s (zeros_within file extent block s p) p
  zeros_first None file extent s p = p

  zero_turns : (count : ℕ) (file : FileId) (extent : Extent) (s : ClientFiles) → P s → P (filling.zero_turns count file extent s)
  zero_turns zero file extent s p = p
  zero_turns (suc count) file extent s p =
      let before : ClientFiles = filling.zero_turns count file extent s in
      zeros_first (blocks.missing_in file extent before) file extent before (zero_turns count file extent s p)

  pub fills_zeros : (file : FileId) (extent : Extent) (s : ClientFiles) → P s → P (filling.fills_zeros file extent s)
  unfolding filling.fills_zeros
  fills_zeros file extent s p = zero_turns 5 file extent s p
