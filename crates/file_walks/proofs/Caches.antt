-- What a client's kernel does with its cache.
use Rattle.std.proofs.Common.{ℕ, List}
use Rattle.sprite_ids.specs.declared.BlockNo.{BlockNo}
use Rattle.sprite_ids.specs.declared.CallKind.{CallKind}
use Rattle.sprite_ids.specs.declared.FileId.{FileId}
use Rattle.sprite_ids.specs.declared.Grant.{Grant}
use Rattle.block_cache.specs.Held as held
use Rattle.block_cache.specs.Held.{Held, fill_answer}
use Rattle.client_data.specs.Grants.{usable}

-- a call of the cache
pub data CacheCall : Type 0 where
  -- a block of the file that was fetched under that stamp comes, with its bytes
  Fills : FileId → ℕ → BlockNo → List ℕ → CacheCall
  -- that many bytes of the file are read from there on
  Reads : FileId → ℕ → ℕ → CacheCall
  -- bytes are written from there on
  Writes : FileId → ℕ → List ℕ → CacheCall
  -- a clean block outside these of the file goes
  Drops : FileId → BlockNo → BlockNo → CacheCall
  -- a grant comes, of which a kernel takes what it may use
  Grants : Grant → CacheCall
  -- a callback of the file comes, with its stamp
  CallsBack : FileId → ℕ → CallKind → CacheCall
  -- a write-back of the file is answered that went under that stamp: of that block, with that dirty number
  Settles : FileId → ℕ → ℕ → ℕ → CacheCall

-- the cache after a call
abbrev pub after : CacheCall → Held → Held
after (Fills file stamp block bytes) old = held.after_fill old file block bytes (fill_answer old file stamp block.0)
after (Reads file from many) old = held.after_read old file from many
after (Writes file from new) old = held.after_write old file from new
after (Drops file first last) old = held.after_drop old file first last
after (Grants grant) old = held.after_grant old (usable old grant)
after (CallsBack file stamp kind) old = held.after_callback old file stamp kind
after (Settles file stamp block number) old = held.after_write_back old file stamp block number
