-- Grants and callbacks.
use Rattle.std.specs.Prelude.{ℕ, ◌==◌, Bool, false, if◌then◌else◌, List, [], ◌∷◌}
use Rattle.sprite_ids.specs.declared.TxNo.{TxNo}
use Rattle.sprite_ids.specs.declared.FileId.{FileId}
use Rattle.sprite_ids.specs.declared.BlockNo.{BlockNo}
use Rattle.sprite_ids.specs.declared.Grant.{Grant}
use Rattle.sprite_ids.specs.declared.CacheMode.{CacheMode}
use Rattle.sprite_ids.specs.declared.CacheMode.TheVariants.{On, Off}
use Rattle.sprite_ids.specs.declared.CallKind.{CallKind}
use Rattle.sprite_ids.specs.declared.CallKind.TheVariants.{Recall, Stop}
use Rattle.sprite_ids.specs.Lists.{without}
use Rattle.packet_bodies.specs.declared.CallbackRequest.{CallbackRequest}
use Rattle.packet_bodies.specs.declared.ReplyBody.TheVariants.{Flushed}
use Rattle.unix_calls.specs.declared.DropCause.{DropCause}
use Rattle.unix_calls.specs.declared.DropCause.TheVariants as causes
use Rattle.unix_calls.specs.declared.Event.TheVariants.{Mode, Dropped}
use Rattle.block_cache.specs.Ranges.{file_blocks}
use Rattle.block_cache.specs.Files.{keeps}
use Rattle.block_cache.specs.Blocks.{held_under, dirty_under}
use Rattle.block_cache.specs.Held.{Held, is_newer, after_grant, after_callback, flushed_of}
use Rattle.write_delay.specs.Delays.{is_of}
use Rattle.client_file_tables.specs.declared.ClientFiles.{ClientFiles}
use Rattle.client_file_tables.specs.Says.{notes, answers}
use Rattle.client_file_tables.specs.Blocks.{state_in, is_cached, with_cache}

-- the mode that a grant gives
abbrev pub mode_of_grant : Bool → CacheMode
mode_of_grant on = if on then On else Off

-- why blocks are dropped at a grant
abbrev pub cause_of_grant : Bool → DropCause
cause_of_grant on = if on then causes.Version else causes.Stop

-- the file's blocks that are held, and those that are dirty
abbrev pub held_in : FileId → ClientFiles → List BlockNo
held_in file s = held_under s.cache.blocks file file_blocks

abbrev pub dirty_in : FileId → ClientFiles → List BlockNo
dirty_in file s = dirty_under s.cache.blocks file file_blocks

-- the block waits no more to be written back
abbrev pub cleans_one : FileId → BlockNo → ClientFiles → ClientFiles
cleans_one file block s = record s { delay = without (is_of file block) s.delay }

abbrev pub cleans_all : FileId → List BlockNo → ClientFiles → ClientFiles
cleans_all file [] s = s
cleans_all file (block ∷ blocks) s = cleans_all file blocks (cleans_one file block s)

-- it is noted that the block was dropped
abbrev pub drops_one : FileId → BlockNo → DropCause → ClientFiles → ClientFiles
drops_one file block cause s = notes (Dropped file block cause) (cleans_one file block s)

abbrev pub drops_all : FileId → List BlockNo → DropCause → ClientFiles → ClientFiles
drops_all file [] cause s = s
drops_all file (block ∷ blocks) cause s = drops_all file blocks cause (drops_one file block cause s)

-- the blocks are dropped unless they stay
abbrev pub drops_unless : Bool → FileId → List BlockNo → DropCause → ClientFiles → ClientFiles
drops_unless stay file blocks cause s = if stay then s else drops_all file blocks cause s

-- the file has the grant's mode, and the blocks that aren't of its version go
abbrev pub grants_newer : Grant → Bool → List BlockNo → ClientFiles → ClientFiles
grants_newer grant stay blocks s =
    drops_unless stay grant.file blocks (cause_of_grant grant.on) (notes (Mode grant.file grant.stamp (mode_of_grant grant.on)) s)

-- what a kernel may use of a grant: one without a cache never caches a file, whatever it is granted
unfoldable pub usable : Held → Grant → Grant
usable cache grant = if cache.size == 0 then record grant { on = false } else grant

-- that is taken, where it is newer
abbrev pub takes_usable : Grant → ClientFiles → ClientFiles
takes_usable grant s =
    if is_newer s.cache grant
    then grants_newer grant (keeps (state_in grant.file s) grant) (held_in grant.file s) (with_cache (after_grant s.cache grant) s)
    else s

-- a grant is taken: part of the Delivering of what brings it
abbrev pub takes_grant : Grant → ClientFiles → ClientFiles
takes_grant grant s = takes_usable (usable s.cache grant) s

-- the blocks after a callback: after a recall they are clean, after a stop they go
abbrev pub settles_called : CallKind → FileId → List BlockNo → List BlockNo → ClientFiles → ClientFiles
settles_called Recall file dirty blocks s = cleans_all file dirty s
settles_called Stop file dirty blocks s = drops_all file blocks causes.Stop s

-- the mode after a callback is noted
abbrev pub notes_mode : FileId → ℕ → ClientFiles → ClientFiles
notes_mode file stamp s = notes (Mode file stamp (mode_of_grant (is_cached file s))) s

-- the cache after a callback
abbrev pub takes_callback : CallbackRequest → ClientFiles → ClientFiles
takes_callback r s = with_cache (after_callback s.cache r.file r.stamp r.kind) s

-- a callback is taken and answered: the Delivering of a Callback
abbrev pub called_back : TxNo → CallbackRequest → ClientFiles → ClientFiles
called_back tx r s =
    answers tx (Flushed (flushed_of s.cache r.file))
    (settles_called r.kind r.file (dirty_in r.file s) (held_in r.file s) (notes_mode r.file r.stamp (takes_callback r s)))
