-- A block is written back only for a cause: the cache is full, a `sync` wants it, or it is old enough (Nelson, Welch and
-- Ousterhout 1988; the numbers are this project's).
use Rattle.std.specs.Prelude.{ℕ, ◌==◌, Bool, true, false, ◌&&◌, ◌||◌, not, List, nat_le, length, count_by}
use Rattle.std.specs.List.{list_any}
use Rattle.sprite_ids.specs.declared.names.FileId.{FileId}
use Rattle.sprite_ids.specs.declared.names.BlockNo.{BlockNo}
use Rattle.process_machine.specs.declared.call.Call.TheVariants as call
use Rattle.unix_calls.specs.declared.description.Description.{Description}
use Rattle.unix_calls.specs.declared.event.SendKind.TheVariants as send
use Rattle.unix_calls.specs.declared.event.Event.{Event}
use Rattle.unix_calls.specs.declared.event.Event.TheVariants as event
use Rattle.unix_calls.specs.declared.event.Rec.{Rec}
use Rattle.call_journal.specs.Past.{Past, Tie, holds, tied, each_record, some_then, since_last}
use Rattle.call_journal.specs.Matching.{same_file, same_block, is_at, has_event, is_return}
use Rattle.call_journal.specs.Files.{HeldBlock, held_of}

-- a clean block
abbrev pub is_clean : HeldBlock → Bool
is_clean held = not held.is_dirty

-- the cache is full, and at most four of its blocks are clean
abbrev pub is_pressed : Description → ℕ → List Rec → Bool
is_pressed c kernel records =
    length (held_of kernel records) == c.cache && nat_le (count_by is_clean (held_of kernel records)) 4

-- a `sync` of the file that was issued at the kernel, whose return is still due
abbrev pub is_sync_of : Past → FileId → Event → List Rec → Bool
is_sync_of past file (event.Issue pid number (call.Sync fd)) rest =
    holds (λ (t : Tie). same_file t.file file) (tied past pid fd) && not (list_any (has_event (is_return pid number)) rest)
is_sync_of past file _ rest = false

abbrev pub is_synced : Past → ℕ → FileId → Bool
is_synced past kernel file =
    some_then (λ (rec : Rec) rest. rec.kernel == kernel && is_sync_of past file rec.event rest) past.records

-- a step of a kernel that is counted: it ends a burst, or takes or misses a packet
abbrev pub is_counted_step : Event → Bool
is_counted_step (event.Burst pid count) = true
is_counted_step (event.Deliver tx from reply about) = true
is_counted_step (event.Expire tx last) = true
is_counted_step _ = false

-- the block was made dirty
abbrev pub is_dirtied : FileId → BlockNo → Event → Bool
is_dirtied file block (event.Dirtied f b) = same_block f b file block
is_dirtied file block _ = false

-- thirty steps of the kernel ago, or longer
abbrev pub is_old : ℕ → FileId → BlockNo → List Rec → Bool
is_old kernel file block records =
    list_any (is_at kernel (is_dirtied file block)) records
    && nat_le 30 (count_by (is_at kernel is_counted_step) (since_last (is_at kernel (is_dirtied file block)) records))

abbrev pub writes_back_well : Description → Past → ℕ → Event → Bool
writes_back_well c past kernel (event.Send tx to about (send.WriteBack file block)) =
    is_pressed c kernel past.records || is_synced past kernel file || is_old kernel file block past.records
writes_back_well c past kernel _ = true

-- each block is
abbrev pub blocks_are_written_back_for_a_cause : Description → List Rec → Bool
blocks_are_written_back_for_a_cause c trace = each_record c (λ past rec rest. writes_back_well c past rec.kernel rec.event) trace
