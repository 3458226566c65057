-- A block leaves a cache only for a cause: the cache is full, the file is cached no more, or its version is another one.
use Rattle.std.specs.Prelude.{ℕ, ◌==◌, Bool, true, false, ◌&&◌, ◌||◌, not, if◌then◌else◌, List, [], ◌∷◌, length, Option, Some, None}
use Rattle.std.specs.List.{list_any}
use Rattle.std.specs.Option.{is_some}
use Rattle.sprite_ids.specs.declared.names.FileId.{FileId}
use Rattle.sprite_ids.specs.declared.names.BlockNo.{BlockNo}
use Rattle.unix_calls.specs.declared.description.Description.{Description}
use Rattle.unix_calls.specs.declared.event.DropCause.{DropCause}
use Rattle.unix_calls.specs.declared.event.DropCause.TheVariants as cause
use Rattle.unix_calls.specs.declared.event.Event.{Event}
use Rattle.unix_calls.specs.declared.event.Event.TheVariants as event
use Rattle.unix_calls.specs.declared.event.Rec.{Rec}
use Rattle.call_journal.specs.Past.{Past, Seen, holds, folded, last_event, opening_of, each_record}
use Rattle.call_journal.specs.Matching.{same_file, same_block, is_off, is_at, writes}
use Rattle.call_journal.specs.Files.{mode_of, held_of}
use Rattle.call_journal.specs.Calls.{is_truncating}

-- the block came in
abbrev pub is_filled : FileId → BlockNo → Event → Bool
is_filled file block (event.Filled f b) = same_block f b file block
is_filled file block _ = false

-- a stream of the file was opened for writing, by another kernel
abbrev pub is_written_elsewhere : FileId → ℕ → Event → Bool
is_written_elsewhere file kernel (event.Opened f stream k mode) = same_file f file && not (k == kernel) && writes mode
is_written_elsewhere file kernel _ = false

-- the file was opened
abbrev pub is_opened_of : FileId → Event → Bool
is_opened_of file (event.Opened f stream kernel mode) = same_file f file
is_opened_of file _ = false

-- it was opened with truncation: directly behind its Opened, which is that event, the entry of that open makes a stream of a file,
-- and truncates
abbrev pub is_truncating_event : Event → Bool
is_truncating_event (event.Enter entry) = is_truncating entry
is_truncating_event _ = false

abbrev pub is_truncated : FileId → Option Event → Seen → Bool
is_truncated file last seen = is_truncating_event seen.rec.event && is_some (opening_of seen) && holds (is_opened_of file) last

-- the event of the last of some records
abbrev pub last_seen : List Seen → Option Event
last_seen [] = None
last_seen (seen ∷ []) = Some seen.rec.event
last_seen (seen ∷ next ∷ rest) = last_seen (next ∷ rest)

-- since the block came in at the kernel, another one opened the file for writing, or it was opened with truncation
abbrev pub outdated_step : ℕ → FileId → BlockNo → List Seen → Seen → Bool → Bool
outdated_step kernel file block before seen found =
    not (is_at kernel (is_filled file block) seen.rec)
    && (found || is_written_elsewhere file kernel seen.rec.event || is_truncated file (last_seen before) seen)

abbrev pub is_outdated : ℕ → FileId → BlockNo → List Seen → Bool
is_outdated kernel file block seen = folded (outdated_step kernel file block) false seen

-- the records before the block came in last at the kernel
abbrev pub filled_step : ℕ → FileId → BlockNo → List Rec → Rec → List Rec → List Rec
filled_step kernel file block before rec found = if is_at kernel (is_filled file block) rec then before else found

abbrev pub before_filled : ℕ → FileId → BlockNo → List Rec → List Rec
before_filled kernel file block records = folded (filled_step kernel file block) [] records

-- the stamp of a file that a kernel took last
abbrev pub stamp_by : FileId → Event → Option ℕ → Option ℕ
stamp_by file (event.Mode f stamp mode) before = if same_file f file then Some stamp else before
stamp_by file _ before = before

abbrev pub stamp_step : ℕ → FileId → List Rec → Rec → Option ℕ → Option ℕ
stamp_step kernel file before rec stamp = if rec.kernel == kernel then stamp_by file rec.event stamp else stamp

abbrev pub last_stamp : ℕ → FileId → List Rec → Option ℕ
last_stamp kernel file records = folded (stamp_step kernel file) None records

-- a grant or callback of the file with that stamp, to the kernel
abbrev pub is_given : ℕ → FileId → ℕ → Event → Bool
is_given kernel file stamp (event.Grant f to s mode) = same_file f file && to == kernel && s == stamp
is_given kernel file stamp (event.Callback f to s kind) = same_file f file && to == kernel && s == stamp
is_given kernel file stamp _ = false

-- the kernel took that stamp of the file
abbrev pub is_taken : FileId → ℕ → Event → Bool
is_taken file stamp (event.Mode f s mode) = same_file f file && s == stamp
is_taken file stamp _ = false

-- it took it nowhere in the trace
abbrev pub is_never_taken : ℕ → FileId → ℕ → List Rec → Bool
is_never_taken kernel file stamp trace = not (list_any (is_at kernel (is_taken file stamp)) trace)

-- a grant of the file to the kernel, which the kernel never took
abbrev pub is_untaken : ℕ → FileId → List Rec → Event → Bool
is_untaken kernel file trace (event.Grant f to stamp mode) = same_file f file && to == kernel && is_never_taken kernel file stamp trace
is_untaken kernel file trace _ = false

-- the kernel opened a stream of the file for writing
abbrev pub is_opened_to_write : ℕ → FileId → Event → Bool
is_opened_to_write kernel file (event.Opened f stream k mode) = same_file f file && k == kernel && writes mode
is_opened_to_write kernel file _ = false

-- since the grant or callback of a stamp, the kernel opened a stream for writing, directly behind a grant that it never took
abbrev pub missed_step : ℕ → FileId → ℕ → List Rec → List Rec → Rec → Bool → Bool
missed_step kernel file stamp trace before rec missed =
    not (is_given kernel file stamp rec.event)
    && (missed || is_opened_to_write kernel file rec.event && holds (is_untaken kernel file trace) (last_event before))

abbrev pub has_missed : ℕ → FileId → Option ℕ → List Rec → List Rec → Bool
has_missed kernel file None records trace = false
has_missed kernel file (Some stamp) records trace = folded (missed_step kernel file stamp trace) false records

-- the stamp is the last one that the kernel took before the block came in
abbrev pub missed_grant : ℕ → FileId → BlockNo → List Rec → List Rec → Bool
missed_grant kernel file block records trace =
    has_missed kernel file (last_stamp kernel file (before_filled kernel file block records)) records trace

-- a block is dropped for its cause: with a full cache, with the mode off, or with an old version
abbrev pub is_cause : Description → Past → ℕ → FileId → BlockNo → List Rec → DropCause → Bool
is_cause c past kernel file block trace cause.Full = length (held_of kernel past.records) == c.cache
is_cause c past kernel file block trace cause.Stop = is_off (mode_of kernel file past.records)
is_cause c past kernel file block trace cause.Version =
    is_outdated kernel file block past.seen || missed_grant kernel file block past.records trace

abbrev pub drops_well : Description → Past → ℕ → Event → List Rec → Bool
drops_well c past kernel (event.Dropped file block cause) trace = is_cause c past kernel file block trace cause
drops_well c past kernel _ trace = true

-- each block is
abbrev pub blocks_are_dropped_for_a_cause : Description → List Rec → Bool
blocks_are_dropped_for_a_cause c trace = each_record c (λ past rec rest. drops_well c past rec.kernel rec.event trace) trace
