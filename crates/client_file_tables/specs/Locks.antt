-- The locks of streams, and who waits for them.
use Rattle.std.specs.Prelude.{ℕ, Bool, if◌then◌else◌, [], ◌∷◌, ◌++◌, Option, Some, None}
use Rattle.std.specs.List.{list_any}
use Rattle.sprite_ids.specs.declared.StreamNo.{StreamNo}
use Rattle.kernel_steps.specs.Rows.{is_row}
use Rattle.stream_table.specs.Entries.{has_lock, holder_of, locked, unlocked}
use Rattle.client_file_tables.specs.declared.client_files.ClientFiles.{ClientFiles}
use Rattle.client_file_tables.specs.Rows.{same_pid, same_stream, first_stream, less_stream}
use Rattle.client_file_tables.specs.Steps.{wakes}

-- whether the process has the stream's lock, or gets it
abbrev pub gets_lock : ℕ → StreamNo → ClientFiles → Bool
gets_lock pid stream s = has_lock pid (holder_of s.streams.entries stream)

-- the process asks the stream table for the lock
abbrev pub takes_lock : ℕ → StreamNo → ClientFiles → ClientFiles
takes_lock pid stream s = record s { streams = record s.streams { entries = locked s.streams.entries stream pid } }

-- the process waits for the lock, behind all that wait already
abbrev pub waits_for_lock : ℕ → StreamNo → ClientFiles → ClientFiles
waits_for_lock pid stream s =
    if list_any (is_row same_stream same_pid stream pid) s.lock_waits then s else record s { lock_waits = s.lock_waits ++ (stream, pid) ∷ [] }

-- the process gets the lock, or waits for it
abbrev pub locks : ℕ → StreamNo → ClientFiles → ClientFiles
locks pid stream s = if gets_lock pid stream s then takes_lock pid stream s else waits_for_lock pid stream (takes_lock pid stream s)

-- the lock is handed over to a process that waited for it
abbrev pub hands_over : ℕ → StreamNo → ClientFiles → ClientFiles
hands_over pid stream s = wakes pid (takes_lock pid stream s)

abbrev pub hands_first : Option ℕ → StreamNo → ClientFiles → ClientFiles
hands_first (Some pid) stream s = hands_over pid stream s
hands_first None stream s = s

-- the lock is freed
abbrev pub frees : StreamNo → ClientFiles → ClientFiles
frees stream s = record s { streams = record s.streams { entries = unlocked s.streams.entries stream } }

-- the lock is freed, or handed over to the process that has waited for it longest
abbrev pub unlocks : StreamNo → ClientFiles → ClientFiles
unlocks stream s = hands_first (first_stream stream s.lock_waits) stream (record (frees stream s) { lock_waits = less_stream stream s.lock_waits })
