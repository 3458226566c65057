-- Streams' offsets, new streams and working directories.
use Rattle.std.specs.Prelude.{ℕ, if◌then◌else◌, List, [], ◌∷◌, ◌++◌, Option, None}
use Rattle.std.specs.List.{list_any}
use Rattle.sprite_ids.specs.declared.StreamNo.{StreamNo}
use Rattle.sprite_ids.specs.Lists.{changed}
use Rattle.kernel_steps.specs.Rows.{is_under, with_value}
use Rattle.stream_table.specs.declared.Place.{Place}
use Rattle.stream_table.specs.declared.Place.TheVariants.{Local}
use Rattle.stream_table.specs.declared.Stream.{Stream}
use Rattle.stream_table.specs.Entries.{is_placed, may_be_at, placed, stream_of}
use Rattle.stream_table.specs.Streams.{added, free}
use Rattle.client_file_tables.specs.declared.client_files.ClientFiles.{ClientFiles}
use Rattle.client_file_tables.specs.Rows.{same_pid, first_of}

-- the stream of that number, where it is open here
abbrev pub stream_at : StreamNo → ClientFiles → Option Stream
stream_at stream s = stream_of s.streams.entries stream

-- the stream's offset is kept there from now on
abbrev pub moves_place : StreamNo → Place → ClientFiles → ClientFiles
moves_place stream place s =
    if may_be_at place (stream_at stream s) then record s { streams = record s.streams { entries = placed s.streams.entries stream place } } else s

-- the stream's offset, which is kept here, is that one from now on
abbrev pub moves_offset : StreamNo → ℕ → ClientFiles → ClientFiles
moves_offset stream offset s = moves_place stream (Local offset) s

-- the process has one descriptor more
abbrev pub adds_stream : ℕ → StreamNo → Stream → ClientFiles → ClientFiles
adds_stream pid number stream s = if is_placed stream then record s { streams = added s.streams pid number stream } else s

-- which one
abbrev pub added_fd : ℕ → Stream → ClientFiles → Option ℕ
added_fd pid stream s = if is_placed stream then free s.streams.owners pid else None

-- the process's working directory
abbrev pub cwd_of : ℕ → ClientFiles → Option (List (List ℕ))
cwd_of pid s = first_of pid s.cwds

-- the process has that working directory
abbrev pub sets_cwd : ℕ → List (List ℕ) → ClientFiles → ClientFiles
sets_cwd pid path s =
    if list_any (is_under same_pid pid) s.cwds
    then record s { cwds = changed (is_under same_pid pid) (with_value path) s.cwds }
    else record s { cwds = s.cwds ++ (pid, path) ∷ [] }
