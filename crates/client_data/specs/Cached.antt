-- Readings and writings in the cache, all of whose blocks are held.
use Rattle.std.specs.Prelude.{ℕ, ◌+◌, Bool, true, false, if◌then◌else◌, Option}
use Rattle.sprite_ids.specs.declared.FileId.{FileId}
use Rattle.sprite_ids.specs.declared.BlockNo.{BlockNo}
use Rattle.process_machine.specs.declared.Reply.TheVariants.{Value}
use Rattle.client_file_tables.specs.declared.ClientFiles.{ClientFiles}
use Rattle.client_file_tables.specs.declared.DataCall.{DataCall}
use Rattle.client_file_tables.specs.declared.DataKind.{DataKind}
use Rattle.client_file_tables.specs.declared.DataKind.TheVariants as kinds
use Rattle.client_file_tables.specs.declared.Extent.{Extent}
use Rattle.client_file_tables.specs.Says.{plain_value}
use Rattle.client_file_tables.specs.Streams.{moves_offset}
use Rattle.client_file_tables.specs.Blocks.{missing_in, bytes_read, reads, writes}
use Rattle.client_file_tables.specs.WriteBacks.{dirties_all}
use Rattle.client_data.specs.Finishes.{ends_here}

-- the first block of the range that isn't held
abbrev pub missing_of : DataCall → Extent → ClientFiles → Option BlockNo
missing_of call extent s = missing_in call.file extent s

-- whether it writes
abbrev pub is_write : DataKind → Bool
is_write (kinds.Write bytes) = true
is_write _ = false

-- the range is read, and the stream's offset moves: a Reading in the cache, all of whose blocks are held
abbrev pub reads_cached : ℕ → DataCall → Extent → ClientFiles → ClientFiles
reads_cached pid call extent s =
    ends_here pid call (Value extent.length 0 (bytes_read call.file extent s))
    (moves_offset call.stream (extent.from + extent.length) (reads call.file extent s))

-- the bytes of a write stand there
abbrev pub writes_by : DataKind → FileId → ℕ → ClientFiles → ClientFiles
writes_by (kinds.Write bytes) file start s = writes file start bytes s
writes_by _ file start s = s

abbrev pub writes_bytes : DataCall → ℕ → ClientFiles → ClientFiles
writes_bytes call start s = writes_by call.kind call.file start s

-- the range is written, and the stream's offset moves: a Writing or an Append in the cache, all of whose blocks are held
abbrev pub writes_cached : ℕ → DataCall → Extent → ClientFiles → ClientFiles
writes_cached pid call extent s =
    ends_here pid call (plain_value extent.length)
    (moves_offset call.stream (extent.from + extent.length) (dirties_all call.file extent (writes_bytes call extent.from s)))

abbrev pub does_cached : ℕ → DataCall → Extent → ClientFiles → ClientFiles
does_cached pid call extent s = if is_write call.kind then writes_cached pid call extent s else reads_cached pid call extent s
