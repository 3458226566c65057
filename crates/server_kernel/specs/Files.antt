-- The tables of the server, each call with the tests that it needs: where one fails, nothing changes.
use Rattle.std.specs.Prelude.{ℕ, ◌+◌, ◌-◌, ◌*◌, ◌==◌, nat_le, nat_lt, Bool, true, false, ◌&&◌, ◌||◌, not, if◌then◌else◌, List, [], ◌∷◌, ◌++◌, length, Option, Some, None}
use Rattle.sprite_ids.specs.declared.FileId.{FileId}
use Rattle.sprite_ids.specs.declared.StreamNo.{StreamNo}
use Rattle.sprite_ids.specs.declared.BlockNo.{BlockNo}
use Rattle.sprite_ids.specs.declared.Grant.{Grant}
use Rattle.sprite_ids.specs.declared.Mode.{Mode}
use Rattle.sprite_ids.specs.Lists.{less}
use Rattle.file_store.specs.Content.{read_of, written, block_put}
use Rattle.file_store.specs.Files.{is_there, held, with_bytes, with_new, without}
use Rattle.version_table.specs.Opens.{or_reading, stream_mode, open_at, count_in}
use Rattle.version_table.specs.Files as tables
use Rattle.version_table.specs.declared.Versioned.{Versioned}
use Rattle.version_table.specs.Versions as versions
use Rattle.shadow_streams.specs.Shadows.{offset_of}
use Rattle.server_kernel.specs.declared.asked.Asked.{Asked}
use Rattle.server_kernel.specs.declared.server.Server.{Server}

-- whether the other is that file
abbrev pub is_that : FileId → FileId → Bool
is_that file other = (other.server == file.server) && (other.number == file.number)

-- what the server keeps of the file
abbrev pub kept_of : FileId → Server → Versioned
kept_of file s = versions.file_of s.versions.files file

-- whether an open or a move of the file waits for callbacks
abbrev pub is_busy : FileId → Server → Bool
is_busy file s = tables.is_busy (kept_of file s)

-- how many grants of the stream the kernel has
abbrev pub count_at : FileId → StreamNo → ℕ → Server → ℕ
count_at file stream kernel s = count_in (open_at (kept_of file s).opens stream kernel)

-- what the stream was opened for; for reading where nobody has it open
abbrev pub mode_in : FileId → StreamNo → Server → Mode
mode_in file stream s = or_reading (stream_mode (kept_of file s).opens stream)

-- how many bytes the file has
abbrev pub size_in : FileId → Server → ℕ
size_in file s = if is_there s.store.files file then length (held s.store.files file) else 0

-- as many of the bytes as lie before the limit
abbrev pub within : ℕ → ℕ → ℕ → ℕ
within limit from many = if nat_lt (limit - from) many then limit - from else many

-- the file's bytes from there on, at most that many and none behind the limit
abbrev pub bytes_in : FileId → ℕ → ℕ → Server → List ℕ
bytes_in file from many s = if not (is_there s.store.files file) || nat_lt s.store.limit from then [] else read_of (held s.store.files file) from (within s.store.limit from many)

-- an offset, or another one where there is none
abbrev pub offset_or : ℕ → Option ℕ → ℕ
offset_or other (Some offset) = offset
offset_or other None = other

-- where a request with that offset begins: at the stream's own where it has none, and at 0 where the stream isn't shared
abbrev pub start_in : StreamNo → Option ℕ → Server → ℕ
start_in stream offset s = offset_or (offset_or 0 (offset_of s.shadows stream)) offset

-- the grant with the file's size
abbrev pub sized : FileId → Grant → Server → Grant
sized file grant s = record grant { size = size_in file s }

-- an empty file is made
abbrev pub made_file : FileId → Server → Server
made_file file s = if is_there s.store.files file then s else record s { store = record s.store { files = with_new s.store.files file } }

-- the file has these bytes
abbrev pub with_content : FileId → List ℕ → Server → Server
with_content file bytes s = record s { store = record s.store { files = with_bytes s.store.files file bytes } }

-- the file's bytes are dropped
abbrev pub emptied : FileId → Server → Server
emptied file s = if is_there s.store.files file then with_content file [] s else s

-- the bytes are written there
abbrev pub written_to : FileId → ℕ → List ℕ → Server → Server
written_to file from bytes s =
    if is_there s.store.files file && nat_le (from + length bytes) s.store.limit then with_content file (written (held s.store.files file) from bytes) s else s

-- the block is put, and the file grows to that size
abbrev pub block_put_in : FileId → BlockNo → ℕ → List ℕ → Server → Server
block_put_in file block size bytes s =
    if is_there s.store.files file && nat_le (4096 * block.0 + length bytes) s.store.limit && nat_le size s.store.limit
    then with_content file (block_put (held s.store.files file) block.0 size bytes) s
    else s

-- the table of opens has these files
abbrev pub with_versions : versions.Files → Server → Server
with_versions files s = record s { versions = record s.versions { files = files } }

-- the grants of the stream are taken off the kernel
abbrev pub taken_off : FileId → ℕ → StreamNo → ℕ → Server → Server
taken_off file kernel stream grants s = if is_busy file s then s else with_versions (versions.with_closed s.versions.files file kernel stream grants) s

-- whether nobody has the file open then
abbrev pub is_last_off : FileId → ℕ → StreamNo → ℕ → Server → Bool
is_last_off file kernel stream grants s = if is_busy file s then false else tables.is_closed (kept_of file s) kernel stream grants

-- the file has no name any more
abbrev pub marked : FileId → Server → Server
marked file s = record s { unlinked = s.unlinked ++ file ∷ [] }

-- the file is dropped with its bytes
abbrev pub dropped : FileId → Server → Server
dropped file s = if is_there s.store.files file then record s { store = record s.store { files = without s.store.files file } } else s

-- the file is forgotten
abbrev pub forgotten : FileId → Server → Server
forgotten file s = with_versions (versions.forgotten s.versions.files file) (dropped file (record s { unlinked = less (is_that file) s.unlinked }))

-- the request waits until the file isn't busy any more
abbrev pub waits : Asked → FileId → Server → Server
waits asked file s = record s { waiting = s.waiting ++ (file, asked) ∷ [] }
