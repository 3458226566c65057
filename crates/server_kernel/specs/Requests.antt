-- Moves, closes and requests for a file's bytes. On a busy file each waits.
use Rattle.std.specs.Prelude.{ℕ, ◌*◌, ◌==◌, Bool, ◌&&◌, if◌then◌else◌, Option, Some, None}
use Rattle.std.specs.List.{list_any}
use Rattle.sprite_ids.specs.declared.FileId.{FileId}
use Rattle.sprite_ids.specs.declared.Grant.{Grant}
use Rattle.sprite_ids.specs.declared.Mode.{Mode}
use Rattle.packet_bodies.specs.declared.Request.{Request}
use Rattle.packet_bodies.specs.declared.Request.TheVariants as requests
use Rattle.packet_bodies.specs.declared.ReplyBody.TheVariants as replies
use Rattle.packet_bodies.specs.declared.Target.{Target}
use Rattle.packet_bodies.specs.declared.Target.TheVariants as targets
use Rattle.packet_bodies.specs.declared.MoveRequest.{MoveRequest}
use Rattle.packet_bodies.specs.declared.CloseRequest.{CloseRequest}
use Rattle.packet_bodies.specs.declared.FetchRequest.{FetchRequest}
use Rattle.packet_bodies.specs.declared.WriteBackRequest.{WriteBackRequest}
use Rattle.file_store.specs.Files.{is_there}
use Rattle.version_table.specs.declared.Action.{Action}
use Rattle.version_table.specs.declared.Action.TheVariants as actions
use Rattle.version_table.specs.Files.{current}
use Rattle.version_table.specs.Opens.{stream_mode}
use Rattle.shadow_streams.specs.Shadows as shadows
use Rattle.server_kernel.specs.declared.asked.Asked.{Asked}
use Rattle.server_kernel.specs.declared.server.Server.{Server}
use Rattle.server_kernel.specs.Says.{answers}
use Rattle.server_kernel.specs.Files.{is_that, kept_of, is_busy, bytes_in, sized, block_put_in, taken_off, is_last_off, forgotten, waits}
use Rattle.server_kernel.specs.Grants.{notes_closed, decides}
use Rattle.server_kernel.specs.Ops.{operates}

-- what the move asks of the table of opens
abbrev pub moving_of : ℕ → MoveRequest → Action
moving_of source r = actions.Moving r.stream source r.to r.kept r.grants

-- a move of a file's stream: its Delivering
abbrev pub moves_file : Asked → MoveRequest → FileId → Server → Server
moves_file asked r file s = decides asked file (moving_of asked.from r) s

-- a device's streams are nobody's here
abbrev pub moves_to : Target → Asked → MoveRequest → Server → Server
moves_to (targets.File file) asked r s = moves_file asked r file s
moves_to (targets.Device device) asked r s = answers asked.tx (replies.Moved None 1) s

abbrev pub moves : Asked → MoveRequest → Server → Server
moves asked r s = moves_to r.object asked r s

-- a file without a name is forgotten at its last close
abbrev pub forgets_last : Bool → FileId → Server → Server
forgets_last last file s = if last && list_any (is_that file) s.unlinked then forgotten file s else s

-- a shared stream's grants are taken off the kernel
abbrev pub drops_shared : ℕ → CloseRequest → Server → Server
drops_shared kernel r s = record s { shadows = shadows.close s.shadows r.stream kernel r.grants }

-- the stream's grants are taken off the kernel
abbrev pub drops_stream : Asked → CloseRequest → FileId → Mode → Server → Server
drops_stream asked r file mode s =
    forgets_last (is_last_off file asked.from r.stream r.grants s) file
    (drops_shared asked.from r (notes_closed file r.stream asked.from mode (taken_off file asked.from r.stream r.grants s)))

-- a stream that nobody has open is closed already
abbrev pub closes_by : Asked → CloseRequest → FileId → Option Mode → Server → Server
closes_by asked r file (Some mode) s = drops_stream asked r file mode s
closes_by asked r file None s = s

abbrev pub closes_stream : Asked → CloseRequest → FileId → Server → Server
closes_stream asked r file s = closes_by asked r file (stream_mode (kept_of file s).opens r.stream) s

-- a close of a file's stream: its Delivering
abbrev pub closes_file : Asked → CloseRequest → FileId → Server → Server
closes_file asked r file s = if is_busy file s then waits asked file s else answers asked.tx replies.Done (closes_stream asked r file s)

abbrev pub closes_of : Target → Asked → CloseRequest → Server → Server
closes_of (targets.File file) asked r s = closes_file asked r file s
closes_of (targets.Device device) asked r s = answers asked.tx replies.Done s

abbrev pub closes : Asked → CloseRequest → Server → Server
closes asked r s = closes_of r.object asked r s

-- a block is given: the Delivering of a Fetch
abbrev pub fetches : Asked → FetchRequest → FileId → Server → Server
fetches asked r file s = answers asked.tx (replies.Block r.stamp (bytes_in file (4096 * r.block.0) 4096 s)) s

-- a block is taken: the Delivering of a WriteBack
abbrev pub writes_back : Asked → WriteBackRequest → FileId → Server → Server
writes_back asked r file s = answers asked.tx replies.Done (block_put_in file r.block r.size r.bytes s)

-- the request for bytes whose stamp is the current one
abbrev pub uses_by : Request → Asked → FileId → Server → Server
uses_by (requests.Fetch r) asked file s = fetches asked r file s
uses_by (requests.WriteBack r) asked file s = writes_back asked r file s
uses_by (requests.Op r) asked file s = operates asked.tx r file s
uses_by _ asked file s = s

abbrev pub uses_current : Asked → FileId → Server → Server
uses_current asked file s = uses_by asked.body asked file s

-- a request with another stamp than the kernel's current one changes nothing, and is given the current grant
abbrev pub uses_at : Grant → Asked → FileId → ℕ → Server → Server
uses_at grant asked file stamp s =
    if grant.stamp == stamp then uses_current asked file s else answers asked.tx (replies.Again (sized file grant s)) s

abbrev pub uses_free : Asked → FileId → ℕ → Server → Server
uses_free asked file stamp s = uses_at (current (kept_of file s) asked.from) asked file stamp s

abbrev pub uses : Asked → FileId → ℕ → Server → Server
uses asked file stamp s = if is_busy file s then waits asked file s else uses_free asked file stamp s

-- the block of a file that is forgotten is wanted no more
abbrev pub brings_back : Asked → WriteBackRequest → Server → Server
brings_back asked r s = if is_there s.store.files r.file then uses asked r.file r.stamp s else answers asked.tx replies.Done s
