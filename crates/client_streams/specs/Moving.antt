-- Moves of the streams of a frozen process, one after the other.
use Rattle.std.specs.Prelude.{ℕ, Bool, true, if◌then◌else◌, Option, Some, None, is_some}
use Rattle.sprite_ids.specs.declared.FileId.{FileId}
use Rattle.sprite_ids.specs.declared.StreamNo.{StreamNo}
use Rattle.sprite_ids.specs.declared.Grant.{Grant}
use Rattle.sprite_ids.specs.declared.Object.{Object}
use Rattle.sprite_ids.specs.declared.Object.TheVariants.{File, Device, Master}
use Rattle.sprite_ids.specs.declared.Tries.TheVariants.{Always}
use Rattle.packet_bodies.specs.declared.Request.TheVariants as requests
use Rattle.packet_bodies.specs.declared.Target.TheVariants as targets
use Rattle.stream_table.specs.declared.Place.{Place}
use Rattle.stream_table.specs.declared.Place.TheVariants.{Local, Shared}
use Rattle.stream_table.specs.declared.Stream.{Stream}
use Rattle.unix_calls.specs.declared.About.{About}
use Rattle.unix_calls.specs.declared.SendKind.TheVariants.{Other}
use Rattle.kernel_steps.specs.declared.Sending.{Sending}
use Rattle.client_file_tables.specs.declared.ClientFiles.{ClientFiles}
use Rattle.client_file_tables.specs.declared.MoveState.{MoveState}
use Rattle.client_file_tables.specs.declared.MoveState.TheVariants as states
use Rattle.client_file_tables.specs.declared.MoveWork.{MoveWork}
use Rattle.client_file_tables.specs.declared.Pending.TheVariants.{Move}
use Rattle.client_file_tables.specs.declared.Report.TheVariants as told
use Rattle.client_file_tables.specs.Says.{sends_for, to_one}
use Rattle.client_file_tables.specs.Steps.{keeps, reports, starts}
use Rattle.client_file_tables.specs.Locks.{gets_lock, locks, unlocks}
use Rattle.client_file_tables.specs.Streams.{moves_place, stream_at}
use Rattle.client_streams.specs.Descriptors.{drops_each}

-- a stream of a frozen process begins to move
abbrev pub moves_stream : ℕ → StreamNo → ℕ → Option About → ClientFiles → ClientFiles
moves_stream pid number to about s = starts pid (Move (record { about = about; stream = number; to = to; state = states.WaitLock })) s

-- a pseudo-device's stream has moved at once: its descriptors are only counted
abbrev pub moves_device : ℕ → StreamNo → Place → ClientFiles → ClientFiles
moves_device pid number place s = reports (told.Moved pid place None 1) (drops_each pid number s)

-- the offset goes to the server where references stay here and it was kept here
abbrev pub offset_for : Bool → Place → Option ℕ
offset_for true (Local offset) = Some offset
offset_for kept place = None

-- the grants go along where no references stay
abbrev pub grants_for : Bool → ℕ → ℕ
grants_for kept many = if kept then 0 else many

-- the request that tells the server
abbrev pub move_to : MoveWork → Stream → FileId → Bool → Sending
move_to work stream file kept =
    to_one file.server Always work.about (requests.Move (record {
      stream = work.stream;
      object = targets.File file;
      to = work.to;
      kept = kept;
      offset = offset_for kept stream.place;
      grants = grants_for kept stream.grants;
    }))

-- the work, which waits for the server
abbrev pub moving_out : MoveWork → Bool → Place → ClientFiles → MoveWork
moving_out work kept place s = record work { state = states.MovingOut s.out.next kept place }

-- a Moving of the file begins; the stream's lock is held until the answer
abbrev pub asks_move : ℕ → MoveWork → Stream → FileId → Bool → ClientFiles → ClientFiles
asks_move pid work stream file kept s =
    keeps pid (Move (moving_out work kept stream.place s)) (sends_for pid (move_to work stream file kept) Other s)

-- whether other processes here keep the stream shows once the frozen one's descriptors have gone
abbrev pub moves_rest : ℕ → MoveWork → Stream → FileId → ClientFiles → ClientFiles
moves_rest pid work stream file s = asks_move pid work stream file (is_some (stream_at work.stream s)) s

abbrev pub moves_locked : ℕ → MoveWork → Stream → FileId → ClientFiles → ClientFiles
moves_locked pid work stream file s = moves_rest pid work stream file (drops_each pid work.stream s)

-- a file's stream: its lock is needed
abbrev pub moves_file : ℕ → MoveWork → Stream → FileId → ClientFiles → ClientFiles
moves_file pid work stream file s =
    if gets_lock pid work.stream s then moves_locked pid work stream file (locks pid work.stream s) else keeps pid (Move work) (locks pid work.stream s)

-- by what the stream leads to
abbrev pub moves_object_by : Object → ℕ → MoveWork → Stream → ClientFiles → ClientFiles
moves_object_by (File file) pid work stream s = moves_file pid work stream file s
moves_object_by (Device device) pid work stream s = moves_device pid work.stream stream.place s
moves_object_by (Master device) pid work stream s = moves_device pid work.stream stream.place s

abbrev pub moves_object : ℕ → MoveWork → Stream → ClientFiles → ClientFiles
moves_object pid work stream s = moves_object_by stream.object pid work stream s

-- a stream that isn't open here doesn't move
abbrev pub moves_on_by : Option Stream → ℕ → MoveWork → ClientFiles → ClientFiles
moves_on_by (Some stream) pid work s = moves_object pid work stream s
moves_on_by None pid work s = s

abbrev pub moves_on : ℕ → MoveWork → ClientFiles → ClientFiles
moves_on pid work s = moves_on_by (stream_at work.stream s) pid work s

-- a move goes on, where it waits for no answer
abbrev pub runs_move_by : MoveState → ℕ → MoveWork → ClientFiles → ClientFiles
runs_move_by states.WaitLock pid work s = moves_on pid work s
runs_move_by (states.MovingOut tx kept place) pid work s = keeps pid (Move work) s

abbrev pub runs_move : ℕ → MoveWork → ClientFiles → ClientFiles
runs_move pid work s = runs_move_by work.state pid work s

-- a stream of which references stay is shared from now on
abbrev pub shares : Bool → StreamNo → ClientFiles → ClientFiles
shares kept number s = if kept then moves_place number Shared s else s

-- where the offset of what moved is kept
abbrev pub place_after : Bool → Place → Place
place_after kept place = if kept then Shared else place

-- the server answered: the stream has moved, and its lock is free; the end of the Moving's Delivering at its source
abbrev pub ends_move : ℕ → StreamNo → Bool → Place → Option Grant → ℕ → ClientFiles → ClientFiles
ends_move pid number kept place grant many s =
    reports (told.Moved pid (place_after kept place) grant many) (unlocks number (shares kept number s))

-- whether references stay here, and where the offset was kept; None where a move waits for no answer
abbrev pub moved_out : MoveState → Option (Bool × Place)
moved_out states.WaitLock = None
moved_out (states.MovingOut tx kept place) = Some (kept, place)

abbrev pub move_answers_by : Option (Bool × Place) → ℕ → MoveWork → Option Grant → ℕ → ClientFiles → ClientFiles
move_answers_by (Some out) pid work grant many s = ends_move pid work.stream out.0 out.1 grant many s
move_answers_by None pid work grant many s = keeps pid (Move work) s

abbrev pub move_answers : ℕ → MoveWork → Option Grant → ℕ → ClientFiles → ClientFiles
move_answers pid work grant many s = move_answers_by (moved_out work.state) pid work grant many s
