-- What a packet tells of a process that moves.
use Rattle.std.specs.Prelude.{ℕ, nat_lt, nat_le, Bool, ◌&&◌, if◌then◌else◌, List, [], ◌∷◌, Option, Some, None, is_some, length}
use Rattle.std.specs.List.{list_all}
use Rattle.sprite_ids.specs.declared.StreamNo.{StreamNo}
use Rattle.sprite_ids.specs.declared.Object.{Object}
use Rattle.sprite_ids.specs.declared.Object.TheVariants as objects
use Rattle.stream_table.specs.declared.Carried.{Carried}
use Rattle.stream_table.specs.declared.Place.{Place}
use Rattle.stream_table.specs.declared.Place.TheVariants as places
use Rattle.packet_bodies.specs.Modes.{carried}
use Rattle.packet_bodies.specs.declared.CarriedMode.{CarriedMode}
use Rattle.packet_bodies.specs.declared.CarriedStream.{CarriedStream}
use Rattle.packet_bodies.specs.declared.Target.{Target}
use Rattle.packet_bodies.specs.declared.Target.TheVariants as targets
use Rattle.packet_bodies.specs.declared.Request.{Request}
use Rattle.packet_bodies.specs.declared.Request.TheVariants as requests
use Rattle.migrate_freeze.specs.declared.moves.MovedStream.{MovedStream}
use Rattle.migrate_freeze.specs.declared.freeze.Freeze.{Freeze}

-- at most one item, before others
abbrev pub before : {X : Type 0} → Option X → List X → List X
before (Some item) items = item ∷ items
before None items = items

-- what a function gives of the items, in their order
abbrev pub gathered : {X Y : Type 0} → (X → Option Y) → List X → List Y
gathered f [] = []
gathered f (item ∷ rest) = before (f item) (gathered f rest)

-- what a stream leads to, as a packet tells it: a master's end is never sent
abbrev pub target_of : Object → Option Target
target_of (objects.File file) = Some (targets.File file)
target_of (objects.Device device) = Some (targets.Device device)
target_of (objects.Master device) = None

-- an offset, as a packet tells it: none where it is the server's
abbrev pub offset_of : Place → Option ℕ
offset_of (places.Local offset) = Some offset
offset_of places.Shared = None

-- whether a packet can tell of the descriptor and its stream
abbrev pub can_travel : Carried → Bool
can_travel item = nat_lt item.fd 16 && is_some (target_of item.stream.object) && is_some (carried item.stream.mode item.stream.append)

-- whether it can of all descriptors of a process
abbrev pub can_move : List Carried → Bool
can_move streams = nat_le (length streams) 16 && list_all can_travel streams

-- a descriptor with its stream's number
abbrev pub fd_of : Carried → Option (ℕ × StreamNo)
fd_of item = if nat_lt item.fd 16 then Some (item.fd, item.number) else None

-- the descriptors with the numbers of their streams
abbrev pub fds_of : List Carried → List (ℕ × StreamNo)
fds_of streams = gathered fd_of streams

-- a stream, where there are words for what it leads to and for its mode
abbrev pub packed_as : MovedStream → Option Target → Option CarriedMode → Option CarriedStream
packed_as moved (Some object) (Some mode) = Some (record { stream = moved.number; object = object; mode = mode; offset = offset_of moved.stream.place; grant = moved.grant; grants = moved.stream.grants })
packed_as moved (Some object) None = None
packed_as moved None mode = None

-- a stream that has moved
abbrev pub packed_stream : MovedStream → Option CarriedStream
packed_stream moved = packed_as moved (target_of moved.stream.object) (carried moved.stream.mode moved.stream.append)

-- what stands at a place
abbrev pub packed_with : Option MovedStream → Option CarriedStream
packed_with (Some moved) = packed_stream moved
packed_with None = None

-- the streams that have moved, in the order of their moves
abbrev pub packed : List (Option MovedStream) → List CarriedStream
packed moved = gathered packed_with moved

-- the packet of a process that goes as it is
abbrev pub transfer_of : Freeze → Request
transfer_of freeze = requests.Transfer (record {
  pid = freeze.process.pid;
  number = freeze.process.number;
  image = freeze.process.image;
  cwd = freeze.process.cwd;
  fds = fds_of freeze.process.streams;
  streams = packed freeze.moved;
  killed = freeze.process.killed;
  moving = freeze.process.moving;
})

-- the packet of a process that starts its next program, of that number
abbrev pub launch_of : Freeze → ℕ → Request
launch_of freeze program = requests.Launch (record {
  pid = freeze.process.pid;
  number = freeze.process.number;
  program = program;
  cwd = freeze.process.cwd;
  fds = fds_of freeze.process.streams;
  streams = packed freeze.moved;
  killed = freeze.process.killed;
})

-- the packet of a frozen process, where that is the program that it starts
abbrev pub body_for : Freeze → Option ℕ → Request
body_for freeze (Some program) = launch_of freeze program
body_for freeze None = transfer_of freeze

-- the packet of a frozen process
abbrev pub body_of : Freeze → Request
body_of freeze = body_for freeze freeze.program
