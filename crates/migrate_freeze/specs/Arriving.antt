-- What a packet brings of a process that moves.
use Rattle.std.specs.Prelude.{ℕ, Bool, true, List, Option, Some, None, option_map}
use Rattle.std.specs.List.{find}
use Rattle.sprite_ids.specs.declared.StreamNo.{StreamNo}
use Rattle.sprite_ids.specs.declared.Grant.{Grant}
use Rattle.sprite_ids.specs.declared.Object.{Object}
use Rattle.sprite_ids.specs.declared.Object.TheVariants as objects
use Rattle.process_machine.specs.Machine.{Machine}
use Rattle.stream_table.specs.declared.Carried.{Carried}
use Rattle.stream_table.specs.declared.Stream.{Stream}
use Rattle.stream_table.specs.declared.Place.{Place}
use Rattle.stream_table.specs.declared.Place.TheVariants as places
use Rattle.packet_bodies.specs.Modes.{appends, mode_of}
use Rattle.packet_bodies.specs.declared.CarriedStream.{CarriedStream}
use Rattle.packet_bodies.specs.declared.Target.{Target}
use Rattle.packet_bodies.specs.declared.Target.TheVariants as targets
use Rattle.packet_bodies.specs.declared.Request.{Request}
use Rattle.packet_bodies.specs.declared.Request.TheVariants as requests
use Rattle.packet_bodies.specs.declared.TransferRequest.{TransferRequest}
use Rattle.packet_bodies.specs.declared.LaunchRequest.{LaunchRequest}
use Rattle.migrate_freeze.specs.declared.process.Process.{Process}
use Rattle.migrate_freeze.specs.declared.arrival.Arrival.{Arrival}
use Rattle.migrate_freeze.specs.declared.arrival.Load.{Load}
use Rattle.migrate_freeze.specs.declared.arrival.Load.TheVariants as loads
use Rattle.migrate_freeze.specs.Packing.{gathered}
use Rattle.migrate_freeze.specs.Moves.{is_stream}

-- what a stream leads to
abbrev pub object_of : Target → Object
object_of (targets.File file) = objects.File file
object_of (targets.Device device) = objects.Device device

-- where an offset is kept
abbrev pub place_of : Option ℕ → Place
place_of (Some offset) = places.Local offset
place_of None = places.Shared

-- the stream that a packet tells of
abbrev pub stream_of : CarriedStream → Stream
stream_of carried = record { object = object_of carried.object; mode = mode_of carried.mode; place = place_of carried.offset; grants = carried.grants; append = appends carried.mode }

-- whether a packet's stream has that number
abbrev pub brings : StreamNo → CarriedStream → Bool
brings number carried = is_stream number carried.stream

-- a descriptor with its stream, where the packet tells of that stream
abbrev pub descriptor_of : List CarriedStream → ℕ × StreamNo → Option Carried
descriptor_of streams fd = option_map (λ carried. record { fd = fd.0; number = fd.1; stream = stream_of carried }) (find (brings fd.1) streams)

-- the descriptors with their streams
abbrev pub descriptors_of : List (ℕ × StreamNo) → List CarriedStream → List Carried
descriptors_of fds streams = gathered (descriptor_of streams) fds

-- a process that comes as it was
abbrev pub transfer_arrival : TransferRequest → Arrival
transfer_arrival x = record { pid = x.pid; number = x.number; load = loads.Image x.image; cwd = x.cwd; streams = x.streams; descriptors = descriptors_of x.fds x.streams; killed = x.killed; moving = x.moving }

-- a process that comes to start its next program
abbrev pub launch_arrival : LaunchRequest → Arrival
launch_arrival x = record { pid = x.pid; number = x.number; load = loads.Program x.program; cwd = x.cwd; streams = x.streams; descriptors = descriptors_of x.fds x.streams; killed = x.killed; moving = true }

-- the process that a request brings
abbrev pub arrived_of : Request → Option Arrival
arrived_of (requests.Transfer x) = Some (transfer_arrival x)
arrived_of (requests.Launch x) = Some (launch_arrival x)
arrived_of _ = None

-- the program that it starts
abbrev pub launched_of : Load → Option ℕ
launched_of (loads.Image image) = None
launched_of (loads.Program program) = Some program

-- the grant of a looked-up stream
abbrev pub grant_in : Option CarriedStream → Option Grant
grant_in (Some carried) = carried.grant
grant_in None = None

-- the grant that comes with the stream
abbrev pub grant_of : List CarriedStream → StreamNo → Option Grant
grant_of streams number = grant_in (find (brings number) streams)

-- the process with that image
abbrev pub process_with : Arrival → Machine → Process
process_with arrival image = record { pid = arrival.pid; number = arrival.number; image = image; cwd = arrival.cwd; streams = arrival.descriptors; killed = arrival.killed; moving = arrival.moving }

-- the process with the image that it brings
abbrev pub thawed_with : Arrival → Load → Option Process
thawed_with arrival (loads.Image image) = Some (process_with arrival image)
thawed_with arrival (loads.Program program) = None

-- the process, where it goes on with its image
abbrev pub thawed : Arrival → Option Process
thawed arrival = thawed_with arrival arrival.load
