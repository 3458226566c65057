-- A process that arrives with its streams.
use Rattle.std.specs.Prelude.{ℕ, nat_le, nat_lt, ◌==◌, Bool, true, false, ◌&&◌, ◌||◌, not, if◌then◌else◌, List, [], ◌∷◌, Option, Some, None}
use Rattle.std.specs.List.{list_all, list_any}
use Rattle.sprite_ids.specs.declared.DeviceId.{DeviceId}
use Rattle.sprite_ids.specs.declared.FileId.{FileId}
use Rattle.sprite_ids.specs.declared.Object.{Object}
use Rattle.sprite_ids.specs.declared.Object.TheVariants as objects
use Rattle.packet_bodies.specs.declared.CarriedStream.{CarriedStream}
use Rattle.stream_table.specs.declared.Carried.{Carried}
use Rattle.stream_table.specs.declared.Stream.{Stream}
use Rattle.stream_table.specs.Owners.{is_used, numbers_of}
use Rattle.stream_table.specs.Entries.{Entry, is_placed, stream_of}
use Rattle.stream_table.specs.Streams.{arriving, same_fd}
use Rattle.client_file_tables.specs.declared.ClientFiles.{ClientFiles}
use Rattle.client_file_tables.specs.Streams.{sets_cwd}
use Rattle.client_names.specs.Paths.{Parts}
use Rattle.client_files.specs.Asked.{takes_some}

-- the grants that came are taken, in their order
abbrev pub takes_carried : List CarriedStream → ClientFiles → ClientFiles
takes_carried [] s = s
takes_carried (stream ∷ streams) s = takes_carried streams (takes_some stream.grant s)

-- whether the first item's descriptor stands once more behind it
abbrev pub is_repeated : List Carried → Bool
is_repeated [] = false
is_repeated (item ∷ items) = list_any (same_fd item) items

-- whether no descriptor stands twice
abbrev pub are_apart : List Carried → Bool
are_apart [] = true
are_apart (item ∷ items) = if list_any (same_fd item) items then false else are_apart items

-- whether both are one file
abbrev pub same_file : FileId → FileId → Bool
same_file file other = (file.server == other.server) && (file.number == other.number)

-- whether both are one pseudo-device
abbrev pub same_device : DeviceId → DeviceId → Bool
same_device device other = (device.kernel == other.kernel) && (device.number == other.number)

-- whether both are one file, or the same end of one pseudo-device
abbrev pub same_object : Object → Object → Bool
same_object (objects.File file) (objects.File other) = same_file file other
same_object (objects.Device device) (objects.Device other) = same_device device other
same_object (objects.Master device) (objects.Master other) = same_device device other
same_object object other = false

-- whether an object is that of a looked-up open stream, where there is one
abbrev pub leads_there : Object → Option Stream → Bool
leads_there object (Some stream) = same_object object stream.object
leads_there object None = true

-- whether the item leads where its stream does, where that is open here
abbrev pub is_known_so : List Entry → Carried → Bool
is_known_so entries item = leads_there item.stream.object (stream_of entries item.number)

-- whether the item may be put in: its descriptor, its grants and its offset are in their ranges
abbrev pub is_fit : Carried → Bool
is_fit item = nat_lt item.fd 16 && nat_le item.stream.grants 2000000000 && is_placed item.stream

-- whether the streams may be put in
abbrev pub can_arrive : ℕ → List Carried → ClientFiles → Bool
can_arrive pid items s =
    if is_used (numbers_of s.streams.owners pid) || not (are_apart items) then false
    else list_all is_fit items && list_all (is_known_so s.streams.entries) items

-- each stream is at its descriptor
abbrev pub puts_streams : ℕ → List Carried → ClientFiles → ClientFiles
puts_streams pid items s = if can_arrive pid items s then record s { streams = arriving s.streams pid items } else s

-- a process arrives: of each file whose stream comes, the target's part of its Delivering
abbrev pub arrives : ℕ → Parts → List CarriedStream → List Carried → ClientFiles → ClientFiles
arrives pid cwd streams items s = puts_streams pid items (sets_cwd pid cwd (takes_carried streams s))
