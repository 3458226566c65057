-- Which streams and devices are there, who holds a stream, and who is a device's master.
use Rattle.std.specs.Prelude.{◌≡◌, ◌<◌, ◌&&◌, ◌==◌, ℕ, Bool, true, false, List, slice_get, Option, Some, None}
use Rattle.std.specs.List.{list_any}
use Rattle.std.specs.Option.{is_some}
use Rattle.sprite_ids.specs.Pid.{home_of}
use Rattle.unix_calls.specs.declared.Description.{Description}
use Rattle.unix_calls.specs.declared.Entry.{Entry}
use Rattle.unix_calls.specs.declared.state.Device.{Device}
use Rattle.unix_calls.specs.declared.state.Node.TheVariants.{DeviceNode}
use Rattle.unix_calls.specs.declared.state.Object.{Object}
use Rattle.unix_calls.specs.declared.state.Object.TheVariants.{OfFile, OfDevice, OfMaster}
use Rattle.unix_calls.specs.declared.state.Process.{Process}
use Rattle.unix_calls.specs.declared.state.Stream.{Stream}
use Rattle.unix_calls.specs.Tree.{node_at}
use Rattle.unix_calls.specs.State.{Unix, device_at, holds_a_master, is_alive, lives, process_at, stream_at}
use Rattle.unix_calls.specs.After.{state_of}

-- whether a stream is a master's
abbrev pub is_master : Object → Bool
is_master (OfMaster place) = true
is_master (OfDevice place) = false
is_master (OfFile name) = false

abbrev pub is_master_stream : Option Stream → Bool
is_master_stream (Some s) = is_master s.object
is_master_stream None = false

-- whether a descriptor leads to a master's stream, of whichever device
abbrev pub leads_to_a_master : List Stream → Option ℕ → Bool
leads_to_a_master streams (Some place) = is_master_stream (stream_at streams place)
leads_to_a_master streams None = false

-- whether a descriptor leads to the stream of that place
abbrev pub leads_to : ℕ → Option ℕ → Bool
leads_to place (Some known) = known == place
leads_to place None = false

-- whether a process lives and has a descriptor of that stream
abbrev pub is_living_holder : ℕ → Process → Bool
is_living_holder place p = lives p && list_any (leads_to place) p.descriptors

-- a process has a descriptor that leads to that stream
pub record Holds (u : Unix) (pid place : ℕ) : Type 0 where
  pub process : Process
  pub fd : ℕ
  pub there : process_at u.processes pid ≡ Some process
  pub leads : slice_get process.descriptors fd ≡ Some (Some place)

-- streams and devices were made by earlier entries, and what leads to one leads to what is there; a device has one master's stream,
-- which was made with it, and it is alive exactly where a living process has a descriptor of that; who has ended has none
pub record AreTied (u : Unix) : Type 0 where
  pub streams : (place : ℕ) (s : Stream) → stream_at u.streams place ≡ Some s → place < u.entries
  pub devices : (place : ℕ) (d : Device) → device_at u.devices place ≡ Some d → place < u.entries
  pub masters : (place : ℕ) → is_master_stream (stream_at u.streams place) ≡ is_some (device_at u.devices place)
  pub own : (place device : ℕ) (s : Stream) → stream_at u.streams place ≡ Some s → s.object ≡ OfMaster device → device ≡ place
  pub clients : (place device : ℕ) (s : Stream) → stream_at u.streams place ≡ Some s → s.object ≡ OfDevice device → is_some (device_at u.devices device) ≡ true
  pub names : (path : List (List ℕ)) (device : ℕ) → node_at u.nodes path ≡ Some (DeviceNode device) → is_some (device_at u.devices device) ≡ true
  pub held : (pid place : ℕ) → Holds u pid place → is_some (stream_at u.streams place) ≡ true
  pub ended : (pid place : ℕ) → (holds : Holds u pid place) → lives holds.process ≡ true
  pub alive : (device : ℕ) → is_some (device_at u.devices device) ≡ true → is_alive u device ≡ list_any (is_living_holder device) u.processes
  pub mastering : (pid : ℕ) (p : Process) → process_at u.processes pid ≡ Some p → holds_a_master u p ≡ list_any (leads_to_a_master u.streams) p.descriptors

-- so it is in each state of a history
abbrev pub StatesAreTied : Type 0
StatesAreTied = (c : Description) (journal : List Entry) (u : Unix) → state_of c journal ≡ Some u → AreTied u

-- who holds one stream is of one home: descriptors pass from a parent to its children and to nobody else. So the masters of a device
-- are the process that made it and what descends from that
abbrev pub StreamsStayHome : Type 0
StreamsStayHome = (c : Description) (journal : List Entry) (u : Unix) (pid other place : ℕ) → state_of c journal ≡ Some u → Holds u pid place → Holds u other place → home_of pid ≡ home_of other
