-- A device from its making on, whatever is done with it and whatever else enters.
use Rattle.std.specs.Prelude.{◌≡◌, ◌⊎◌, ℕ, true, false, List, [], ◌∷◌, ◌++◌, Option, Some, None}
use Rattle.std.specs.Option.{is_some}
use Rattle.sprite_ids.specs.declared.Errno.{Errno}
use Rattle.sprite_ids.specs.declared.Errno.TheVariants as errno
use Rattle.process_machine.specs.declared.call.Call.{Call}
use Rattle.process_machine.specs.declared.call.Call.TheVariants as call
use Rattle.process_machine.specs.declared.call.Reply.{Reply}
use Rattle.process_machine.specs.declared.call.Reply.TheVariants.{Error}
use Rattle.pseudo_device.specs.declared.Ask.{Ask}
use Rattle.pseudo_device.specs.declared.TakeEnd.TheVariants.{Busy, Long}
use Rattle.pseudo_device.specs.Device.{Asks, IsTaken, is_put_refused, take_refusal, takes, told}
use Rattle.unix_calls.specs.declared.Description.{Description}
use Rattle.unix_calls.specs.declared.Entry.{Entry}
use Rattle.unix_calls.specs.declared.state.Device.{Device}
use Rattle.unix_calls.specs.State.{Unix, device_at, is_alive}
use Rattle.unix_calls.specs.Answers.{nothing}
use Rattle.unix_calls.specs.DeviceCalls.{answer_for}
use Rattle.unix_calls.specs.After.{after, state_from}
use Rattle.home_laws.specs.Calls.{Calls, call_entry}
use Rattle.device_laws.specs.Devices.{AsksFor, CanAsk, IsInside, Masters, TellsTheSame, ask_entry, done_entry}
use Rattle.device_laws.specs.Laws.{IsNumberOf}

-- what is done: a process asks; a master takes the first ask, finds one in hand, or finds the first too long; it answers the one in hand, or
-- is refused; an operation ends; or an entry that leaves the device enters
pub data Act : Type 0 where
  Asked : (pid number : ℕ) (called : Call) (ask : Ask) → Act
  Took : (pid number fd max : ℕ) (ask : Ask) (after : Asks) → Act
  WasBusy : (pid number fd max : ℕ) → Act
  WasLong : (pid number fd max : ℕ) → Act
  Left : (pid number fd : ℕ) (bytes : List ℕ) (error : Option Errno) (code : ℕ) (ask : Ask) → Act
  WasInvalid : (pid number fd : ℕ) (bytes : List ℕ) (error : Option Errno) (code : ℕ) → Act
  Ended : (pid number : ℕ) (called : Call) (reply : Reply) → Act
  Entered : Entry → Act

-- its entry
abbrev pub entry_of : Act → Entry
entry_of (Asked pid number called ask) = ask_entry pid number called
entry_of (Took pid number fd max ask after) = call_entry pid number (call.PdGet fd max) (told ask)
entry_of (WasBusy pid number fd max) = call_entry pid number (call.PdGet fd max) (Error errno.Busy)
entry_of (WasLong pid number fd max) = call_entry pid number (call.PdGet fd max) (Error errno.Invalid)
entry_of (Left pid number fd bytes error code ask) = call_entry pid number (call.PdPut fd bytes code) nothing
entry_of (WasInvalid pid number fd bytes error code) = call_entry pid number (call.PdPut fd bytes code) (Error errno.Invalid)
entry_of (Ended pid number called reply) = done_entry pid number called reply
entry_of (Entered e) = e

-- the table behind it
abbrev pub asks_behind : Asks → Act → Asks
asks_behind asks (Asked pid number called ask) = record asks { waiting = asks.waiting ++ ask ∷ [] }
asks_behind asks (Took pid number fd max ask after) = after
asks_behind asks (WasBusy pid number fd max) = asks
asks_behind asks (WasLong pid number fd max) = asks
asks_behind asks (Left pid number fd bytes error code ask) = record asks { in_hand = None }
asks_behind asks (WasInvalid pid number fd bytes error code) = asks
asks_behind asks (Ended pid number called reply) = asks
asks_behind asks (Entered e) = asks

-- a process's next call is that operation, through a descriptor of the device; a master's next call is that one
pub record IsAsking (c : Description) (u : Unix) (place pid number : ℕ) (called : Call) (ask : Ask) : Type 0 where
  pub calls : Calls c u pid number called
  pub can : CanAsk u calls.may.process place called
  pub form : AsksFor ask called
  pub pid_is : ask.pid ≡ pid
  pub number_is : ask.number ≡ number

pub record IsMaster (c : Description) (u : Unix) (place pid number fd : ℕ) (called : Call) : Type 0 where
  pub calls : Calls c u pid number called
  pub masters : Masters u calls.may.process fd place

-- the reply that an operation is due: the answer that was left, or NoServer where the device is dead and none was
abbrev pub IsDue : Unix → ℕ → ℕ → Reply → Type 0
IsDue u place pid reply = (device : Device) → device_at u.devices place ≡ Some device
    → (answer_for pid device.answers ≡ Some reply) ⊎ ((answer_for pid device.answers ≡ None) × ((is_alive u place ≡ false) × (reply ≡ Error errno.NoServer)))

-- it may be done
abbrev pub MayAct : Description → ℕ → Asks → Unix → Act → Type 0
MayAct c place asks u (Asked pid number called ask) = IsAsking c u place pid number called ask
MayAct c place asks u (Took pid number fd max ask after) = IsMaster c u place pid number fd (call.PdGet fd max) × ((take_refusal asks max ≡ None) × IsTaken asks after ask)
MayAct c place asks u (WasBusy pid number fd max) = IsMaster c u place pid number fd (call.PdGet fd max) × (take_refusal asks max ≡ Some Busy)
MayAct c place asks u (WasLong pid number fd max) = IsMaster c u place pid number fd (call.PdGet fd max) × (take_refusal asks max ≡ Some Long)
MayAct c place asks u (Left pid number fd bytes error code ask) = IsMaster c u place pid number fd (call.PdPut fd bytes code) × (IsNumberOf error code × ((asks.in_hand ≡ Some ask) × (takes ask bytes error ≡ true)))
MayAct c place asks u (WasInvalid pid number fd bytes error code) = IsMaster c u place pid number fd (call.PdPut fd bytes code) × (IsNumberOf error code × (is_put_refused asks bytes error ≡ true))
MayAct c place asks u (Ended pid number called reply) = IsInside c u pid number called place × IsDue u place pid reply
MayAct c place asks u (Entered e) = (is_some (after c u e) ≡ true) × ((v : Unix) → after c u e ≡ Some v → device_at v.devices place ≡ device_at u.devices place)

-- one after another
abbrev pub MayActs : Description → ℕ → Asks → Option Unix → List Act → Type 0
MayActs c place asks None acts = Unit {0}
MayActs c place asks (Some u) [] = Unit {0}
MayActs c place asks (Some u) (act ∷ acts) = MayAct c place asks u act × MayActs c place (asks_behind asks act) (after c u (entry_of act)) acts

abbrev pub entries_of : List Act → List Entry
entries_of [] = []
entries_of (act ∷ acts) = entry_of act ∷ entries_of acts

abbrev pub all_behind : Asks → List Act → Asks
all_behind asks [] = asks
all_behind asks (act ∷ acts) = all_behind (asks_behind asks act) acts

-- the device is there, and its table tells the same
pub record IsTold (u : Unix) (place : ℕ) (asks : Asks) : Type 0 where
  pub device : Device
  pub there : device_at u.devices place ≡ Some device
  pub same : TellsTheSame asks device

-- the one-kernel Unix makes all the entries, and the table still tells the same
pub record RunAsOne (c : Description) (u : Unix) (place : ℕ) (asks : Asks) (acts : List Act) : Type 0 where
  pub later : Unix
  pub entered : state_from c (Some u) (entries_of acts) ≡ Some later
  pub same : IsTold later place (all_behind asks acts)

abbrev pub DevicesRunAsOne : Type 0
DevicesRunAsOne = (c : Description) (u : Unix) (place : ℕ) (asks : Asks) (acts : List Act) → IsTold u place asks → MayActs c place asks (Some u) acts → RunAsOne c u place asks acts

-- so it is from its making on: the table of a device that is new is empty, and tells the same
abbrev pub NewDevicesAreTold : Type 0
NewDevicesAreTold = (c : Description) (u v : Unix) (e : Entry) (place : ℕ) (device : Device) → after c u e ≡ Some v → device_at u.devices place ≡ None → device_at v.devices place ≡ Some device → TellsTheSame (record { in_hand = None; waiting = []; masters = 1 }) device
