-- A master's close: at the last one all asks are answered, and the device is gone.
use Rattle.std.specs.Prelude.{◌≡◌, ◌≢◌, ◌≤◌, ◌==◌, ℕ, true, false, List, [], ◌∷◌, length, map, Some, None}
use Rattle.std.specs.List.{AllByRecursion}
use Rattle.sprite_ids.specs.declared.Errno.TheVariants as errno
use Rattle.process_machine.specs.declared.call.Reply.TheVariants.{Error}
use Rattle.pseudo_device.specs.Device.{Asks, dropped, given_back}
use Rattle.unix_calls.specs.declared.Description.{Description}
use Rattle.unix_calls.specs.declared.Entry.{Entry}
use Rattle.unix_calls.specs.declared.state.Ask.{Ask as UnixAsk}
use Rattle.unix_calls.specs.declared.state.Device.{Device}
use Rattle.unix_calls.specs.declared.state.Process.{Process}
use Rattle.unix_calls.specs.State.{Unix, device_at, is_alive, process_at}
use Rattle.unix_calls.specs.DeviceCalls.{answer_for}
use Rattle.unix_calls.specs.After.{after, state_from, state_of}
use Rattle.unix_frames.specs.Frames.{changes_devices, is_of_operation, may}
use Rattle.unix_laws.specs.Asks.{line_of}
use Rattle.device_laws.specs.Devices.{AreAsks, IsInside, TellsTheSame, done_entry}

-- the ask in hand, and then those that wait
abbrev pub line : Device → List UnixAsk
line device = line_of (Some device)

-- the entry by which an ask of a dead device ends
abbrev pub gone_entry : UnixAsk → Entry
gone_entry ask = done_entry ask.pid ask.number ask.call (Error errno.NoServer)

-- asks of different processes
abbrev pub IsOther : ℕ → UnixAsk → Type 0
IsOther pid ask = ask.pid ≢ pid

abbrev pub AreOfDifferent : List UnixAsk → Type 0
AreOfDifferent [] = Unit {0}
AreOfDifferent (ask ∷ asks) = AllByRecursion (IsOther ask.pid) asks × AreOfDifferent asks

-- the process of an ask is inside it, and no answer is left for it
pub record IsAsking (c : Description) (u : Unix) (place : ℕ) (device : Device) (ask : UnixAsk) : Type 0 where
  pub inside : IsInside c u ask.pid ask.number ask.call place
  pub unanswered : answer_for ask.pid device.answers ≡ None

-- it is in no ask any more
pub record IsOutside (u : Unix) (ask : UnixAsk) : Type 0 where
  pub process : Process
  pub there : process_at u.processes ask.pid ≡ Some process
  pub idle : process.asking ≡ None

-- the one-kernel Unix ends each ask that the table gives back with NoServer, in the same order; the table is empty, the device stays dead,
-- who asked it is in no ask any more, and all other devices are as they were
pub record LastGoes (c : Description) (u : Unix) (place : ℕ) (device : Device) (asks : Asks) : Type 0 where
  pub later : Unix
  pub entered : state_from c (Some u) (map gone_entry (line device)) ≡ Some later
  pub told : AreAsks (given_back asks) (line device)
  pub empty : dropped asks ≡ record { in_hand = None; waiting = []; masters = 0 }
  pub dead : is_alive later place ≡ false
  pub outside : AllByRecursion (IsOutside later) (line device)
  pub others : (other : ℕ) → other ≢ place → device_at later.devices other ≡ device_at u.devices other

-- so it is where the last master of a device is gone, by a close or by an end
abbrev pub LastMasterAsOne : Type 0
LastMasterAsOne = (c : Description) (u : Unix) (place : ℕ) (device : Device) (asks : Asks)
    → device_at u.devices place ≡ Some device → is_alive u place ≡ false → TellsTheSame asks device → asks.masters ≡ 1
    → AllByRecursion (IsAsking c u place device) (line device) → AreOfDifferent (line device) → LastGoes c u place device asks

-- where another master is left, a close gives no ask back, and the table still tells the same
pub record MasterLeaves (device : Device) (asks : Asks) : Type 0 where
  pub none : given_back asks ≡ []
  pub same : TellsTheSame (dropped asks) device

abbrev pub MastersLeaveAsks : Type 0
MastersLeaveAsks = (device : Device) (asks : Asks) → (asks.masters == 1) ≡ false → TellsTheSame asks device → MasterLeaves device asks

-- an entry that is no device's leaves all devices as they were, so that each table tells the same
abbrev pub DevicesGoOn : Type 0
DevicesGoOn = (c : Description) (journal : List Entry) (u v : Unix) (e : Entry) (place : ℕ) (device : Device) → length c.starts ≤ 200 → state_of c journal ≡ Some u → after c u e ≡ Some v
    → may changes_devices e.call ≡ false → is_of_operation e.part ≡ false → device_at u.devices place ≡ Some device → device_at v.devices place ≡ Some device

-- and all of that is so behind the entry of a history by which a device dies, where its table told the same until then: its line is one of
-- different processes, all inside
abbrev pub LastMasterGoes : Type 0
LastMasterGoes = (c : Description) (journal : List Entry) (u v : Unix) (e : Entry) (place : ℕ) (device : Device) (asks : Asks) → length c.starts ≤ 200 → state_of c journal ≡ Some u → after c u e ≡ Some v
    → may changes_devices e.call ≡ false → is_of_operation e.part ≡ false → device_at u.devices place ≡ Some device → is_alive u place ≡ true → is_alive v place ≡ false
    → TellsTheSame asks device → asks.masters ≡ 1 → LastGoes c v place device asks
