-- What devices are asked: first in, first out.
use Rattle.std.specs.Prelude.{◌≡◌, ℕ, Bool, true, false, ◌&&◌, ◌==◌, if◌then◌else◌, List, [], ◌∷◌, ◌++◌, length, Option, Some, None}
use Rattle.process_machine.specs.declared.call.Call.{Call}
use Rattle.process_machine.specs.declared.call.Call.TheVariants as call
use Rattle.process_machine.specs.declared.call.Reply.{Reply}
use Rattle.process_machine.specs.declared.call.Reply.TheVariants.{Value}
use Rattle.unix_calls.specs.declared.Description.{Description}
use Rattle.unix_calls.specs.declared.Entry.{Entry}
use Rattle.unix_calls.specs.declared.entry.Part.{Part}
use Rattle.unix_calls.specs.declared.entry.Part.TheVariants as part
use Rattle.unix_calls.specs.declared.state.Ask.{Ask}
use Rattle.unix_calls.specs.declared.state.Device.{Device}
use Rattle.unix_calls.specs.declared.state.Process.{Process}
use Rattle.unix_calls.specs.State.{Unix, device_at, holds_master_of, process_at}
use Rattle.unix_calls.specs.DeviceCalls.{answer_of, asked_bytes, kind_of, without_answer}
use Rattle.unix_calls.specs.After.{after, state_from}

-- ---- one entry

-- whether a process that is looked up is a master of the device
abbrev pub is_master_in : Unix → ℕ → Option Process → Bool
is_master_in u place None = false
is_master_in u place (Some p) = holds_master_of u.streams place p

-- what an entry does to a device: nothing; an ask stands behind the others; a master takes the first, where none is in hand; a master
-- answers the one in hand; or a process fetches what was left for it
pub data Moves (u : Unix) (e : Entry) (before after : Device) : Type 0 where
  Stays : after ≡ before → Moves u e before after
  Queues : (ask : Ask) → e.part ≡ part.Ask → e.call ≡ Some ask.call → ask.pid ≡ e.pid → ask.number ≡ e.number → after ≡ record before { asks = before.asks ++ ask ∷ [] } → Moves u e before after
  Takes : (ask : Ask) (rest : List Ask) (fd max : ℕ) → e.part ≡ part.Whole → e.call ≡ Some (call.PdGet fd max) → e.reply ≡ Some (Value (kind_of ask.call) (length (asked_bytes ask.call)) (asked_bytes ask.call)) → before.in_hand ≡ None → before.asks ≡ ask ∷ rest
      → is_master_in u before.place (process_at u.processes e.pid) ≡ true → after ≡ record before { asks = rest; in_hand = Some ask } → Moves u e before after
  Leaves : (ask : Ask) (reply : Reply) (fd : ℕ) (bytes : List ℕ) (number : ℕ) → e.part ≡ part.Whole → e.call ≡ Some (call.PdPut fd bytes number) → before.in_hand ≡ Some ask → answer_of ask.call bytes number ≡ Some reply
      → is_master_in u before.place (process_at u.processes e.pid) ≡ true → after ≡ record before { in_hand = None; answers = before.answers ++ record { pid = ask.pid; reply = reply } ∷ [] } → Moves u e before after
  Fetches : e.part ≡ part.Done → after ≡ record before { answers = without_answer e.pid before.answers } → Moves u e before after

pub record DeviceGoesOn (u v : Unix) (e : Entry) (place : ℕ) (before : Device) : Type 0 where
  pub device : Device
  pub there : device_at v.devices place ≡ Some device
  pub moves : Moves u e before device

-- each device goes on with each entry, and no more is done to it
abbrev pub DevicesMove : Type 0
DevicesMove = (c : Description) (u v : Unix) (e : Entry) (place : ℕ) (before : Device) → after c u e ≡ Some v → device_at u.devices place ≡ Some before → DeviceGoesOn u v e place before

-- ---- a history

-- the ask in hand, and then those that wait
abbrev pub hand : Option Ask → List Ask
hand None = []
hand (Some ask) = ask ∷ []

abbrev pub line_of : Option Device → List Ask
line_of None = []
line_of (Some device) = hand device.in_hand ++ device.asks

abbrev pub line_at : Unix → ℕ → List Ask
line_at u place = line_of (device_at u.devices place)

-- whether an entry is an ask, behind which its process is inside that device
abbrev pub is_inside : ℕ → Option ℕ → Bool
is_inside place None = false
is_inside place (Some device) = device == place

abbrev pub asking_of : Option Process → Option ℕ
asking_of None = None
asking_of (Some p) = p.asking

abbrev pub is_ask : Part → Bool
is_ask part.Ask = true
is_ask part.Whole = false
is_ask part.Done = false
is_ask part.Death = false

-- what an entry asks of a device
abbrev pub ask_in : Entry → Option Call → List Ask
ask_in e None = []
ask_in e (Some called) = record { pid = e.pid; number = e.number; call = called } ∷ []

abbrev pub made_by : ℕ → Entry → Unix → List Ask
made_by place e v = if is_ask e.part && is_inside place (asking_of (process_at v.processes e.pid)) then ask_in e e.call else []

-- what of a device is answered between two states: what was in hand, where nothing is any more
abbrev pub answered_of : Option Ask → Option Ask → List Ask
answered_of (Some ask) None = ask ∷ []
answered_of (Some ask) (Some other) = []
answered_of None other = []

abbrev pub in_hand_of : Option Device → Option Ask
in_hand_of None = None
in_hand_of (Some device) = device.in_hand

abbrev pub answered_by : ℕ → Unix → Unix → List Ask
answered_by place u v = answered_of (in_hand_of (device_at u.devices place)) (in_hand_of (device_at v.devices place))

-- what some entries ask of a device, and what of it is answered meanwhile, in their order
abbrev pub then_made : Description → ℕ → Entry → Option Unix → List Ask → List Ask
then_made c place e None rest = []
then_made c place e (Some v) rest = made_by place e v ++ rest

abbrev pub then_answered : Description → ℕ → Unix → Option Unix → List Ask → List Ask
then_answered c place u None rest = []
then_answered c place u (Some v) rest = answered_by place u v ++ rest

abbrev pub made_from : Description → ℕ → Option Unix → List Entry → List Ask
made_from c place None es = []
made_from c place (Some u) [] = []
made_from c place (Some u) (e ∷ es) = then_made c place e (after c u e) (made_from c place (after c u e) es)

abbrev pub answered_from : Description → ℕ → Option Unix → List Entry → List Ask
answered_from c place None es = []
answered_from c place (Some u) [] = []
answered_from c place (Some u) (e ∷ es) = then_answered c place u (after c u e) (answered_from c place (after c u e) es)

-- what stood in a device's line, and then what was asked, is what was answered, in that order, and then what stands in the line now
abbrev pub AsksComeInOrder : Type 0
AsksComeInOrder = (c : Description) (u v : Unix) (es : List Entry) (place : ℕ) → state_from c (Some u) es ≡ Some v → line_at u place ++ made_from c place (Some u) es ≡ answered_from c place (Some u) es ++ line_at v place
