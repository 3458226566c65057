-- A device's table of asks against the one-kernel Unix.
use Rattle.std.specs.Prelude.{◌≡◌, ◌≢◌, ℕ, ◌+◌, true, List, [], ◌∷◌, ◌++◌, length, Option, Some, None}
use Rattle.byteorder.specs.Endian.{little_bytes}
use Rattle.sprite_ids.specs.declared.AskKind.TheVariants as kinds
use Rattle.process_machine.specs.declared.call.Call.{Call}
use Rattle.process_machine.specs.declared.call.Call.TheVariants as call
use Rattle.process_machine.specs.declared.call.Reply.{Reply}
use Rattle.pseudo_device.specs.declared.Ask.{Ask}
use Rattle.pseudo_device.specs.Device.{Asks}
use Rattle.unix_calls.specs.declared.Description.{Description}
use Rattle.unix_calls.specs.declared.Entry.{Entry}
use Rattle.unix_calls.specs.declared.entry.Part.TheVariants as part
use Rattle.unix_calls.specs.declared.state.Answer.{Answer}
use Rattle.unix_calls.specs.declared.state.Ask.{Ask as UnixAsk}
use Rattle.unix_calls.specs.declared.state.Device.{Device}
use Rattle.unix_calls.specs.declared.state.Object.TheVariants.{OfDevice, OfMaster}
use Rattle.unix_calls.specs.declared.state.Process.{Process}
use Rattle.unix_calls.specs.declared.state.Stream.{Stream}
use Rattle.unix_calls.specs.State.{Unix, device_at, lives, process_at, stream_of}
use Rattle.unix_calls.specs.Opening.{reads, writes}
use Rattle.unix_calls.specs.After.{after}
use Rattle.home_laws.specs.Calls.{IsNextCall}

-- an ask has the kind, the descriptor, the length and the bytes of a call
pub data AsksFor (ask : Ask) (called : Call) : Type 0 where
  Reads : (fd many : ℕ) → called ≡ call.Read fd many → ask.kind ≡ kinds.Read → ask.fd ≡ fd → ask.length ≡ many → ask.bytes ≡ little_bytes 8 many → AsksFor ask called
  Writes : (fd : ℕ) (bytes : List ℕ) → called ≡ call.Write fd bytes → ask.kind ≡ kinds.Write → ask.fd ≡ fd → ask.bytes ≡ bytes → AsksFor ask called
  Commands : (fd command : ℕ) (bytes : List ℕ) → called ≡ call.Ioctl fd command bytes → ask.kind ≡ kinds.Ioctl → ask.fd ≡ fd → ask.length ≡ length bytes → ask.bytes ≡ little_bytes 8 command ++ bytes → AsksFor ask called

-- an ask is one of the one-kernel Unix
pub record IsAsk (ask : Ask) (other : UnixAsk) : Type 0 where
  pub pid : other.pid ≡ ask.pid
  pub number : other.number ≡ ask.number
  pub called : AsksFor ask other.call

-- asks in order
abbrev pub AreAsks : List Ask → List UnixAsk → Type 0
AreAsks [] [] = Unit {0}
AreAsks (ask ∷ asks) (other ∷ others) = IsAsk ask other × AreAsks asks others
AreAsks [] (other ∷ others) = ⊥
AreAsks (ask ∷ asks) [] = ⊥

-- the ask in hand
abbrev pub AreInHand : Option Ask → Option UnixAsk → Type 0
AreInHand None None = Unit {0}
AreInHand (Some ask) (Some other) = IsAsk ask other
AreInHand None (Some other) = ⊥
AreInHand (Some ask) None = ⊥

-- a device's table tells the same as the one-kernel Unix: the asks that wait, in order, and the one in hand
pub record TellsTheSame (asks : Asks) (device : Device) : Type 0 where
  pub in_hand : AreInHand asks.in_hand device.in_hand
  pub waiting : AreAsks asks.waiting device.asks

-- the master's descriptor leads to the device
pub record Masters (u : Unix) (p : Process) (fd place : ℕ) : Type 0 where
  pub stream : Stream
  pub found : stream_of u p fd ≡ Some stream
  pub is : stream.object ≡ OfMaster place

-- the process is inside an operation on that device, which is its next call
pub record IsInside (c : Description) (u : Unix) (pid number : ℕ) (called : Call) (place : ℕ) : Type 0 where
  pub process : Process
  pub there : process_at u.processes pid ≡ Some process
  pub living : lives process ≡ true
  pub asking : process.asking ≡ Some place
  pub numbered : number ≡ process.calls + 1
  pub next : IsNextCall c process called

-- the entries of an operation: the ask, and its end with a reply
abbrev pub ask_entry : ℕ → ℕ → Call → Entry
ask_entry pid number called = record { pid = pid; number = number; part = part.Ask; call = Some called; reply = None }

abbrev pub done_entry : ℕ → ℕ → Call → Reply → Entry
done_entry pid number called reply = record { pid = pid; number = number; part = part.Done; call = Some called; reply = Some reply }

-- the process may use the device through that descriptor
pub data CanAsk (u : Unix) (p : Process) (place : ℕ) (called : Call) : Type 0 where
  ByRead : (fd many : ℕ) (stream : Stream) → called ≡ call.Read fd many → stream_of u p fd ≡ Some stream → stream.object ≡ OfDevice place → reads stream.mode ≡ true → CanAsk u p place called
  ByWrite : (fd : ℕ) (bytes : List ℕ) (stream : Stream) → called ≡ call.Write fd bytes → stream_of u p fd ≡ Some stream → stream.object ≡ OfDevice place → writes stream.mode ≡ true → CanAsk u p place called
  ByCommand : (fd command : ℕ) (bytes : List ℕ) (stream : Stream) → called ≡ call.Ioctl fd command bytes → stream_of u p fd ≡ Some stream → stream.object ≡ OfDevice place → CanAsk u p place called

-- the one-kernel Unix makes the entry; behind it that device's asks are those of the table, and it has those answers left; all
-- other devices are as they were
pub record Goes (c : Description) (u : Unix) (e : Entry) (place : ℕ) (asks : Asks) (answers : List Answer) : Type 0 where
  pub later : Unix
  pub entered : after c u e ≡ Some later
  pub device : Device
  pub there : device_at later.devices place ≡ Some device
  pub same : TellsTheSame asks device
  pub left : device.answers ≡ answers
  pub others : (other : ℕ) → other ≢ place → device_at later.devices other ≡ device_at u.devices other
