-- What a device's kernel does with asks is what the one-kernel Unix does.
use Rattle.std.specs.Prelude.{◌≡◌, ℕ, zero, suc, true, false, List, [], ◌∷◌, ◌++◌, Option, Some, None}
use Rattle.sprite_ids.specs.declared.Errno.{Errno}
use Rattle.sprite_ids.specs.declared.Errno.TheVariants as errno
use Rattle.process_machine.specs.declared.call.Call.{Call}
use Rattle.process_machine.specs.declared.call.Call.TheVariants as call
use Rattle.process_machine.specs.declared.call.Reply.{Reply}
use Rattle.process_machine.specs.declared.call.Reply.TheVariants.{Error}
use Rattle.pseudo_device.specs.declared.Ask.{Ask}
use Rattle.pseudo_device.specs.declared.TakeEnd.TheVariants.{Busy, Empty, Long}
use Rattle.pseudo_device.specs.Device.{Asks, IsTaken, is_put_refused, reply_of, take_refusal, takes, told}
use Rattle.unix_calls.specs.declared.Description.{Description}
use Rattle.unix_calls.specs.declared.state.Device.{Device}
use Rattle.unix_calls.specs.State.{Unix, device_at, is_alive}
use Rattle.unix_calls.specs.Answers.{nothing}
use Rattle.unix_calls.specs.DeviceCalls.{answer_for, errno_of, without_answer}
use Rattle.unix_calls.specs.After.{blocked}
use Rattle.home_laws.specs.Calls.{Calls, call_entry}
use Rattle.device_laws.specs.Devices.{AsksFor, CanAsk, Goes, IsInside, Masters, TellsTheSame, ask_entry, done_entry}

-- an ask stands behind the others of its device
abbrev pub AsksAsOne : Type 0
AsksAsOne = (c : Description) (u : Unix) (pid number : ℕ) (called : Call) (place : ℕ) (device : Device) (asks : Asks) (ask : Ask) (calls : Calls c u pid number called)
    → CanAsk u calls.may.process place called → device_at u.devices place ≡ Some device → TellsTheSame asks device → AsksFor ask called → ask.pid ≡ pid → ask.number ≡ number
    → Goes c u (ask_entry pid number called) place (record asks { waiting = asks.waiting ++ ask ∷ [] }) device.answers

-- the master takes the first ask, or is told why it can't, or waits
pub record Gets (c : Description) (u : Unix) (pid number fd max place : ℕ) (device : Device) (asks : Asks) (calls : Calls c u pid number (call.PdGet fd max)) : Type 0 where
  pub busy : take_refusal asks max ≡ Some Busy → Goes c u (call_entry pid number (call.PdGet fd max) (Error errno.Busy)) place asks device.answers
  pub long : take_refusal asks max ≡ Some Long → Goes c u (call_entry pid number (call.PdGet fd max) (Error errno.Invalid)) place asks device.answers
  pub empty : take_refusal asks max ≡ Some Empty → calls.may.process.killed ≡ false → blocked c u calls.may.process ≡ true
  pub taken : (after : Asks) (ask : Ask) → take_refusal asks max ≡ None → IsTaken asks after ask → Goes c u (call_entry pid number (call.PdGet fd max) (told ask)) place after device.answers

abbrev pub GetsAsOne : Type 0
GetsAsOne = (c : Description) (u : Unix) (pid number fd max place : ℕ) (device : Device) (asks : Asks) (calls : Calls c u pid number (call.PdGet fd max))
    → Masters u calls.may.process fd place → device_at u.devices place ≡ Some device → TellsTheSame asks device → Gets c u pid number fd max place device asks calls

-- an error of that number; none is 0
abbrev pub IsNumberOf : Option Errno → ℕ → Type 0
IsNumberOf None zero = Unit {0}
IsNumberOf None (suc n) = ⊥
IsNumberOf (Some error) zero = ⊥
IsNumberOf (Some error) (suc n) = errno_of (suc n) ≡ Some error

-- the master answers the ask in hand, or is refused
pub record Puts (c : Description) (u : Unix) (pid number fd : ℕ) (bytes : List ℕ) (error : Option Errno) (code place : ℕ) (device : Device) (asks : Asks) : Type 0 where
  pub refused : is_put_refused asks bytes error ≡ true → Goes c u (call_entry pid number (call.PdPut fd bytes code) (Error errno.Invalid)) place asks device.answers
  pub left : (ask : Ask) → asks.in_hand ≡ Some ask → takes ask bytes error ≡ true
      → Goes c u (call_entry pid number (call.PdPut fd bytes code) nothing) place (record asks { in_hand = None }) (device.answers ++ record { pid = ask.pid; reply = reply_of ask bytes error } ∷ [])

abbrev pub PutsAsOne : Type 0
PutsAsOne = (c : Description) (u : Unix) (pid number fd : ℕ) (bytes : List ℕ) (error : Option Errno) (code place : ℕ) (device : Device) (asks : Asks) (calls : Calls c u pid number (call.PdPut fd bytes code))
    → IsNumberOf error code → Masters u calls.may.process fd place → device_at u.devices place ≡ Some device → TellsTheSame asks device → Puts c u pid number fd bytes error code place device asks

-- an operation ends with the answer that was left for it, or with NoServer where the device is dead and none was
pub record Ends (c : Description) (u : Unix) (pid number : ℕ) (called : Call) (place : ℕ) (device : Device) (asks : Asks) : Type 0 where
  pub answered : (reply : Reply) → answer_for pid device.answers ≡ Some reply → Goes c u (done_entry pid number called reply) place asks (without_answer pid device.answers)
  pub dead : answer_for pid device.answers ≡ None → is_alive u place ≡ false → Goes c u (done_entry pid number called (Error errno.NoServer)) place asks (without_answer pid device.answers)

abbrev pub EndsAsOne : Type 0
EndsAsOne = (c : Description) (u : Unix) (pid number : ℕ) (called : Call) (place : ℕ) (device : Device) (asks : Asks)
    → IsInside c u pid number called place → device_at u.devices place ≡ Some device → TellsTheSame asks device → Ends c u pid number called place device asks
