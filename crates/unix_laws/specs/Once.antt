-- Each ask is answered once.
use Rattle.std.specs.Prelude.{◌≡◌, ◌≤◌, ◌+◌, ◌==◌, ℕ, true, false, if◌then◌else◌, List, [], ◌∷◌, length, Option, Some}
use Rattle.std.specs.Option.{is_some}
use Rattle.unix_calls.specs.declared.Description.{Description}
use Rattle.unix_calls.specs.declared.Entry.{Entry}
use Rattle.unix_calls.specs.declared.state.Answer.{Answer}
use Rattle.unix_calls.specs.declared.state.Ask.{Ask}
use Rattle.unix_calls.specs.declared.state.Device.{Device}
use Rattle.unix_calls.specs.declared.state.Process.{Process}
use Rattle.unix_calls.specs.State.{Unix, device_at, is_alive, process_at}
use Rattle.unix_calls.specs.After.{after, state_of}
use Rattle.unix_laws.specs.Asks.{asking_of, is_inside, line_of}

-- how many asks of a process stand in a line; how many answers are left for it
abbrev pub asks_of : ℕ → List Ask → ℕ
asks_of pid [] = 0
asks_of pid (ask ∷ asks) = (if ask.pid == pid then 1 else 0) + asks_of pid asks

abbrev pub answers_of : ℕ → List Answer → ℕ
answers_of pid [] = 0
answers_of pid (answer ∷ answers) = (if answer.pid == pid then 1 else 0) + answers_of pid answers

-- one where a process is inside that device's operation, else none
abbrev pub inside_of : ℕ → Option Process → ℕ
inside_of place p = if is_inside place (asking_of p) then 1 else 0

-- who is inside a device's operation stands there once, while the device lives: in the line, in hand or with the answer that was left; and
-- nobody else does. No answer is left for anybody else at any time
pub record AsksStandOnce (u : Unix) : Type 0 where
  pub there : (pid place : ℕ) (p : Process) → process_at u.processes pid ≡ Some p → p.asking ≡ Some place → is_some (device_at u.devices place) ≡ true
  pub living : (place : ℕ) (device : Device) (pid : ℕ) → device_at u.devices place ≡ Some device → is_alive u place ≡ true → asks_of pid (line_of (Some device)) + answers_of pid device.answers ≡ inside_of place (process_at u.processes pid)
  pub left : (place : ℕ) (device : Device) (pid : ℕ) → device_at u.devices place ≡ Some device → answers_of pid device.answers ≤ inside_of place (process_at u.processes pid)

-- so it is in each state of a history, where at most 200 processes start
abbrev pub AsksAreAnsweredOnce : Type 0
AsksAreAnsweredOnce = (c : Description) (journal : List Entry) (u : Unix) → length c.starts ≤ 200 → state_of c journal ≡ Some u → AsksStandOnce u

-- a device that is dead stays dead
abbrev pub TheDeadStayDead : Type 0
TheDeadStayDead = (c : Description) (journal : List Entry) (u v : Unix) (e : Entry) (place : ℕ) → state_of c journal ≡ Some u → after c u e ≡ Some v → is_some (device_at u.devices place) ≡ true → is_alive u place ≡ false → is_alive v place ≡ false
