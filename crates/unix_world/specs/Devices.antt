-- Parts of the changes of a device that code has functions of their own for.
use Rattle.std.specs.Prelude.{◌≡◌, ◌==◌, ℕ, Bool, List, [], ◌∷◌, Some, slice_get, slice_set}
use Rattle.unix_calls.specs.declared.state.Answer.{Answer}
use Rattle.unix_calls.specs.declared.state.Ask.{Ask}
use Rattle.unix_calls.specs.declared.state.Device.{Device}

-- whether the entry at that place made a device
abbrev pub has_place : ℕ → Device → Bool
has_place place d = d.place == place

-- the device that stands there was changed so, and no other
pub record IsChanged (change : Device → Device) (at : ℕ) (old new : List Device) : Type 0 where
  pub device : Device
  pub there : slice_get old at ≡ Some device
  pub set : new ≡ slice_set old at (change device)

-- a device whose first ask is in hand
abbrev pub taken_by : Device → List Ask → Device
taken_by device [] = device
taken_by device (ask ∷ asks) = record device { asks = asks; in_hand = Some ask }

abbrev pub first_taken : Device → Device
first_taken device = taken_by device device.asks

-- whether the answer that stands there is for the process
pub record IsFor (answers : List Answer) (at pid : ℕ) (is : Bool) : Type 0 where
  pub answer : Answer
  pub there : slice_get answers at ≡ Some answer
  pub test : (answer.pid == pid) ≡ is
