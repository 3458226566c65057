-- Parts of the calls on devices that code has functions of their own for.
use Rattle.std.specs.Prelude.{ℕ, List}
use Rattle.unix_calls.specs.declared.description.Description.{Description}
use Rattle.unix_calls.specs.declared.state.Process.{Process}
use Rattle.unix_calls.specs.State.{Unix, device_at}
use Rattle.unix_calls.specs.Answers.{Outcome}
use Rattle.unix_calls.specs.DeviceCalls.{get_from, put_to, with_device_of}

-- the first ask of the device that the entry at that place made
abbrev pub get_at : Description → Unix → Process → ℕ → ℕ → Outcome
get_at c u p max place = with_device_of c u p (device_at u.devices place) (get_from c u p max)

-- the answer of the ask in hand of that device
abbrev pub put_at : Description → Unix → Process → List ℕ → ℕ → ℕ → Outcome
put_at c u p bytes number place = with_device_of c u p (device_at u.devices place) (λ device. put_to c u p bytes number device device.in_hand)
