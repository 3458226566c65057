-- Whether a process waits: in an ask, or at a call.
use Rattle.std.specs.Prelude.{ℕ, Bool, true, false, ◌&&◌, not, List, [], ◌∷◌, Option, Some, None}
use Rattle.std.specs.List.{list_any}
use Rattle.std.specs.Option.{is_some}
use Rattle.process_machine.specs.declared.call.Call.{Call}
use Rattle.process_machine.specs.declared.call.Call.TheVariants as call
use Rattle.unix_calls.specs.declared.state.Ask.{Ask}
use Rattle.unix_calls.specs.declared.state.Device.{Device}
use Rattle.unix_calls.specs.declared.state.Object.{Object}
use Rattle.unix_calls.specs.declared.state.Object.TheVariants as object
use Rattle.unix_calls.specs.declared.state.Process.{Process}
use Rattle.unix_calls.specs.declared.state.Stream.{Stream}
use Rattle.unix_calls.specs.State.{device_at, holds_master_of}
use Rattle.unix_calls.specs.DeviceCalls.{answer_for}
use Rattle.unix_calls.specs.ProcessCalls.{is_unwaited}
use Rattle.unix_world.specs.declared.World.{World}
use Rattle.unix_world.specs.Worlds.{stream_of_fd}

-- whether a device is alive, and has no answer for the process
abbrev pub asks_in_vain : World → List Process → ℕ → Option Device → Bool
asks_in_vain w ps pid None = false
asks_in_vain w ps pid (Some device) = list_any (holds_master_of w.streams device.place) ps && not (is_some (answer_for pid device.answers))

-- whether no ask waits
abbrev pub has_none : List Ask → Bool
has_none [] = true
has_none (ask ∷ asks) = false

-- whether a device has no ask, neither waiting nor in hand
abbrev pub is_idle : Device → Bool
is_idle device = not (is_some device.in_hand) && has_none device.asks

abbrev pub is_idle_at : Option Device → Bool
is_idle_at None = false
is_idle_at (Some device) = is_idle device

-- whether a stream is a master's, of such a device
abbrev pub waits_at_object : List Device → Object → Bool
waits_at_object devices (object.OfMaster place) = is_idle_at (device_at devices place)
waits_at_object devices _ = false

abbrev pub waits_at_stream : List Device → Option Stream → Bool
waits_at_stream devices None = false
waits_at_stream devices (Some stream) = waits_at_object devices stream.object

-- whether a process is an unwaited child of that one, and has ended
abbrev pub is_ended_child : ℕ → Process → Bool
is_ended_child pid child = is_unwaited pid child && is_some child.ending

-- whether a process has an unwaited child, and none of them has ended
abbrev pub waits_for_child : ℕ → List Process → Bool
waits_for_child pid ps = list_any (is_unwaited pid) ps && not (list_any (is_ended_child pid) ps)

-- whether a call of the process p waits, whose image stands at it
abbrev pub waits_by : World → List Process → Process → Call → Bool
waits_by w ps p call.Wait = waits_for_child p.pid ps
waits_by w ps p (call.PdGet fd max) = waits_at_stream w.devices (stream_of_fd w p fd)
waits_by w ps p _ = false
