use Rattle.std.proofs.Common.{◌≡◌, drop}
use Rattle.unix_calls.specs.State.{device_at}
use Rattle.run_judge.proofs.asking.device_at.Given as goal

-- the device in the rest is that in the whole
abbrev pub invariant-loop-device : goal.invariant-loop-device
invariant-loop-device l = device_at (drop l.device-index l.devices) l.place ≡ device_at l.devices l.place
