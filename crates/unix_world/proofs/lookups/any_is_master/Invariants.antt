use Rattle.std.proofs.Common.{◌≡◌, drop}
use Rattle.std.specs.List.{list_any}
use Rattle.unix_calls.specs.declared.state.Device.{Device}
use Rattle.unix_calls.specs.State.{leads_to_master}
use Rattle.unix_world.proofs.lookups.any_is_master.Given as goal

abbrev pub invariant-loop-place : goal.invariant-loop-place
invariant-loop-place l =
    list_any (λ (d : Device). list_any (leads_to_master l.world.streams d.place) (drop l.place-index l.descriptors)) l.world.devices
    ≡ list_any (λ (d : Device). list_any (leads_to_master l.world.streams d.place) l.descriptors) l.world.devices
