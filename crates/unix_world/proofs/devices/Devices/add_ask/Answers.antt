use Rattle.std.proofs.Common.{ap, slice_set}
use Rattle.unix_calls.specs.declared.state.Device.{Device}
use Rattle.unix_world.proofs.ChangeLaws.{on_ok}
use Rattle.unix_world.proofs.KeyLaws.{key_set}
use Rattle.unix_world.proofs.devices.Devices.add_ask.Goals as goal

pub invariant_of-self : goal.invariant_of-self
invariant_of-self c =
    key_set (λ (d : Device). d.place) c.self.inside.ascend c.self.inside.devices c.args.at c.at_mut.result.now c.add.new.device c.add.ensures.place c.at_mut.ensures.value c.self.invariant

pub returns : goal.returns
returns c =
    rw (← c.self.view_is) (on_ok c.add.result
    (λ is. record { device = c.at_mut.result.now; there = c.at_mut.ensures.value; set = ap (slice_set c.self.inside.devices c.args.at) is })
    c.add.ensures.added)
