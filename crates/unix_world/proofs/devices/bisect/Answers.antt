use Rattle.std.proofs.Common.{Bool, nat_lt, sym, ◌∙◌}
use Rattle.unix_calls.specs.declared.state.Device.{Device}
use Rattle.unix_world.specs.Devices.{has_place}
use Rattle.unix_world.specs.Places.{IsEarlier}
use Rattle.unix_world.proofs.KeyLaws.{key_seeks}
use Rattle.unix_world.proofs.SeekLaws.{sought_none, sought_there}
use Rattle.unix_world.proofs.devices.bisect.Goals as goal

pub returns-then-is_at : goal.returns-then-is_at
returns-then-is_at c =
    let p : Device → Bool = λ d. nat_lt d.place c.args.place in
    sym (sought_there IsEarlier p (has_place c.args.place) c.args.devices.now c.count_before-at.result (key_seeks (λ (d : Device). d.place) c.args.place) c.count_before-at.ensures (sym c.is_at.ensures ∙ c.if-is_at.true))

pub returns-else-is_at : goal.returns-else-is_at
returns-else-is_at c =
    let p : Device → Bool = λ d. nat_lt d.place c.args.place in
    sym (sought_none IsEarlier p (has_place c.args.place) c.args.devices.now c.count_before-at.result (key_seeks (λ (d : Device). d.place) c.args.place) c.requires c.count_before-at.ensures (sym c.is_at.ensures ∙ c.if-is_at.false))
