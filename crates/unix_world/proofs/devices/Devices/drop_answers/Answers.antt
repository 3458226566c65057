use Rattle.std.proofs.Common.{List, refl, ap, slice_set}
use Rattle.unix_calls.specs.declared.state.Answer.{Answer}
use Rattle.unix_calls.specs.declared.state.Device.{Device}
use Rattle.unix_world.proofs.KeyLaws.{key_set}
use Rattle.unix_world.proofs.devices.Devices.drop_answers.Goals as goal

pub invariant_of-self : goal.invariant_of-self
invariant_of-self c =
    key_set (λ (d : Device). d.place) c.self.inside.ascend c.self.inside.devices c.args.at c.at_mut.result.now _ refl c.at_mut.ensures.value c.self.invariant

pub returns : goal.returns
returns c =
    let old = c.at_mut.result.now in
    let new : List Answer → Device = λ answers. record old { answers = answers } in
    rw (← c.self.view_is) (record { device = old; there = c.at_mut.ensures.value; set = ap (λ answers. slice_set c.self.inside.devices c.args.at (new answers)) c.drop_answers.ensures })
