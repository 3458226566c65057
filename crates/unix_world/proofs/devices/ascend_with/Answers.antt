use Rattle.std.proofs.Common.{true, length, sym, ◌∙◌, arith}
use Rattle.std.proofs.lemmas.Bool.{eqb-false, eqb-true}
use Rattle.unix_world.specs.Places.{IsEarlier}
use Rattle.unix_world.proofs.PlaceLaws.{last_of_none, push_ordered_if}
use Rattle.unix_calls.specs.declared.state.Device.{Device}
use Rattle.unix_world.proofs.KeyLaws.{key_last, lower_trans}
use Rattle.unix_world.proofs.devices.ascend_with.Goals as goal

pub returns-then-is_empty : goal.returns-then-is_empty
returns-then-is_empty c =
    let none = eqb-true (length c.args.devices.now) 0 (sym c.is_empty.ensures ∙ c.if-is_empty.true) in
    λ t e h. push_ordered_if c.args.ascend true IsEarlier c.args.devices.now t (lower_trans (λ (d : Device). d.place)) c.if-not-ascend.false h (last_of_none IsEarlier c.args.devices.now t none)

pub returns : goal.returns
returns c =
    let end = eqb-false (length c.args.devices.now) 0 (sym c.is_empty.ensures ∙ c.if-is_empty.false) in
    λ t e h. push_ordered_if c.args.ascend _ IsEarlier c.args.devices.now t (lower_trans (λ (d : Device). d.place)) c.if-not-ascend.false h (key_last (λ (d : Device). d.place) c.args.devices.now _ _ c.args.place t (omega (arith, end)) e)
