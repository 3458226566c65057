use Rattle.std.proofs.Common.{Bool, ◌||◌, ◌+◌, drop, sym, ap, ◌∙◌, arith}
use Rattle.std.specs.List.{list_any}
use Rattle.unix_calls.specs.declared.state.Device.{Device}
use Rattle.unix_calls.specs.State.{leads_to_master}
use Rattle.unix_world.proofs.DeviceLaws.{leads_at, leads_none}
use Rattle.unix_world.proofs.lookups.any_is_master.Goals as goal

pub returns-then-is_master : goal.returns-then-is_master
returns-then-is_master c =
    let w = c.args.world.now in
    let os = c.args.descriptors.now in
    let i = c.loop-place.place-index in
    let rest = list_any (λ (d : Device). list_any (leads_to_master w.streams d.place) (drop (i + 1) os)) w.devices in
    sym (ap (λ (b : Bool). b || rest) (sym c.is_master.ensures ∙ c.if-is_master.true))
    ∙ (sym (leads_at w.streams w.devices os i _ c.loop-place-test.true) ∙ c.loop-place.invariant)

pub loop-place-preserved : goal.loop-place-preserved
loop-place-preserved c =
    let w = c.args.world.now in
    let os = c.args.descriptors.now in
    let i = c.loop-place.place-index in
    let rest = list_any (λ (d : Device). list_any (leads_to_master w.streams d.place) (drop (i + 1) os)) w.devices in
    sym (ap (λ (b : Bool). b || rest) (sym c.is_master.ensures ∙ c.if-is_master.false))
    ∙ (sym (leads_at w.streams w.devices os i _ c.loop-place-test.true) ∙ c.loop-place.invariant)

pub returns : goal.returns
returns c =
    let w = c.args.world.now in
    sym (leads_none w.streams w.devices c.args.descriptors.now c.loop-place.place-index (omega (arith, c.loop-place-test.false))) ∙ c.loop-place.invariant
