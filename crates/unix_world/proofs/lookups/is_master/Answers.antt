use Rattle.std.proofs.Common.{ℕ, Option, sym, ap, ◌∙◌}
use Rattle.std.specs.List.{list_any}
use Rattle.unix_calls.specs.declared.state.Device.{Device}
use Rattle.unix_calls.specs.State.{leads_to_master}
use Rattle.unix_world.proofs.DeviceLaws.{leads_free, leads_nowhere}
use Rattle.unix_world.proofs.lookups.is_master.Goals as goal

pub returns-in_default : goal.returns-in_default
returns-in_default c =
    let w = c.args.world.now in
    sym (ap (λ (o : Option ℕ). list_any (λ (d : Device). leads_to_master w.streams d.place o) w.devices) c.in_default.is ∙ leads_free w.streams w.devices)

pub returns-in-None : goal.returns-in-None
returns-in-None c =
    let w = c.args.world.now in
    sym (ap (λ (o : Option ℕ). list_any (λ (d : Device). leads_to_master w.streams d.place o) w.devices) c.in-Some.is
    ∙ leads_nowhere w.streams w.devices c.in-Some.place (sym c.at_place.ensures ∙ c.in-None.is))
