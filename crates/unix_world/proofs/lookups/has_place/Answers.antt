use Rattle.std.proofs.Common.{is_some, ap, ◌∙◌}
use Rattle.sprite_ids.proofs.OnceLaws.{found_is_any}
use Rattle.unix_world.specs.Devices.{has_place}
use Rattle.unix_world.proofs.DeviceLaws.{any_turned}
use Rattle.unix_world.proofs.lookups.has_place.Goals as goal

pub returns : goal.returns
returns c =
    c.is_some.ensures ∙ ap is_some c.place_of.ensures ∙ found_is_any (has_place c.args.place) c.args.devices.now ∙ any_turned c.args.place c.args.devices.now
