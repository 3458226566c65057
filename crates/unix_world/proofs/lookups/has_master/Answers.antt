use Rattle.std.proofs.Common.{sym, ap, ◌∙◌}
use Rattle.std.specs.List.{list_any}
use Rattle.unix_calls.specs.declared.state.Device.{Device}
use Rattle.unix_calls.specs.declared.state.Object.{Object}
use Rattle.unix_calls.specs.State.{is_master_of}
use Rattle.unix_world.proofs.DeviceLaws.{none_any}
use Rattle.unix_world.proofs.lookups.has_master.Goals as goal

pub returns-in-OfFile : goal.returns-in-OfFile
returns-in-OfFile c =
    sym (ap (λ (o : Object). list_any (λ (d : Device). is_master_of d.place o) c.args.devices.now) c.in-OfFile.is ∙ none_any c.args.devices.now)

pub returns-in-OfDevice : goal.returns-in-OfDevice
returns-in-OfDevice c =
    sym (ap (λ (o : Object). list_any (λ (d : Device). is_master_of d.place o) c.args.devices.now) c.in-OfDevice.is ∙ none_any c.args.devices.now)
