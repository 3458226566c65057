use Rattle.std.proofs.Common.{ℕ, List, false, refl, sym, ap, ap₂, ◌∙◌}
use Rattle.sprite_ids.specs.declared.names.Mode.TheVariants as mode
use Rattle.unix_calls.specs.declared.state.Device.{Device}
use Rattle.unix_calls.specs.declared.state.Named.{Named}
use Rattle.unix_calls.specs.declared.state.Node.TheVariants.{DeviceNode}
use Rattle.unix_calls.specs.declared.state.Object.TheVariants.{OfMaster}
use Rattle.unix_calls.specs.Tree.{with_name}
use Rattle.unix_calls.specs.Answers.{value}
use Rattle.unix_calls.specs.Opening.{make_at, opened}
use Rattle.unix_world.specs.Worlds.{unix_of}
use Rattle.unix_run.proofs.OpeningLaws.{comes_from, if_both, makes}
use Rattle.unix_run.proofs.opening.make_at.Goals as goal

pub returns : goal.returns
returns c =
    let w = c.args.world.now in
    let d = c.args.c.now in
    let p = c.args.p.now in
    let path = c.args.path.now in
    let free = sym c.new_refusal.ensures ∙ c.in_default.is in
    let nodes = c.in_ok-add.ensures ∙ ap (λ (parts : List (List ℕ)). with_name (record { path = parts; node = DeviceNode w.entries }) w.nodes) c.parts.ensures.parts in
    let between = record w { devices = c.add_device.new.devices; nodes = c.add.new.self } in
    if_both c.add_stream.result
    (λ told h answered. comes_from d (λ u q. make_at d u q c.args.fd path) (λ u q. opened d u q c.args.fd (OfMaster w.entries) mode.Both false) w between p (value c.args.fd) told c.add_stream.new.world c.add_stream.new.p
    (λ ps. makes d (unix_of d w ps) p c.args.fd path free
    ∙ ap₂ (λ (ds : List Device) (ns : List Named). opened d (record (unix_of d w ps) { devices = ds; nodes = ns }) p c.args.fd (OfMaster w.entries) mode.Both false) (sym c.in_ok-add_device.ensures) (sym nodes))
    refl answered h)
    c.add_stream.ensures.opened c.add_stream.ensures.answered
