use Rattle.std.proofs.Common.{ℕ, ◌+◌, ◌∷◌, ◌++◌, [], List, Some, None, false, true, refl, sym, ap, ap₂, ◌∙◌, slice_set}
use Rattle.sprite_ids.proofs.ListLaws.{some_is}
use Rattle.unix_calls.specs.declared.state.Ask.{Ask}
use Rattle.unix_calls.specs.declared.state.Device.{Device}
use Rattle.unix_calls.specs.declared.state.Process.{Process}
use Rattle.unix_calls.specs.State.{with_process}
use Rattle.unix_calls.specs.Answers.{replied}
use Rattle.unix_calls.specs.DeviceCalls.{without_answer}
use Rattle.unix_world.specs.Worlds.{unix_of}
use Rattle.unix_world.proofs.ChangeLaws.{device_there, no_device}
use Rattle.unix_run.proofs.DeviceLaws.{place_there, put_device}
use Rattle.unix_run.proofs.EnteringLaws.{an_ask, an_end, no_ask, no_end}
use Rattle.unix_run.proofs.entering.ask.Goals as goal

pub returns-in-None : goal.returns-in-None
returns-in-None c =
    let w = c.args.world.now in
    let place = sym c.place_of.ensures ∙ c.in-None.is in
    let none = no_device c.args.place w.devices place in
    record { tells = λ ps. no_ask c.args.place c.args.call.now (unix_of c.args.c.now w ps) c.args.p.now none; same = refl; stays = refl }

pub returns-in_ok-add_ask-in-Some : goal.returns-in_ok-add_ask-in-Some
returns-in_ok-add_ask-in-Some c =
    let w = c.args.world.now in
    let p = c.args.p.now in
    let at = c.in-Some.at in
    let d = c.in_ok-add_ask-in-Some.ensures.device in
    let place = sym c.place_of.ensures ∙ c.in-Some.is in
    let there = c.in_ok-add_ask-in-Some.ensures.there in
    let found = device_there c.args.place w.devices at d place there in
    let named = place_there c.args.place w.devices at d place there in
    let asked_one : Ask → Device = λ a. record d { asks = d.asks ++ a ∷ [] } in
    let new = ap asked_one c.in_ok-ask-in-Some.ensures in
    let devices = c.in_ok-add_ask-in-Some.ensures.set ∙ ap (slice_set w.devices at) new ∙ put_device c.args.place w.devices at d (asked_one (record { pid = p.pid; number = p.calls + 1; call = c.args.call.now })) place there named in
    record {
      tells = λ ps. an_ask c.args.place c.args.call.now (unix_of c.args.c.now w ps) p d found
          ∙ ap₂ (λ (n : ℕ) (ds : List Device). Some (with_process (record p { asking = Some n }) (record (unix_of c.args.c.now w ps) { devices = ds }))) named (sym devices);
      same = refl;
      stays = refl;
    }
