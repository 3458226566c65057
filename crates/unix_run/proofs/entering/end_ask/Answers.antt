use Rattle.std.proofs.Common.{ℕ, List, Some, None, false, true, refl, sym, ap, ap₂, ◌∙◌, slice_set}
use Rattle.sprite_ids.proofs.ListLaws.{some_is}
use Rattle.unix_calls.specs.declared.state.Answer.{Answer}
use Rattle.unix_calls.specs.declared.state.Device.{Device}
use Rattle.unix_calls.specs.declared.state.Process.{Process}
use Rattle.unix_calls.specs.State.{with_process}
use Rattle.unix_calls.specs.Answers.{replied}
use Rattle.unix_calls.specs.DeviceCalls.{without_answer}
use Rattle.unix_world.specs.Worlds.{unix_of}
use Rattle.unix_world.proofs.ChangeLaws.{device_there, no_device}
use Rattle.unix_run.proofs.DeviceLaws.{place_there, put_device}
use Rattle.unix_run.proofs.EnteringLaws.{an_ask, an_end, no_ask, no_end}
use Rattle.unix_run.proofs.entering.end_ask.Goals as goal

pub returns-in_default : goal.returns-in_default
returns-in_default c =
    let w = c.args.world.now in
    let place = sym c.place_of.ensures ∙ c.in_default.is in
    let none = no_device c.args.place w.devices place in
    record { tells = λ ps. no_end c.args.c.now c.args.place c.args.alive c.args.reply.now (unix_of c.args.c.now w ps) c.args.p.now none; same = refl; stays = refl }

pub returns-then-not-is_due : goal.returns-then-not-is_due
returns-then-not-is_due c =
    let w = c.args.world.now in
    let d = c.at.result.now in
    let place = sym c.place_of.ensures ∙ c.in-Some.is in
    let found = device_there c.args.place w.devices c.in-Some.at d place c.at.ensures in
    let due = sym c.if-not-is_due.true ∙ c.is_due.ensures in
    record { tells = λ ps. an_end c.args.c.now c.args.place c.args.alive c.args.reply.now (unix_of c.args.c.now w ps) c.args.p.now d false found due; same = refl; stays = refl }

pub returns : goal.returns
returns c =
    let w = c.args.world.now in
    let d = c.at.result.now in
    let place = sym c.place_of.ensures ∙ c.in-Some.is in
    let found = device_there c.args.place w.devices c.in-Some.at d place c.at.ensures in
    let due = sym c.if-not-is_due.false ∙ c.is_due.ensures in
    let same = some_is c.drop_answers.ensures.device d (sym c.drop_answers.ensures.there ∙ c.at.ensures) in
    let named = place_there c.args.place w.devices c.in-Some.at d place c.at.ensures in
    let fetched_one : Device → List Answer → Device = λ e answers. record e { answers = answers } in
    let new = ap (λ (e : Device). fetched_one e (without_answer c.args.p.now.pid e.answers)) same in
    let devices = c.drop_answers.ensures.set ∙ ap (slice_set w.devices c.in-Some.at) new ∙ put_device c.args.place w.devices c.in-Some.at d (fetched_one d (without_answer c.args.p.now.pid d.answers)) place c.at.ensures named in
    record {
      tells = λ ps. an_end c.args.c.now c.args.place c.args.alive c.args.reply.now (unix_of c.args.c.now w ps) c.args.p.now d true found due
          ∙ ap₂ (λ (q : Process) (ds : List Device). Some (with_process q (record (unix_of c.args.c.now w ps) { devices = ds }))) (sym c.reply_to.ensures) (sym devices);
      same = ap (λ (q : Process). q.pid) c.reply_to.ensures;
      stays = refl;
    }
