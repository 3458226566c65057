use Rattle.std.proofs.Common.{ℕ, ◌<◌, ◌≤◌, List, refl, sym, ap, ap₂, subst, ◌∙◌, drop, length, slice_set}
use Rattle.std.proofs.lemmas.Bool.{lt-ltb, le-ltb}
use Rattle.sprite_ids.proofs.ListLaws.{some_is}
use Rattle.unix_run.specs.declared.came.Came.TheVariants as came
use Rattle.sprite_ids.specs.declared.errno.Errno.TheVariants as errno
use Rattle.process_machine.specs.declared.call.Reply.TheVariants.{Value, Error}
use Rattle.unix_calls.specs.declared.state.Device.{Device}
use Rattle.unix_calls.specs.declared.state.Process.{Process}
use Rattle.unix_calls.specs.State.{with_process}
use Rattle.unix_calls.specs.Answers.{Answered, replied}
use Rattle.unix_calls.specs.DeviceCalls.{asked_bytes, kind_of, taken}
use Rattle.unix_run.specs.Devices.{get_at}
use Rattle.unix_world.specs.Devices.{first_taken, taken_by}
use Rattle.unix_world.specs.Worlds.{unix_of}
use Rattle.unix_world.proofs.ChangeLaws.{device_there}
use Rattle.unix_run.proofs.DeviceLaws.{comes_answered, get_busy, get_waits, get_invalid, get_takes, head_is, place_there, put_device}
use Rattle.unix_run.proofs.devices.get_at.Goals as goal

pub returns-then-is_some : goal.returns-then-is_some
returns-then-is_some c =
    let w = c.args.world.now in
    let d = c.at-device.result.now in
    let found = device_there c.args.place w.devices c.args.at d c.requires.there c.at-device.ensures in
    comes_answered c.args.c.now (λ u q. get_at c.args.c.now u q c.args.max c.args.place) w c.args.p.now (Error errno.Busy) c.refuse.result w c.refuse.new.p
    c.refuse.ensures.came
    (λ ps. get_busy c.args.c.now (unix_of c.args.c.now w ps) c.args.p.now c.args.max c.args.place d found (sym c.is_some.ensures ∙ c.if-is_some.true)
    ∙ ap (λ (q : Process). Answered (Error errno.Busy) (with_process q (unix_of c.args.c.now w ps))) (sym c.refuse.ensures.process))
    (ap (λ (q : Process). q.pid) c.refuse.ensures.process)
    refl

pub returns-then-is_empty : goal.returns-then-is_empty
returns-then-is_empty c =
    let w = c.args.world.now in
    let d = c.at-device.result.now in
    let found = device_there c.args.place w.devices c.args.at d c.requires.there c.at-device.ensures in
    record {
      tells = λ ps. get_waits c.args.c.now (unix_of c.args.c.now w ps) c.args.p.now c.args.max c.args.place d found (sym c.is_some.ensures ∙ c.if-is_some.false) (c.is_empty.ensures.0 c.if-is_empty.true);
      same = refl;
      stays = refl;
      keeps = (refl, refl);
    }

pub returns-then-max-second : goal.returns-then-max-second
returns-then-max-second c =
    let w = c.args.world.now in
    let d = c.at-device.result.now in
    let ask = c.at-ask.result.now in
    let found = device_there c.args.place w.devices c.args.at d c.requires.there c.at-device.ensures in
    comes_answered c.args.c.now (λ u q. get_at c.args.c.now u q c.args.max c.args.place) w c.args.p.now (Error errno.Invalid) c.refuse-then-max-second.result w c.refuse-then-max-second.new.p
    c.refuse-then-max-second.ensures.came
    (λ ps. get_invalid c.args.c.now (unix_of c.args.c.now w ps) c.args.p.now c.args.max c.args.place d ask (drop 1 d.asks) found (sym c.is_some.ensures ∙ c.if-is_some.false) (head_is d.asks ask c.at-ask.ensures)
    (lt-ltb c.args.max (length (asked_bytes ask.call)) (subst (λ (n : ℕ). c.args.max < n) (c.len-second.ensures ∙ ap length c.in_ok-bytes.ensures) c.if-max-second.true))
    ∙ ap (λ (q : Process). Answered (Error errno.Invalid) (with_process q (unix_of c.args.c.now w ps))) (sym c.refuse-then-max-second.ensures.process))
    (ap (λ (q : Process). q.pid) c.refuse-then-max-second.ensures.process)
    refl

pub returns : goal.returns
returns c =
    let w = c.args.world.now in
    let d = c.at-device.result.now in
    let ask = c.at-ask.result.now in
    let asks = drop 1 d.asks in
    let asked = asked_bytes ask.call in
    let R = Value (kind_of ask.call) (length asked) asked in
    let found = device_there c.args.place w.devices c.args.at d c.requires.there c.at-device.ensures in
    let long = c.len-second.ensures ∙ ap length c.in_ok-bytes.ensures in
    let reply = ap₂ (λ (first second : ℕ). Value first second c.in_ok-bytes.bytes) c.kind_of-first.ensures long ∙ ap (λ (bytes : List ℕ). Value (kind_of ask.call) (length asked) bytes) c.in_ok-bytes.ensures in
    let same = some_is c.take_ask.ensures.device d (sym c.take_ask.ensures.there ∙ c.at-device.ensures) in
    let new = ap first_taken same ∙ ap (taken_by d) (head_is d.asks ask c.at-ask.ensures) in
    let devices = c.take_ask.ensures.set ∙ ap (slice_set w.devices c.args.at) new ∙ put_device c.args.place w.devices c.args.at d (taken d ask asks) c.requires.there c.at-device.ensures (place_there c.args.place w.devices c.args.at d c.requires.there c.at-device.ensures) in
    let process = c.answer.ensures.process ∙ ap (replied c.args.c.now c.args.p.now) reply in
    comes_answered c.args.c.now (λ u q. get_at c.args.c.now u q c.args.max c.args.place) w c.args.p.now R c.answer.result (record w { devices = c.take_ask.new.self }) c.answer.new.p
    (c.answer.ensures.came ∙ ap came.Answered reply)
    (λ ps. get_takes c.args.c.now (unix_of c.args.c.now w ps) c.args.p.now c.args.max c.args.place d ask asks found (sym c.is_some.ensures ∙ c.if-is_some.false) (head_is d.asks ask c.at-ask.ensures)
    (le-ltb c.args.max (length asked) (subst (λ (n : ℕ). n ≤ c.args.max) long c.if-max-second.false))
    ∙ ap₂ (λ (q : Process) (ds : List Device). Answered R (with_process q (record (unix_of c.args.c.now w ps) { devices = ds }))) (sym process) (sym devices))
    (ap (λ (q : Process). q.pid) process)
    refl
