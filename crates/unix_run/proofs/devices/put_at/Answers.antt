use Rattle.std.proofs.Common.{List, Some, None, refl, sym, ap, ap₂, ◌∙◌, slice_set}
use Rattle.sprite_ids.proofs.ListLaws.{some_is}
use Rattle.sprite_ids.specs.declared.errno.Errno.TheVariants as errno
use Rattle.process_machine.specs.declared.call.Reply.TheVariants.{Error}
use Rattle.unix_calls.specs.declared.state.Device.{Device}
use Rattle.unix_calls.specs.declared.state.Process.{Process}
use Rattle.unix_calls.specs.State.{with_process}
use Rattle.unix_calls.specs.Answers.{Answered, value}
use Rattle.unix_calls.specs.DeviceCalls.{left}
use Rattle.unix_run.specs.Devices.{put_at}
use Rattle.unix_world.specs.Worlds.{unix_of}
use Rattle.unix_world.proofs.ChangeLaws.{device_there}
use Rattle.unix_run.proofs.DeviceLaws.{comes_answered, place_there, put_device, put_free, put_held}
use Rattle.unix_run.proofs.devices.put_at.Goals as goal

pub returns-in_default : goal.returns-in_default
returns-in_default c =
    let w = c.args.world.now in
    let d = c.at.result.now in
    let found = device_there c.args.place w.devices c.args.at d c.requires.there c.at.ensures in
    comes_answered c.args.c.now (λ u q. put_at c.args.c.now u q c.args.bytes.now c.args.number c.args.place) w c.args.p.now (Error errno.Invalid) c.refuse.result w c.refuse.new.p
    c.refuse.ensures.came
    (λ ps. put_free c.args.c.now (unix_of c.args.c.now w ps) c.args.p.now c.args.bytes.now c.args.number c.args.place d found c.in_default.is
    ∙ ap (λ (q : Process). Answered (Error errno.Invalid) (with_process q (unix_of c.args.c.now w ps))) (sym c.refuse.ensures.process))
    (ap (λ (q : Process). q.pid) c.refuse.ensures.process)
    refl

pub returns-in_default-2 : goal.returns-in_default-2
returns-in_default-2 c =
    let w = c.args.world.now in
    let d = c.at.result.now in
    let found = device_there c.args.place w.devices c.args.at d c.requires.there c.at.ensures in
    comes_answered c.args.c.now (λ u q. put_at c.args.c.now u q c.args.bytes.now c.args.number c.args.place) w c.args.p.now (Error errno.Invalid) c.refuse-in_default-2.result w c.refuse-in_default-2.new.p
    c.refuse-in_default-2.ensures.came
    (λ ps. put_held c.args.c.now (unix_of c.args.c.now w ps) c.args.p.now c.args.bytes.now c.args.number c.args.place d c.in-Some.ask None found c.in-Some.is (sym c.in_default-2.is ∙ c.in_ok-reply.ensures)
    ∙ ap (λ (q : Process). Answered (Error errno.Invalid) (with_process q (unix_of c.args.c.now w ps))) (sym c.refuse-in_default-2.ensures.process))
    (ap (λ (q : Process). q.pid) c.refuse-in_default-2.ensures.process)
    refl

pub returns : goal.returns
returns c =
    let w = c.args.world.now in
    let d = c.at.result.now in
    let ask = c.in-Some.ask in
    let reply = c.in-Some-2.reply in
    let found = device_there c.args.place w.devices c.args.at d c.requires.there c.at.ensures in
    let same = some_is c.in_ok-leave.ensures.device d (sym c.in_ok-leave.ensures.there ∙ c.at.ensures) in
    let new = ap (λ (e : Device). left e ask reply) same in
    let devices = c.in_ok-leave.ensures.set ∙ ap (slice_set w.devices c.args.at) new ∙ put_device c.args.place w.devices c.args.at d (left d ask reply) c.requires.there c.at.ensures (place_there c.args.place w.devices c.args.at d c.requires.there c.at.ensures) in
    comes_answered c.args.c.now (λ u q. put_at c.args.c.now u q c.args.bytes.now c.args.number c.args.place) w c.args.p.now (value 0) c.give_value.result (record w { devices = c.leave.new.self }) c.give_value.new.p
    c.give_value.ensures.came
    (λ ps. put_held c.args.c.now (unix_of c.args.c.now w ps) c.args.p.now c.args.bytes.now c.args.number c.args.place d ask (Some reply) found c.in-Some.is (sym c.in-Some-2.is ∙ c.in_ok-reply.ensures)
    ∙ ap₂ (λ (q : Process) (ds : List Device). Answered (value 0) (with_process q (record (unix_of c.args.c.now w ps) { devices = ds }))) (sym c.give_value.ensures.process) (sym devices))
    (ap (λ (q : Process). q.pid) c.give_value.ensures.process)
    refl
