use Rattle.std.proofs.Common.{refl, sym, ap, ◌∙◌}
use Rattle.sprite_ids.specs.declared.errno.Errno.TheVariants as errno
use Rattle.process_machine.specs.declared.call.Reply.TheVariants.{Error}
use Rattle.unix_calls.specs.declared.state.Process.{Process}
use Rattle.unix_calls.specs.State.{with_process}
use Rattle.unix_calls.specs.Answers.{Answered}
use Rattle.unix_calls.specs.DeviceCalls.{pd_put, put_to}
use Rattle.unix_world.specs.Worlds.{unix_of}
use Rattle.unix_world.proofs.ChangeLaws.{no_device}
use Rattle.unix_run.proofs.DeviceLaws.{comes_answered, no_master}
use Rattle.unix_run.proofs.devices.pd_put.Goals as goal

pub returns-in-None : goal.returns-in-None
returns-in-None c =
    let w = c.args.world.now in
    let place = sym c.place_of.ensures ∙ c.in-None.is in
    let none = no_device c.in-OfMaster.place w.devices place in
    let found = sym c.stream_of.ensures.stream ∙ c.in-Some.is in
    comes_answered c.args.c.now (λ u q. pd_put c.args.c.now u q c.args.fd c.args.bytes.now c.args.number) w c.args.p.now (Error errno.BadMode) c.refuse-in-None.result w c.refuse-in-None.new.p
    c.refuse-in-None.ensures.came
    (λ ps. no_master c.args.c.now (unix_of c.args.c.now w ps) c.args.p.now c.args.fd c.in-OfMaster.place c.in-Some.stream ((λ device. put_to c.args.c.now (unix_of c.args.c.now w ps) c.args.p.now c.args.bytes.now c.args.number device device.in_hand)) found c.in-OfMaster.is none
    ∙ ap (λ (q : Process). Answered (Error errno.BadMode) (with_process q (unix_of c.args.c.now w ps))) (sym c.refuse-in-None.ensures.process))
    (ap (λ (q : Process). q.pid) c.refuse-in-None.ensures.process)
    refl
