use Rattle.std.proofs.Common.{Some, ap, subst, ◌∙◌}
use Rattle.process_machine.specs.Machine.{Machine}
use Rattle.unix_calls.specs.After.{waits_in}
use Rattle.unix_world.specs.Worlds.{unix_of}
use Rattle.one_kernel.specs.declared.Reach.{Reach}
use Rattle.one_kernel.specs.declared.Reach.TheVariants as reach
use Rattle.one_kernel.specs.Ways.{Reaches, way}
use Rattle.run_judge.specs.Waiting.{waits_by}
use Rattle.run_judge.proofs.HaltLaws.{near_halt, waits_at_call}
use Rattle.run_judge.proofs.halting.halt_running.Goals as goal

pub returns : goal.returns
returns c =
    let d = c.args.c.now in
    let w = c.args.world.now in
    let ps = c.args.ps.now in
    let p = c.args.p.now in
    let program = c.args.program.now in
    let m = c.go_to_call.new.image in
    let n = c.in-Call.way in
    let copied = subst (λ (r : Reach). Reaches program c.in_ok-image.image c.args.left r m) c.in-Call.is c.go_to_call.ensures in
    let reached = subst (λ (x : Machine). Reaches program x c.args.left (reach.Call n) m) c.in_ok-image.ensures copied in
    let waits = c.waits_by.ensures ∙ ap (waits_by w ps p) c.in_ok-call-in-Call.ensures ∙ waits_at_call d w ps p program m reached.0 reached.3 in
    c.rests_if.ensures ∙ near_halt c.args.left (way program p.image) n (waits_in d (unix_of d w ps) p (Some program)) c.waits_by.result reached.1 reached.2 waits
