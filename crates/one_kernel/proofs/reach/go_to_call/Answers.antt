use Rattle.std.proofs.Common.{ℕ, ◌≡◌, ◌≤◌, ◌+◌, Some, sym, subst, arith}
use Rattle.process_machine.specs.Runs.{ahead, EndsBy}
use Rattle.process_machine.proofs.MachineLaws.{ahead_sum}
use Rattle.one_kernel.specs.declared.reach.Reach.{Reach}
use Rattle.one_kernel.specs.declared.reach.Reach.TheVariants as reach
use Rattle.one_kernel.specs.Ways.{Reaches}
use Rattle.one_kernel.proofs.WayLaws.{reaches_bad_step, reaches_call, reaches_far, reaches_none, stopped_reaches}
use Rattle.one_kernel.proofs.reach.go_to_call.Goals as goal

pub loop-done-preserved : goal.loop-done-preserved
loop-done-preserved c =
    let p = c.args.program.now in
    let old = c.args.image.now in
    let new = c.burst-count.new.image in
    let run = ahead_sum p old c.loop-done.image new c.loop-done.done c.burst-count.result.0 c.loop-done.invariant.0 c.burst-count.ensures.moved in
    (subst (λ (n : ℕ). ahead p old (c.loop-done.done + n) ≡ Some new) (sym c.from-done.ensures) run, omega (arith, c.loop-done-test.true, c.burst-count.ensures.count, c.from-done.ensures))

pub returns-in-PageNeeded : goal.returns-in-PageNeeded
returns-in-PageNeeded c =
    let p = c.args.program.now in
    let old = c.args.image.now in
    let new = c.burst-count.new.image in
    let done = c.loop-done.done + c.from-done.result in
    let run = subst (λ (n : ℕ). ahead p old (c.loop-done.done + n) ≡ Some new) (sym c.from-done.ensures) (ahead_sum p old c.loop-done.image new c.loop-done.done c.burst-count.result.0 c.loop-done.invariant.0 c.burst-count.ensures.moved) in
    let few : done ≤ 40000010000 = omega (arith, c.loop-done-test.true, c.burst-count.ensures.count, c.from-done.ensures, c.requires) in
    let why = subst (EndsBy p new c.burst-count.result.0 10000) c.in-PageNeeded.is c.burst-count.ensures.why in
    subst (λ (r : Reach). Reaches p old c.args.most r new) (sym c.stopped.ensures)
    (stopped_reaches p old new done c.args.most reach.NoCall few run (λ near. reaches_none p old new done c.args.most c.in-PageNeeded.field-0 c.requires run why.0 near))

pub returns-in-Call : goal.returns-in-Call
returns-in-Call c =
    let p = c.args.program.now in
    let old = c.args.image.now in
    let new = c.burst-count.new.image in
    let done = c.loop-done.done + c.from-done.result in
    let run = subst (λ (n : ℕ). ahead p old (c.loop-done.done + n) ≡ Some new) (sym c.from-done.ensures) (ahead_sum p old c.loop-done.image new c.loop-done.done c.burst-count.result.0 c.loop-done.invariant.0 c.burst-count.ensures.moved) in
    let few : done ≤ 40000010000 = omega (arith, c.loop-done-test.true, c.burst-count.ensures.count, c.from-done.ensures, c.requires) in
    let why = subst (EndsBy p new c.burst-count.result.0 10000) c.in-Call.is c.burst-count.ensures.why in
    subst (λ (r : Reach). Reaches p old c.args.most r new) (sym c.stopped-in-Call.ensures)
    (stopped_reaches p old new done c.args.most (reach.Call done) few run (λ near. reaches_call p old new done c.args.most c.requires run why.0 near))

pub returns-in-BadStep : goal.returns-in-BadStep
returns-in-BadStep c =
    let p = c.args.program.now in
    let old = c.args.image.now in
    let new = c.burst-count.new.image in
    let done = c.loop-done.done + c.from-done.result in
    let run = subst (λ (n : ℕ). ahead p old (c.loop-done.done + n) ≡ Some new) (sym c.from-done.ensures) (ahead_sum p old c.loop-done.image new c.loop-done.done c.burst-count.result.0 c.loop-done.invariant.0 c.burst-count.ensures.moved) in
    let few : done ≤ 40000010000 = omega (arith, c.loop-done-test.true, c.burst-count.ensures.count, c.from-done.ensures, c.requires) in
    let why = subst (EndsBy p new c.burst-count.result.0 10000) c.in-BadStep.is c.burst-count.ensures.why in
    subst (λ (r : Reach). Reaches p old c.args.most r new) (sym c.stopped-in-BadStep.ensures)
    (stopped_reaches p old new done c.args.most (reach.BadStep done) few run (λ near. reaches_bad_step p old new done c.args.most c.requires run why.0 near))

pub returns : goal.returns
returns c =
    reaches_far c.args.program.now c.args.image.now c.loop-done.image c.loop-done.done c.args.most
    (omega (arith, c.loop-done.invariant.1, c.requires)) (omega (arith, c.loop-done-test.false)) c.loop-done.invariant.0
