use Rattle.std.proofs.Common.{◌≡◌, ◌+◌, ◌-◌, ◌∷◌, suc, drop, sym, ap, ◌∙◌, arith, add-one, drop-cons}
use Rattle.unix_calls.specs.declared.state.Process.{Process}
use Rattle.unix_world.specs.Worlds.{unix_of}
use Rattle.run_judge.specs.Ends.{stop_from}
use Rattle.run_judge.proofs.EndLaws.{rests_within, stop_rests}
use Rattle.run_judge.proofs.ending.stop_of.Goals as goal

pub overflow_add-cost : goal.overflow_add-cost
overflow_add-cost c =
    let u = unix_of c.args.c.now c.args.world.now c.args.ps.now in
    let few = rests_within c.args.c.now (c.args.most - c.loop-p.cost) c.in-Rests.way u c.p-item.result (sym c.in_ok-way.ensures ∙ c.in-Rests.is) in
    omega (arith, few, c.loop-p.invariant.1, c.requires.bound)

pub loop-p-preserved : goal.loop-p-preserved
loop-p-preserved c =
    let d = c.args.c.now in
    let ps = c.args.ps.now in
    let u = unix_of d c.args.world.now ps in
    let most = c.args.most in
    let cost = c.loop-p.cost in
    let i = c.loop-p.p-index in
    let p = c.p-item.result in
    let rests = sym c.in_ok-way.ensures ∙ c.in-Rests.is in
    let few = rests_within d (most - cost) c.in-Rests.way u p rests in
    let cut : drop i ps ≡ p ∷ drop (i + 1) ps = rw add-one (drop-cons ps i p c.loop-p-test.true ∙ ap (λ (x : Process). x ∷ drop (suc i) ps) (sym c.p-item.is)) in (
      sym (ap (stop_from d most cost u) cut ∙ stop_rests d most cost c.in-Rests.way u p (drop (i + 1) ps) rests) ∙ c.loop-p.invariant.0,
      omega (arith, few, c.loop-p.invariant.1),
    )
