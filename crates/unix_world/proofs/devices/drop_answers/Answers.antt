use Rattle.std.proofs.Common.{◌≡◌, ◌<◌, ◌+◌, ◌++◌, ℕ, suc, List, drop, length, take, true, false, sym, subst, ◌∙◌, arith}
use Rattle.unix_calls.specs.declared.state.Answer.{Answer}
use Rattle.unix_calls.specs.DeviceCalls.{without_answer}
use Rattle.unix_world.specs.Devices.{IsFor}
use Rattle.unix_world.proofs.DeviceLaws.{drop_one, keep_one}
use Rattle.unix_world.proofs.devices.drop_answers.Goals as goal

pub loop-at-preserved-then-is_for : goal.loop-at-preserved-then-is_for
loop-at-preserved-then-is_for c =
    let answers = c.loop-at.answers in
    let at = c.loop-at.at in
    let pid = c.args.pid in
    let within : at < length answers = omega (arith, c.loop-at-test.true, c.len.ensures) in
    let is = subst (λ (l : List Answer). IsFor l at pid true) c.as_slice.ensures (subst (IsFor c.as_slice.result.now at pid) c.if-is_for.true c.is_for.ensures) in
    subst (λ (l : List Answer). take at l ++ without_answer pid (drop at l) ≡ without_answer pid c.args.answers.now) (sym c.drop_at.ensures)
    (drop_one answers at pid within is ∙ c.loop-at.invariant)

pub loop-at-preserved : goal.loop-at-preserved
loop-at-preserved c =
    let answers = c.loop-at.answers in
    let at = c.loop-at.at in
    let pid = c.args.pid in
    let within : at < length answers = omega (arith, c.loop-at-test.true, c.len.ensures) in
    let is = subst (λ (l : List Answer). IsFor l at pid false) c.as_slice.ensures (subst (IsFor c.as_slice.result.now at pid) c.if-is_for.false c.is_for.ensures) in
    let e : suc at ≡ at + 1 = omega arith in
    subst (λ (n : ℕ). take n answers ++ without_answer pid (drop n answers) ≡ without_answer pid c.args.answers.now) e
    (keep_one answers at pid within is ∙ c.loop-at.invariant)
