use Rattle.std.proofs.Common.{ℕ, get_or, ◌+◌, ◌-◌, ◌/◌, ◌<◌, length, sym, subst, ◌∙◌, arith}
use Rattle.std.specs.Prelude.{◌==◌}
use Rattle.unix_calls.specs.declared.state.Process.{Process}
use Rattle.unix_world.specs.Among.{IsAt}
use Rattle.unix_world.proofs.PlaceLaws.{here, no_process, outside_any, process_high, process_low}
use Rattle.unix_world.proofs.ProcessLaws.{is_at}
use Rattle.unix_world.proofs.processes.find_number.Goals as goal

pub returns-then-found-number : goal.returns-then-found-number
returns-then-found-number c =
    let middle = c.loop-low.low + (c.loop-low.high - c.loop-low.low) / 2 in
    let within : middle < length c.args.ps.now = omega (arith, c.loop-low-test.true, c.loop-low.invariant.1) in
    let p = get_or c.args.ps.now middle c.index-ps-middle.result in
    let got = here c.args.ps.now middle c.index-ps-middle.result within in
    subst (λ (n : ℕ). IsAt c.args.ps.now n middle) (sym c.number.ensures.value ∙ (sym c.from-found.ensures ∙ c.if-found-number.true)) (is_at c.args.ps.now middle p c.requires got)

pub loop-low-preserved-then-found-number-2 : goal.loop-low-preserved-then-found-number-2
loop-low-preserved-then-found-number-2 c =
    let middle = c.loop-low.low + (c.loop-low.high - c.loop-low.low) / 2 in
    let within : middle < length c.args.ps.now = omega (arith, c.loop-low-test.true, c.loop-low.invariant.1) in
    let p = get_or c.args.ps.now middle c.index-ps-middle.result in
    let got = here c.args.ps.now middle c.index-ps-middle.result within in
    (process_low c.args.number c.args.ps.now c.loop-low.low c.loop-low.high middle p c.requires got (omega (arith, c.number.ensures.value, c.from-found.ensures, c.if-found-number-2.true)) c.loop-low.invariant.0, c.loop-low.invariant.1)

pub loop-low-preserved : goal.loop-low-preserved
loop-low-preserved c =
    let middle = c.loop-low.low + (c.loop-low.high - c.loop-low.low) / 2 in
    let within : middle < length c.args.ps.now = omega (arith, c.loop-low-test.true, c.loop-low.invariant.1) in
    let p = get_or c.args.ps.now middle c.index-ps-middle.result in
    let got = here c.args.ps.now middle c.index-ps-middle.result within in
    (process_high c.args.number c.args.ps.now c.loop-low.low c.loop-low.high middle p c.requires got (omega (arith, c.number.ensures.value, c.from-found.ensures, c.if-found-number.false, c.if-found-number-2.false)) c.loop-low.invariant.0, omega (arith, within))

pub returns : goal.returns
returns c =
    no_process c.args.number c.args.ps.now (outside_any (λ (p : Process). p.pid == c.args.number) c.args.ps.now c.loop-low.low c.loop-low.high c.loop-low.invariant.0 (omega (arith, c.loop-low-test.false)))
