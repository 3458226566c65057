use Rattle.std.proofs.Common.{◌+◌, ◌-◌, ◌/◌, ◌<◌, length, sym, ◌∙◌, arith}
use Rattle.unix_calls.specs.declared.state.File.{File}
use Rattle.unix_calls.specs.State.{same_file}
use Rattle.unix_world.proofs.PlaceLaws.{file_first, file_high, file_low, outside_none}
use Rattle.unix_world.proofs.files.bisect.Goals as goal

pub returns-then-same_file : goal.returns-then-same_file
returns-then-same_file c =
    let middle = c.loop-low.low + (c.loop-low.high - c.loop-low.low) / 2 in
    let within : middle < length c.args.files.now = omega (arith, c.loop-low-test.true, c.loop-low.invariant.1) in
    sym (file_first c.args.name c.args.files.now middle _ c.requires within (sym c.same_file.ensures ∙ c.if-same_file.true))

pub loop-low-preserved-then-is_before : goal.loop-low-preserved-then-is_before
loop-low-preserved-then-is_before c =
    let middle = c.loop-low.low + (c.loop-low.high - c.loop-low.low) / 2 in
    let within : middle < length c.args.files.now = omega (arith, c.loop-low-test.true, c.loop-low.invariant.1) in
    (file_low c.args.name c.args.files.now c.loop-low.low c.loop-low.high middle _ c.requires within (sym c.is_before.ensures ∙ c.if-is_before.true) c.loop-low.invariant.0, c.loop-low.invariant.1)

pub loop-low-preserved : goal.loop-low-preserved
loop-low-preserved c =
    let middle = c.loop-low.low + (c.loop-low.high - c.loop-low.low) / 2 in
    let within : middle < length c.args.files.now = omega (arith, c.loop-low-test.true, c.loop-low.invariant.1) in
    (file_high c.args.name c.args.files.now c.loop-low.low c.loop-low.high middle _ c.requires within (sym c.same_file.ensures ∙ c.if-same_file.false) (sym c.is_before.ensures ∙ c.if-is_before.false) c.loop-low.invariant.0, omega (arith, within))

pub returns : goal.returns
returns c =
    sym (outside_none (λ (f : File). same_file f.name c.args.name) c.args.files.now c.loop-low.low c.loop-low.high c.loop-low.invariant.0 (omega (arith, c.loop-low-test.false)))
