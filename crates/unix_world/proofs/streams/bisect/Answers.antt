use Rattle.std.proofs.Common.{◌+◌, ◌-◌, ◌/◌, ◌<◌, length, sym, arith}
use Rattle.unix_world.proofs.PlaceLaws.{outside_none, stream_first, stream_high, stream_low}
use Rattle.std.specs.Prelude.{◌==◌}
use Rattle.unix_calls.specs.declared.state.Stream.{Stream}
use Rattle.unix_world.proofs.streams.bisect.Goals as goal

pub returns-then-found-place : goal.returns-then-found-place
returns-then-found-place c =
    let middle = c.loop-low.low + (c.loop-low.high - c.loop-low.low) / 2 in
    let within : middle < length c.args.streams.now = omega (arith, c.loop-low-test.true, c.loop-low.invariant.1) in
    sym (stream_first c.args.place c.args.streams.now middle _ c.requires within c.if-found-place.true)

pub loop-low-preserved-then-found-place-2 : goal.loop-low-preserved-then-found-place-2
loop-low-preserved-then-found-place-2 c =
    let middle = c.loop-low.low + (c.loop-low.high - c.loop-low.low) / 2 in
    let within : middle < length c.args.streams.now = omega (arith, c.loop-low-test.true, c.loop-low.invariant.1) in
    (stream_low c.args.place c.args.streams.now c.loop-low.low c.loop-low.high middle _ c.requires within c.if-found-place-2.true c.loop-low.invariant.0, c.loop-low.invariant.1)

pub loop-low-preserved : goal.loop-low-preserved
loop-low-preserved c =
    let middle = c.loop-low.low + (c.loop-low.high - c.loop-low.low) / 2 in
    let within : middle < length c.args.streams.now = omega (arith, c.loop-low-test.true, c.loop-low.invariant.1) in
    (stream_high c.args.place c.args.streams.now c.loop-low.low c.loop-low.high middle _ c.requires within c.if-found-place.false c.if-found-place-2.false c.loop-low.invariant.0, omega (arith, within))

pub returns : goal.returns
returns c =
    sym (outside_none (λ (s : Stream). s.place == c.args.place) c.args.streams.now c.loop-low.low c.loop-low.high c.loop-low.invariant.0 (omega (arith, c.loop-low-test.false)))
