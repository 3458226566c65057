use Rattle.std.proofs.Common.{◌≤◌, ◌-◌, length}
use Rattle.std.specs.Prelude.{◌==◌}
use Rattle.unix_calls.specs.declared.state.Stream.{Stream}
use Rattle.unix_world.specs.Places.{Outside}
use Rattle.unix_world.proofs.streams.bisect.Given as goal

abbrev pub invariant-loop-low : goal.invariant-loop-low
invariant-loop-low l = Outside (λ (s : Stream). s.place == l.place) l.streams l.low l.high × (l.high ≤ length l.streams)

abbrev pub decreases-loop-low : goal.decreases-loop-low
decreases-loop-low l = l.high - l.low
