use Rattle.std.proofs.Common.{◌≤◌, ◌-◌, length}
use Rattle.unix_calls.specs.declared.state.File.{File}
use Rattle.unix_calls.specs.State.{same_file}
use Rattle.unix_world.specs.Places.{Outside}
use Rattle.unix_world.proofs.files.bisect.Given as goal

abbrev pub invariant-loop-low : goal.invariant-loop-low
invariant-loop-low l = Outside (λ (f : File). same_file f.name l.name) l.files l.low l.high × (l.high ≤ length l.files)

abbrev pub decreases-loop-low : goal.decreases-loop-low
decreases-loop-low l = l.high - l.low
