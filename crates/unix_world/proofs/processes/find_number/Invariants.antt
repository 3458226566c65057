use Rattle.std.proofs.Common.{◌≤◌, ◌-◌, length}
use Rattle.std.specs.Prelude.{◌==◌}
use Rattle.unix_calls.specs.declared.state.Process.{Process}
use Rattle.unix_world.specs.Places.{Outside}
use Rattle.unix_world.proofs.processes.find_number.Given as goal

abbrev pub invariant-loop-low : goal.invariant-loop-low
invariant-loop-low l = Outside (λ (p : Process). p.pid == l.number) l.ps l.low l.high × (l.high ≤ length l.ps)

abbrev pub decreases-loop-low : goal.decreases-loop-low
decreases-loop-low l = l.high - l.low
