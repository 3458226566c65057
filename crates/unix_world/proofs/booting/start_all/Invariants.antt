use Rattle.std.proofs.Common.{◌≡◌, ◌≤◌, [], drop, length}
use Rattle.unix_calls.specs.Boot.{started}
use Rattle.unix_world.proofs.booting.start_all.Given as goal

abbrev pub invariant-loop-line : goal.invariant-loop-line
invariant-loop-line l =
    (started l.programs l.processes (drop l.line-index l.starts) ≡ started l.programs [] l.starts) × (length l.processes ≤ l.line-index)
