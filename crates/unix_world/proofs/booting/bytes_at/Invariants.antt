use Rattle.std.proofs.Common.{◌≡◌, ◌++◌, drop}
use Rattle.unix_calls.specs.Boot.{bytes_at}
use Rattle.unix_world.proofs.booting.bytes_at.Given as goal

abbrev pub invariant-loop-line : goal.invariant-loop-line
invariant-loop-line l = l.bytes ++ bytes_at (drop l.line-index l.lines) l.path ≡ bytes_at l.lines l.path
