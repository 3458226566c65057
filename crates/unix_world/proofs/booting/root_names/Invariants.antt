use Rattle.std.proofs.Common.{◌≡◌, [], drop}
use Rattle.unix_calls.specs.Boot.{with_roots}
use Rattle.unix_calls.specs.Domains.{roots_of}
use Rattle.unix_world.proofs.booting.root_names.Given as goal

abbrev pub invariant-loop-line : goal.invariant-loop-line
invariant-loop-line l = with_roots (roots_of (drop l.line-index l.lines)) l.nodes ≡ with_roots (roots_of l.lines) []
