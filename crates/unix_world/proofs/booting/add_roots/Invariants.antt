use Rattle.std.proofs.Common.{◌≡◌, drop}
use Rattle.unix_calls.specs.Boot.{with_roots}
use Rattle.unix_world.proofs.booting.add_roots.Given as goal

abbrev pub invariant-loop-root : goal.invariant-loop-root
invariant-loop-root l = with_roots (drop l.root-index l.roots) l.nodes ≡ with_roots l.roots l.fn.nodes
