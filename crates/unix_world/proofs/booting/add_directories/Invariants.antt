use Rattle.std.proofs.Common.{◌≡◌, drop, take}
use Rattle.unix_calls.specs.Boot.{with_directories, with_parts}
use Rattle.unix_world.proofs.booting.add_directories.Given as goal

abbrev pub invariant-loop-count : goal.invariant-loop-count
invariant-loop-count l = with_parts (take l.count l.path) (drop l.count l.path) l.nodes ≡ with_directories l.path l.fn.nodes
