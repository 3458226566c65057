use Rattle.std.proofs.Common.{◌≡◌, ◌≤◌, ◌+◌, drop, length}
use Rattle.unix_calls.specs.Tree.{names_in}
use Rattle.unix_world.proofs.tree.count_in.Given as goal

abbrev pub invariant-loop-named : goal.invariant-loop-named
invariant-loop-named l =
    (l.count + length (names_in (drop l.named-index l.nodes) l.directory) ≡ length (names_in l.nodes l.directory)) × (l.count ≤ l.named-index)
