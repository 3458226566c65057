use Rattle.std.proofs.Common.{◌≡◌, ◌++◌, drop}
use Rattle.unix_world.proofs.tree.parts_of.Given as goal

abbrev pub invariant-loop-part : goal.invariant-loop-part
invariant-loop-part l = l.copy ++ drop l.part-index l.parts ≡ l.parts
