use Rattle.std.proofs.Common.{◌≡◌, take}
use Rattle.server_names.proofs.name.Name.of.Given as goal

abbrev pub invariant-loop-part : goal.invariant-loop-part
invariant-loop-part l = l.name ≡ take l.part-index l.parts
