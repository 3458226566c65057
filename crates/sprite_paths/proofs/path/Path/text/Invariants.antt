use Rattle.std.proofs.Common.{◌≡◌, take}
use Rattle.sprite_paths.specs.Path.{joined}
use Rattle.sprite_paths.proofs.path.Path.text.Given as goal

abbrev pub invariant-loop-part : goal.invariant-loop-part
invariant-loop-part l = l.text.items ≡ joined (take l.part-index l.part-items)
