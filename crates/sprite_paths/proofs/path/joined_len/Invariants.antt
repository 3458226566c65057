use Rattle.std.proofs.Common.{◌≡◌, ◌≤◌, ◌*◌, length, take}
use Rattle.sprite_paths.specs.Path.{joined}
use Rattle.sprite_paths.proofs.path.joined_len.Given as goal

abbrev pub invariant-loop-part : goal.invariant-loop-part
invariant-loop-part l = record {
  counted : l.len ≡ length (joined (take l.part-index l.parts));
  small : l.len ≤ 33 * l.part-index;
}
