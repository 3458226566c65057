use Rattle.std.proofs.Common.{◌≡◌, take}
use Rattle.sprite_ids.proofs.items.ItemsCopying.copy.Given as goal

-- what was copied so far is what was passed
abbrev pub invariant-loop-item : goal.invariant-loop-item
invariant-loop-item g l = l.copies.items ≡ take l.item-index l.item-items
