use Rattle.std.proofs.Common.{◌≡◌, ◌++◌, take}
use Rattle.std.specs.List.{AllByRecursion, flat_map}
use Rattle.wire_format.proofs.parts.put_items.Given as goal

-- what was there, and the items so far
abbrev pub invariant-loop-item : goal.invariant-loop-item
invariant-loop-item g l = record {
  put : l.out.items ≡ l.fn.out.items ++ flat_map g.T.Field.codec.spelled (take l.item-index l.items);
  fit : AllByRecursion g.T.Field.codec.Fits (take l.item-index l.items);
}
