use Rattle.std.proofs.Common.{◌≡◌, ◌++◌, take}
use Rattle.std.specs.List.{flat_map}
use Rattle.picture_print.specs.Svg.{group_text}
use Rattle.picture_print.proofs.printing.put_groups.Given as goal

-- the groups so far were put
abbrev pub invariant-loop-group : goal.invariant-loop-group
invariant-loop-group l = l.out.items ≡ l.fn.out.items ++ flat_map group_text (take l.group-index l.groups)
