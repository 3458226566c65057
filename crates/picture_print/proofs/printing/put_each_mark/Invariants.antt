use Rattle.std.proofs.Common.{◌≡◌, ◌++◌, take}
use Rattle.std.specs.List.{flat_map}
use Rattle.picture_print.specs.Svg.{mark_text}
use Rattle.picture_print.proofs.printing.put_each_mark.Given as goal

-- the marks so far were put
abbrev pub invariant-loop-mark : goal.invariant-loop-mark
invariant-loop-mark l = l.out.items ≡ l.fn.out.items ++ flat_map mark_text (take l.mark-index l.marks)
