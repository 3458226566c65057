use Rattle.std.proofs.Common.{◌≡◌, ◌++◌, take}
use Rattle.std.specs.List.{flat_map}
use Rattle.picture_print.specs.Svg.{figure_text}
use Rattle.picture_print.proofs.printing.put_figures.Given as goal

-- the figures so far were put
abbrev pub invariant-loop-figure : goal.invariant-loop-figure
invariant-loop-figure l = l.out.items ≡ l.fn.out.items ++ flat_map figure_text (take l.figure-index l.figures)
