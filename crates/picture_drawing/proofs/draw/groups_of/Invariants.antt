use Rattle.std.proofs.Common.{◌≡◌, ◌++◌, ◌+◌, drop, map}
use Rattle.picture_drawing.specs.Records.{all_shown, shown_by}
use Rattle.picture_drawing.proofs.draw.groups_of.Given as goal

-- what the groups so far show, and then what is to be shown of the records that are left, is what is to be shown of all
abbrev pub invariant-loop-row : goal.invariant-loop-row
invariant-loop-row l = map shown_by l.groups.items ++ all_shown l.view.layout.legend l.row (l.first + l.row) (drop l.row l.shown) ≡ all_shown l.view.layout.legend 0 l.first l.shown
