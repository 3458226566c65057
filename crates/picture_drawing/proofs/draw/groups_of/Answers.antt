use Rattle.std.proofs.Common.{◌≡◌, ◌∙◌, suc, ◌+◌, ◌∷◌, ◌++◌, List, map, drop, sym, ap, add-one, drop-cons}
use Rattle.unix_calls.specs.declared.event.Rec.{Rec}
use Rattle.picture_print.specs.declared.drawing.Group.{Group}
use Rattle.picture_drawing.specs.Records.{all_shown, shown_by}
use Rattle.picture_drawing.proofs.RowLaws.{more_shown}
use Rattle.picture_drawing.proofs.draw.groups_of.Goals as goal

pub loop-row-preserved : goal.loop-row-preserved
loop-row-preserved c =
    let shown = c.args.shown.now in
    let legend = c.args.view.now.layout.legend in
    let first = c.args.wanted.now.first in
    let row = c.loop-row.row in
    let r = c.index-shown-row.result in
    let cut : drop row shown ≡ r ∷ drop (row + 1) shown = rw add-one (drop-cons shown row r c.loop-row-test.true ∙ ap (λ (x : Rec). x ∷ drop (suc row) shown) (sym c.index-shown-row.is)) in
    let more = more_shown legend first row c.loop-row.groups.items c.in_ok-group_of.field-0 shown r cut c.in_ok-group_of.ensures in
    ap (λ (groups : List Group). map shown_by groups ++ all_shown legend (row + 1) (first + (row + 1)) (drop (row + 1) shown)) c.in_ok-push.ensures.items
    ∙ more ∙ c.loop-row.invariant
