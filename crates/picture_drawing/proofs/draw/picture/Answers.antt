use Rattle.std.proofs.Common.{ℕ, List, ◌-◌, take, drop, subst}
use Rattle.std.proofs.lemmas.List.{take_rest}
use Rattle.unix_calls.specs.declared.event.Rec.{Rec}
use Rattle.picture_drawing.specs.Records.{IsDrawn}
use Rattle.picture_drawing.proofs.PictureLaws.{picture_of}
use Rattle.picture_drawing.proofs.draw.picture.Goals as goal

pub returns-clause-drawn : goal.returns-clause-drawn
returns-clause-drawn c =
    let records = c.args.records.now in
    let first = c.args.wanted.now.first in
    let count = c.args.wanted.now.count in
    let groups = c.in_ok-drawing.drawing.groups.items in
    let behind = subst (λ (recs : List Rec). IsDrawn first (take c.from.result recs) groups) (take_rest records (first - 1)) c.in_ok-drawing.ensures in
    let drawn = subst (λ (n : ℕ). IsDrawn first (take n (drop (first - 1) records)) groups) c.from.ensures behind in
    picture_of first (take count (drop (first - 1) records)) c.in_ok-drawing.drawing c.svg.result drawn c.svg.ensures.printed
