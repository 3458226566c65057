use Rattle.std.proofs.Common.{refl}
use Rattle.picture_print.specs.declared.drawing.Group.{Group}
use Rattle.picture_drawing.proofs.RowLaws.{record_shown}
use Rattle.picture_drawing.proofs.marks.group_of.Goals as goal

pub returns : goal.returns
returns c =
    let group : Group = record { number = c.args.number; hint = c.in_ok-hint.hint; figures = c.put_record.new.out } in
    record_shown c.args.view.now.layout.legend c.args.row c.args.number c.args.rec.now group c.new-figures.result.items c.new-figures.ensures.items refl c.in_ok-hint.ensures c.in_ok-put_record.ensures
