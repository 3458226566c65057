use Rattle.text_lines.proofs.EndLaws.{line_at, line_whole}
use Rattle.text_lines.proofs.lines.first_line.Goals as goal

pub returns-then-end-text-clause-lines : goal.returns-then-end-text-clause-lines
returns-then-end-text-clause-lines c =
    line_at c.args.text.now c.place_of-end.result c.place_of-end.ensures.place c.if-end-text.true

pub returns-else-end-text-clause-lines : goal.returns-else-end-text-clause-lines
returns-else-end-text-clause-lines c =
    line_whole c.args.text.now c.place_of-end.result c.place_of-end.ensures.place c.place_of-end.ensures.within c.if-end-text.false c.requires
