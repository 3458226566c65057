use Rattle.picture_print.proofs.FormLaws.{printed_is_document}
use Rattle.picture_print.proofs.printing.svg.Goals as goal

pub returns-clause-document : goal.returns-clause-document
returns-clause-document c = printed_is_document c.args.drawing.now c.in_ok-text.text.items c.in_ok-text.ensures
