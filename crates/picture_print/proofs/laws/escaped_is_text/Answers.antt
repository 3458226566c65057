use Rattle.picture_print.proofs.FormLaws.{escaped_is_text}
use Rattle.picture_print.proofs.laws.escaped_is_text.Goals as goal

pub returns : goal.returns
returns c = escaped_is_text
