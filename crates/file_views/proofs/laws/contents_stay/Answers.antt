use Rattle.file_views.proofs.ContentPartLaws.{steps_keep_contents, moves_keep_contents, new_has_contents}
use Rattle.file_views.proofs.laws.contents_stay.Goals as goal

pub returns : goal.returns
returns c = record { new = new_has_contents; steps = steps_keep_contents; moves = moves_keep_contents }
