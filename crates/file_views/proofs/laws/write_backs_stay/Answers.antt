use Rattle.file_views.proofs.WritingMoveLaws.{steps_keep_writing, moves_keep_writing, new_has_writing}
use Rattle.file_views.proofs.laws.write_backs_stay.Goals as goal

pub returns : goal.returns
returns c = record { new = new_has_writing; steps = steps_keep_writing; moves = moves_keep_writing }
