use Rattle.file_views.proofs.SizeMoveLaws.{steps_keep_sizes, moves_keep_sizes, new_has_sizes}
use Rattle.file_views.proofs.laws.sizes_stay.Goals as goal

pub returns : goal.returns
returns c = record { new = new_has_sizes; steps = steps_keep_sizes; moves = moves_keep_sizes }
