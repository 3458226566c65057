use Rattle.file_views.proofs.ShapeStepLaws.{steps_keep_shapes}
use Rattle.file_views.proofs.ShapeMoveLaws.{moves_keep_shapes, new_has_shapes}
use Rattle.file_views.proofs.laws.shapes_stay.Goals as goal

pub returns : goal.returns
returns c = record { new = new_has_shapes; steps = steps_keep_shapes; moves = moves_keep_shapes }
