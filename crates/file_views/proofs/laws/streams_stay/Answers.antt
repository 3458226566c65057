use Rattle.file_views.proofs.StreamReplyLaws.{steps_keep_streams}
use Rattle.file_views.proofs.StreamMoveLaws.{moves_keep_streams, new_has_streams}
use Rattle.file_views.proofs.laws.streams_stay.Goals as goal

pub returns : goal.returns
returns c = record { new = new_has_streams; steps = steps_keep_streams; moves = moves_keep_streams }
