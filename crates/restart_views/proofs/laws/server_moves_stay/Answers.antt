use Rattle.restart_views.proofs.BareLaws.{bare_sound}
use Rattle.restart_views.proofs.ServerMoveLaws.{served_sound, served_bytes, calm_stood}
use Rattle.restart_views.proofs.laws.server_moves_stay.Goals as goal

pub returns : goal.returns
returns c = record { bare = bare_sound; stays = served_sound; bytes = served_bytes; stood = calm_stood }
