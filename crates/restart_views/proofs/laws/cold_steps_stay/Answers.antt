use Rattle.restart_views.proofs.CoolLaws.{cold_bare, step_cold, step_sound, step_bytes, step_right}
use Rattle.restart_views.proofs.laws.cold_steps_stay.Goals as goal

pub returns : goal.returns
returns c = record { bare = cold_bare; cold = step_cold; sound = step_sound; bytes = step_bytes; right = step_right }
