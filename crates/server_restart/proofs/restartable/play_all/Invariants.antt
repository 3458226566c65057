use Rattle.std.proofs.Common.{◌≡◌, take}
use Rattle.file_views.specs.Setting.{sprite_setting}
use Rattle.restart_views.specs.Restarts.{all_restarted, all_told}
use Rattle.server_restart.proofs.restartable.play_all.Given as goal

abbrev pub invariant-loop-step : goal.invariant-loop-step
invariant-loop-step l = (l.state ≡ all_restarted sprite_setting l.fn.state (take l.step-index l.steps)) × (l.outcomes ≡ all_told sprite_setting l.fn.state (take l.step-index l.steps))
