use Rattle.std.proofs.Common.{◌≡◌, take}
use Rattle.file_views.specs.Setting.{sprite_setting}
use Rattle.file_views.specs.Possible.{played}
use Rattle.file_coherence.specs.Runs.{all_entered}
use Rattle.file_coherence.proofs.one_file.play_all.Given as goal

abbrev pub invariant-loop-step : goal.invariant-loop-step
invariant-loop-step l = (l.view ≡ played sprite_setting l.fn.view (take l.step-index l.steps)) × (l.noted ≡ all_entered sprite_setting l.fn.view (take l.step-index l.steps))
