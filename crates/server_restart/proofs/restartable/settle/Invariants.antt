use Rattle.std.proofs.Common.{◌≡◌, ◌++◌}
use Rattle.file_views.specs.Setting.{sprite_setting}
use Rattle.restart_views.specs.Restarts.{settled_in, told_in}
use Rattle.server_restart.proofs.restartable.settle.Given as goal

abbrev pub invariant-loop-done : goal.invariant-loop-done
invariant-loop-done l = (l.state ≡ settled_in sprite_setting l._done l.fn.state) × (l.outcomes ≡ l.fn.outcomes ++ told_in sprite_setting l._done l.fn.state)
