use Rattle.std.proofs.Common.{◌≡◌}
use Rattle.file_views.specs.Setting.{sprite_setting}
use Rattle.restart_views.specs.Restarts.{keep_to}
use Rattle.server_restart.proofs.keeping.keep_all.Given as goal

abbrev pub invariant-loop-place : goal.invariant-loop-place
invariant-loop-place l = l.all ≡ keep_to sprite_setting l.view l.kept l.place
