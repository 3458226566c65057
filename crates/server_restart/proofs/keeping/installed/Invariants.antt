use Rattle.std.proofs.Common.{◌≡◌, filter, take}
use Rattle.restart_views.specs.Restarts.{is_installed}
use Rattle.server_restart.proofs.keeping.installed.Given as goal

abbrev pub invariant-loop-one : goal.invariant-loop-one
invariant-loop-one l = l.streams ≡ filter (is_installed l.kernel l.client) (take l.one-index l.opens)
