use Rattle.std.proofs.Common.{◌≡◌, drop}
use Rattle.restart_views.specs.Restarts.{answer_of}
use Rattle.server_restart.proofs.keeping.answer_of.Given as goal

abbrev pub invariant-loop-one : goal.invariant-loop-one
invariant-loop-one l = answer_of l.kernel (drop l.one-index l.calls) ≡ answer_of l.kernel l.calls
