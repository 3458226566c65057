use Rattle.std.proofs.Common.{◌≡◌, ◌++◌, map}
use Rattle.restart_views.specs.declared.Outcome.TheVariants.{Event}
use Rattle.server_restart.proofs.stepping.tell_all.Given as goal

-- what was gone through so far was told
abbrev pub invariant-loop-entered : goal.invariant-loop-entered
invariant-loop-entered l = l.outcomes ≡ l.fn.outcomes ++ map Event l.yielded
