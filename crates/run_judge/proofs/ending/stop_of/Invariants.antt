use Rattle.std.proofs.Common.{◌≡◌, ◌≤◌, drop}
use Rattle.unix_world.specs.Worlds.{unix_of}
use Rattle.run_judge.specs.Ends.{stop_from}
use Rattle.run_judge.proofs.ending.stop_of.Given as goal

-- the processes so far have ended or are blocked
abbrev pub invariant-loop-p : goal.invariant-loop-p
invariant-loop-p l =
    (stop_from l.c l.most l.cost (unix_of l.c l.world l.ps) (drop l.p-index l.ps) ≡ stop_from l.c l.most 0 (unix_of l.c l.world l.ps) l.ps)
    × (l.cost ≤ l.most)
