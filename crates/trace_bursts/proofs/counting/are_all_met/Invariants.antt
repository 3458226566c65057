use Rattle.std.proofs.Common.{◌≡◌, drop}
use Rattle.trace_bursts.specs.Counting.{all_met}
use Rattle.trace_bursts.proofs.counting.are_all_met.Given as goal

-- those so far have met what they did
abbrev pub invariant-loop-p : goal.invariant-loop-p
invariant-loop-p l = all_met l.c l.ps l.doings.entries (drop l.p-index l.ps) ≡ all_met l.c l.ps l.doings.entries l.ps
