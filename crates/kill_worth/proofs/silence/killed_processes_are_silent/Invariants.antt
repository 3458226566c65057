use Rattle.std.proofs.Common.{drop}
use Rattle.kill_worth.specs.Known.{Hearing}
use Rattle.kill_worth.proofs.silence.killed_processes_are_silent.Given as goal

-- the processes are silent so far, and what is known is told
abbrev pub invariant-loop-rec : goal.invariant-loop-rec
invariant-loop-rec l = Hearing l.c l.judge l.trace (drop l.rec-index l.trace)
