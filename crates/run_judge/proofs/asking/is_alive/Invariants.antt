use Rattle.std.proofs.Common.{◌≡◌, drop}
use Rattle.std.specs.List.{list_any}
use Rattle.unix_calls.specs.State.{holds_master_of}
use Rattle.run_judge.proofs.asking.is_alive.Given as goal

-- none so far holds it
abbrev pub invariant-loop-process : goal.invariant-loop-process
invariant-loop-process l = list_any (holds_master_of l.streams l.device) (drop l.process-index l.ps) ≡ list_any (holds_master_of l.streams l.device) l.ps
