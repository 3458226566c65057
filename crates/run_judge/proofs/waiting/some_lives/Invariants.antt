use Rattle.std.proofs.Common.{◌≡◌, drop}
use Rattle.std.specs.List.{list_any}
use Rattle.unix_calls.specs.State.{lives}
use Rattle.run_judge.proofs.waiting.some_lives.Given as goal

-- none so far lives
abbrev pub invariant-loop-process : goal.invariant-loop-process
invariant-loop-process l = list_any lives (drop l.process-index l.ps) ≡ list_any lives l.ps
