use Rattle.std.proofs.Common.{◌≡◌, drop}
use Rattle.std.specs.List.{list_any}
use Rattle.unix_calls.specs.ProcessCalls.{is_unwaited}
use Rattle.run_judge.proofs.waiting.has_unwaited.Given as goal

-- none so far is such a child
abbrev pub invariant-loop-child : goal.invariant-loop-child
invariant-loop-child l = list_any (is_unwaited l.parent) (drop l.child-index l.ps) ≡ list_any (is_unwaited l.parent) l.ps
