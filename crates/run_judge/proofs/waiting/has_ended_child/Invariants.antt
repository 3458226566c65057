use Rattle.std.proofs.Common.{◌≡◌, drop}
use Rattle.std.specs.List.{list_any}
use Rattle.run_judge.specs.Waiting.{is_ended_child}
use Rattle.run_judge.proofs.waiting.has_ended_child.Given as goal

-- none so far is such a child
abbrev pub invariant-loop-child : goal.invariant-loop-child
invariant-loop-child l = list_any (is_ended_child l.parent) (drop l.child-index l.ps) ≡ list_any (is_ended_child l.parent) l.ps
