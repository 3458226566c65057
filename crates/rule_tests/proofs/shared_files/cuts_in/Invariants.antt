use Rattle.std.proofs.Common.{◌≡◌, ◌++◌, drop}
use Rattle.trace_judge.specs.Cuts.{cuts_in}
use Rattle.rule_tests.proofs.shared_files.cuts_in.Given as goal

-- those so far, and those of what is left
abbrev pub invariant-loop-fact : goal.invariant-loop-fact
invariant-loop-fact l = l.cuts.items ++ cuts_in (drop l.fact-index l.facts) ≡ cuts_in l.facts
