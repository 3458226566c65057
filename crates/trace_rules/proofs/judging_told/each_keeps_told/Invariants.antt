use Rattle.std.proofs.Common.{drop}
use Rattle.trace_rules.specs.Judging.{HereWith}
use Rattle.trace_rules.proofs.judging_told.each_keeps_told.Given as goal

-- the records so far keep the rule, and are told
abbrev pub invariant-loop-place : goal.invariant-loop-place
invariant-loop-place g l = HereWith (g.J.LooksBackTold.told_from l.fn.c) l.fn.c (λ past r. g.J.LooksBackTold.test l.fn.c l.fn.trace past r) (g.J.LooksBackTold.tells l.fn.c l.fn.trace l.judge) l.fn.trace (drop l.place l.fn.trace) (drop l.place l.fn.told)
