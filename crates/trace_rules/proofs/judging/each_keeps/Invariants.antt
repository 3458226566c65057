use Rattle.std.proofs.Common.{drop}
use Rattle.trace_rules.specs.Judging.{Here}
use Rattle.trace_rules.proofs.judging.each_keeps.Given as goal

-- the records so far keep the rule, and are told
abbrev pub invariant-loop-rec : goal.invariant-loop-rec
invariant-loop-rec g l = Here l.fn.c (λ past rec. g.J.LooksBack.test l.fn.c past rec) (g.J.LooksBack.tells l.judge) l.trace (drop l.rec-index l.trace)
