use Rattle.std.proofs.Common.{drop}
use Rattle.sharing_rules.specs.Judging.{HereOwing}
use Rattle.sharing_rules.proofs.judging.each_is_paid.Given as goal

-- the records so far are told, and what is due is known
abbrev pub invariant-loop-place : goal.invariant-loop-place
invariant-loop-place g l = HereOwing l.fn.c (g.J.Judges.test l.fn.c) (g.J.Judges.tells l.fn.c l.judge) (g.J.Judges.owes l.fn.c l.judge) l.trace (drop l.place l.trace) (drop l.place l.ties) (drop l.place l.facts)
