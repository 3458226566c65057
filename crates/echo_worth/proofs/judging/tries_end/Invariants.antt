use Rattle.std.proofs.Common.{drop}
use Rattle.trace_rules.specs.Judging.{Here}
use Rattle.echo_worth.specs.Parts.{echo_well}
use Rattle.echo_worth.specs.Told.{TellsKept}
use Rattle.echo_worth.proofs.judging.tries_end.Given as goal

-- the records so far keep the rule, and are told
abbrev pub invariant-loop-rec : goal.invariant-loop-rec
invariant-loop-rec l = Here l.fn.c (λ past r. echo_well l.fn.c past r.kernel r.event) (TellsKept l.fn.c l.kept) l.trace (drop l.rec-index l.trace)
