use Rattle.std.proofs.Common.{◌≡◌, Bool, IfOk, subst}
use Rattle.trace_bursts.specs.CountingLaws.{counts_break, counts_end}
use Rattle.trace_bursts.proofs.counting.Counts.are_met.Goals as goal

pub returns-then-not-self : goal.returns-then-not-self
returns-then-not-self c = counts_break c.args.c.now c.args.trace.now c.args.ps.now c.args.self.now c.if-not-self.true c.requires

pub returns : goal.returns
returns c =
    subst (λ (b : Bool). IfOk c.are_all_met.result (λ (met : Bool). met ≡ b)) (counts_end c.args.c.now c.args.trace.now c.args.ps.now c.args.self.now c.if-not-self.false c.requires) c.are_all_met.ensures
