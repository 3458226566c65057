use Rattle.std.proofs.Common.{rules}
use Rattle.unix_run.proofs.OutcomeLaws.{alone_among}
use Rattle.unix_run.proofs.outcomes.outcome.Goals as goal

pub returns-in_default : goal.returns-in_default
returns-in_default c =
    alone_among c.args.c.now c.args.world.now c.args.ps.now c.args.at c.at_mut.result.now c.args.call.now c.outcome_alone.result c.outcome_alone.new.world c.outcome_alone.new.p c.requires.ascending c.at_mut.ensures.value
    (λ e. search (rules, c.in_default.not-Getppid, e)) (λ e. search (rules, c.in_default.not-Fork, e)) (λ e. search (rules, c.in_default.not-Wait, e)) (λ pid e. search (rules, c.in_default.not-Kill, e))
    c.outcome_alone.ensures
