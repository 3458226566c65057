use Rattle.std.proofs.Common.{refl, ap, sym, ◌∙◌}
use Rattle.std.specs.Option.{is_some}
use Rattle.cluster_kernels.specs.States.{pids_at}
use Rattle.cluster_bursts.proofs.BeginLaws.{next_says}
use Rattle.cluster_bursts.proofs.bursts.begin_burst.Goals as goal

pub returns-in_ok-job-in-Some-clause-has : goal.returns-in_ok-job-in-Some-clause-has
returns-in_ok-job-in-Some-clause-has c =
    sym (ap is_some c.in-Some.is) ∙ next_says c.args.kernel c.args.state.now c.next_at.result (pids_at c.args.kernel c.args.state.now) refl c.next_at.ensures

pub returns-in-None-clause-has : goal.returns-in-None-clause-has
returns-in-None-clause-has c =
    sym (ap is_some c.in-None.is) ∙ next_says c.args.kernel c.args.state.now c.next_at.result (pids_at c.args.kernel c.args.state.now) refl c.next_at.ensures
