use Rattle.std.proofs.Common.{rules}
use Rattle.kernel_threads.proofs.CandidateLaws.{candidate_there, goes_past}
use Rattle.kernel_threads.proofs.candidates.candidate_at.Goals as goal

pub returns-then-from-count-clause-candidate : goal.returns-then-from-count-clause-candidate
returns-then-from-count-clause-candidate g c = candidate_there (g.V.Stepped.choices_at c.args.value.now) (g.V.Stepped.has_job_at c.args.value.now) c.loop-before.before c.args.kernels c.loop-before.left c.args.place c.candidate_of.result (search rules) c.loop-before.invariant c.candidate_of.ensures.candidate

pub loop-before-preserved : goal.loop-before-preserved
loop-before-preserved g c = goes_past (g.V.Stepped.choices_at c.args.value.now) (g.V.Stepped.has_job_at c.args.value.now) c.loop-before.before c.loop-before.left c.args.place c.args.counts (c.requires.counts.each c.loop-before.before c.loop-before-test.true) (search rules) c.loop-before.invariant
