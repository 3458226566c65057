use Rattle.std.proofs.Common.{rules}
use Rattle.kernel_threads.proofs.CandidateLaws.{some_candidate}
use Rattle.kernel_threads.proofs.RunLaws.{ran_candidate}
use Rattle.kernel_threads.proofs.seeds.take_drawn.Goals as goal

pub draw-requires-clause-some : goal.draw-requires-clause-some
draw-requires-clause-some g c = some_candidate (g.V.Stepped.choices_at c.args.value.now) (g.V.Stepped.has_job_at c.args.value.now) c.args.kernels c.requires.moves

pub returns-clause-ran : goal.returns-clause-ran
returns-clause-ran g c =
    let f = c.in-Ok.ensures.fits in ran_candidate g.V.Book.origin g.V.Book.log g.V.Book.holds c.args.kernels g.V.Stepped.finish_of c.happens.result c.in-Ok.candidate.kernel c.args.value.now c.draw.new.value c.happens.new.value (search rules) f.low f.high c.happens.ensures.adds c.happens.ensures.over
