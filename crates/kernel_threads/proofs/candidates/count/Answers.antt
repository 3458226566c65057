use Rattle.std.proofs.Common.{◌<◌, length, arith, rules}
use Rattle.kernel_threads.proofs.CandidateLaws.{all_more, counts_more}
use Rattle.kernel_threads.proofs.candidates.count.Goals as goal

pub loop-before-preserved : goal.loop-before-preserved
loop-before-preserved g c =
    let i = c.loop-before.invariant in
    let few : c.loop-before.before < c.args.kernels = c.loop-before-test.true in
    let inside : c.loop-before.before < length c.loop-before.counts = omega (arith, few, i.places, c.requires.few) in
    record {
      same = search rules;
      places = search rules;
      counts = counts_more g.V.Stepped.choices_at g.V.Stepped.has_job_at c.args.value.now c.loop-before.value c.loop-before.before c.loop-before.counts c.in_ok-count.count i.same inside i.counts c.in_ok-count.ensures.count;
      all = all_more g.V.Stepped.choices_at g.V.Stepped.has_job_at c.args.value.now c.loop-before.value c.loop-before.before c.loop-before.all c.in_ok-count.count i.same i.all c.in_ok-count.ensures.count;
      bound = search rules;
    }
