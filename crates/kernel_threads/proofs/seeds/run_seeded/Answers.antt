use Rattle.std.proofs.Common.{rules, subst, ◌≡◌}
use Rattle.kernel_threads.specs.Steps.{Ran}
use Rattle.kernel_threads.proofs.RunLaws.{ran_on}
use Rattle.kernel_threads.proofs.SeedLaws.{draws_on}
use Rattle.kernel_threads.proofs.seeds.run_seeded.Goals as goal

pub draws-preserved : goal.draws-preserved
draws-preserved g c =
    let i = c.draws.invariant in
    let same : c.finish.new.self ≡ c.draws.value = search rules in record {
      run = draws_on g.V.Book.origin g.V.Book.log g.V.Book.holds g.V.Stepped.choices_at g.V.Stepped.has_job_at c.args.kernels c.args.seed i.run.0 c.args.value c.draws.value c.finish.new.self c.take_drawn.new.value c.draws.words c.next_word.new.self c.next_word.result i.run.1 i.run.2 same c.next_word.ensures
          (c.take_drawn.ensures.drew (search rules));
      ran = ran_on g.V.Book.origin g.V.Book.log g.V.Book.holds c.args.kernels c.args.value c.draws.value c.take_drawn.new.value i.ran (subst (λ x. Ran g.V.Book.origin g.V.Book.log g.V.Book.holds c.args.kernels x c.take_drawn.new.value) same c.take_drawn.ensures.ran);
      none_out = search rules;
    }
