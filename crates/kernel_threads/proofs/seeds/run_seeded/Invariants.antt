use Rattle.std.proofs.Common.{◌≡◌, ℕ, ◌-◌, length}
use Rattle.kernel_threads.specs.Steps.{Ran}
use Rattle.kernel_threads.specs.Seeds.{Draws, after, made_by}
use Rattle.kernel_threads.proofs.seeds.run_seeded.Given as goal

abbrev pub invariant-draws : goal.invariant-draws
invariant-draws g l = record {
  run : (n : ℕ) × (l.words ≡ after n (made_by l.seed)) × Draws g.V.Book.origin g.V.Book.log g.V.Book.holds g.V.Stepped.choices_at g.V.Stepped.has_job_at l.kernels (made_by l.seed) n l.fn.value l.value;
  ran : Ran g.V.Book.origin g.V.Book.log g.V.Book.holds l.kernels l.fn.value l.value;
  none_out : g.V.Stepped.out l.value ≡ 0;
}

abbrev pub decreases-draws : goal.decreases-draws
decreases-draws g l = 4000000 - length (g.V.Book.log l.value)
