use Rattle.std.proofs.Common.{◌≡◌, ◌≤◌, ◌*◌, ◌^◌, length}
use Rattle.kernel_threads.specs.Candidates.{candidates_of, Counts}
use Rattle.kernel_threads.proofs.candidates.count.Given as goal

abbrev pub invariant-loop-before : goal.invariant-loop-before
invariant-loop-before g l = record {
  same : l.value ≡ l.fn.value;
  places : length l.counts ≡ 16;
  counts : Counts (g.V.Stepped.choices_at l.fn.value) (g.V.Stepped.has_job_at l.fn.value) l.before l.counts;
  all : l.all ≡ length (candidates_of (g.V.Stepped.choices_at l.fn.value) (g.V.Stepped.has_job_at l.fn.value) l.before);
  bound : l.all ≤ l.before * 2 ^ 64;
}
