use Rattle.std.proofs.Common.{◌≡◌, ◌+◌, length}
use Rattle.kernel_threads.specs.Candidates.{candidates_of}
use Rattle.kernel_threads.proofs.candidates.candidate_at.Given as goal

abbrev pub invariant-loop-before : goal.invariant-loop-before
invariant-loop-before g l = l.place ≡ length (candidates_of (g.V.Stepped.choices_at l.value) (g.V.Stepped.has_job_at l.value) l.before) + l.left
