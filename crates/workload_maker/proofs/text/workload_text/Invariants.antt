use Rattle.std.proofs.Common.{◌≡◌, ◌++◌}
use Rattle.workload_maker.specs.Workloads.{text_of, workers_text}
use Rattle.workload_maker.specs.declared.part.Part.TheVariants as part
use Rattle.workload_maker.proofs.text.workload_text.Given as goal

-- the processes so far were put
abbrev pub invariant-loop-before : goal.invariant-loop-before
invariant-loop-before l = l.text.items ≡ text_of part.Kernels ++ workers_text l.before
