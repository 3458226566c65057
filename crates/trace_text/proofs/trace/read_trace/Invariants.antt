use Rattle.std.proofs.Common.{◌≡◌, ◌++◌, length}
use Rattle.std.specs.List.{AllByRecursion}
use Rattle.trace_text.specs.Traces.{HasLine, trace_of}
use Rattle.trace_text.proofs.trace.read_trace.Given as goal

abbrev pub invariant-loop-from : goal.invariant-loop-from
invariant-loop-from l = record {
  parts : l.fn.text ≡ trace_of l.trace ++ l.from;
  have_lines : AllByRecursion HasLine l.trace;
}

abbrev pub decreases-loop-from : goal.decreases-loop-from
decreases-loop-from l = length l.from
