use Rattle.std.proofs.Common.{◌≡◌, take}
use Rattle.trace_text.specs.Traces.{trace_of}
use Rattle.trace_text.proofs.trace.print_trace.Given as goal

-- the lines of the records so far were put
abbrev pub invariant-loop-record : goal.invariant-loop-record
invariant-loop-record l = l.out.items ≡ trace_of (take l.record-index l.records)
