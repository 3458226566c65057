use Rattle.std.proofs.Common.{◌≡◌, take}
use Rattle.std.specs.List.{flat_map}
use Rattle.unix_calls.specs.Output.{process_text}
use Rattle.report_print.proofs.printing.output.Given as goal

-- the texts of the processes so far were put
abbrev pub invariant-loop-process : goal.invariant-loop-process
invariant-loop-process l = l.out.items ≡ flat_map (process_text l.description) (take l.process-index l.processes)
