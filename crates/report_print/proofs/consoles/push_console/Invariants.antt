use Rattle.std.proofs.Common.{◌≡◌, ◌++◌, length}
use Rattle.std.specs.List.{flat_map}
use Rattle.unix_calls.specs.Output.{lines_of}
use Rattle.unix_calls.specs.Output.{console_line}
use Rattle.report_print.proofs.consoles.push_console.Given as goal

-- what was put so far, and then the lines of the rest, is all that is to be put
abbrev pub invariant-loop-rest : goal.invariant-loop-rest
invariant-loop-rest l =
    l.out.items ++ flat_map console_line (lines_of l.rest) ≡ l.fn.out.items ++ flat_map console_line (lines_of l.fn.console)

abbrev pub decreases-loop-rest : goal.decreases-loop-rest
decreases-loop-rest l = length l.rest
