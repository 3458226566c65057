use Rattle.std.proofs.Common.{codes, ◌≡◌, ◌++◌, take}
use Rattle.std.specs.List.{flat_map}
use Rattle.unix_calls.specs.Output.{escape}
use Rattle.report_print.proofs.consoles.push_console_line.Given as goal

-- the bytes of the line so far are put as they print
abbrev pub invariant-loop-byte : goal.invariant-loop-byte
invariant-loop-byte l = l.out.items ≡ l.fn.out.items ++ codes "| " ++ flat_map escape (take l.byte-index l.line)
