use Rattle.std.proofs.Common.{◌≡◌, drop}
use Rattle.unix_calls.specs.ProcessCalls.{program_named}
use Rattle.unix_run.proofs.running.program_named.Given as goal

abbrev pub invariant-loop-line : goal.invariant-loop-line
invariant-loop-line l = program_named (drop l.line-index l.lines) l.name ≡ program_named l.lines l.name
