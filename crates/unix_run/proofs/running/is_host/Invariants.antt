use Rattle.std.proofs.Common.{◌≡◌, drop}
use Rattle.unix_calls.specs.ProcessCalls.{is_host}
use Rattle.unix_run.proofs.running.is_host.Given as goal

abbrev pub invariant-loop-line : goal.invariant-loop-line
invariant-loop-line l = is_host (drop l.line-index l.lines) l.name ≡ is_host l.lines l.name
