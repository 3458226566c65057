use Rattle.std.proofs.Common.{◌≡◌, ◌++◌, drop}
use Rattle.unix_calls.specs.Domains.{roots_of}
use Rattle.server_kernel.proofs.boot.roots_of.Given as goal

abbrev pub invariant-loop-line : goal.invariant-loop-line
invariant-loop-line l = l.roots ++ roots_of (drop l.line-index l.lines) ≡ roots_of l.lines
