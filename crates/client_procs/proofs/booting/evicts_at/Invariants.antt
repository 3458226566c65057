use Rattle.std.proofs.Common.{◌≡◌, drop, ◌++◌}
use Rattle.client_procs.specs.Boot.{evicts_at}
use Rattle.client_procs.proofs.booting.evicts_at.Given as goal

abbrev pub invariant-loop-line : goal.invariant-loop-line
invariant-loop-line l = l.evicts ++ evicts_at l.kernel (drop l.line-index l.lines) ≡ evicts_at l.kernel l.lines
