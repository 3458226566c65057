use Rattle.std.proofs.Common.{◌≡◌, drop}
use Rattle.client_procs.specs.Boot.{starts_all}
use Rattle.client_procs.proofs.booting.start_all.Given as goal

abbrev pub invariant-loop-line : goal.invariant-loop-line
invariant-loop-line l = starts_all l.programs (drop l.line-index l.lines) l.begun ≡ starts_all l.programs l.lines l.fn.begun
