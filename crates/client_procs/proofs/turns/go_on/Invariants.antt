use Rattle.std.proofs.Common.{◌≡◌}
use Rattle.client_procs.specs.Turning.{turns}
use Rattle.client_procs.proofs.turns.go_on.Given as goal

abbrev pub invariant-loop-done : goal.invariant-loop-done
invariant-loop-done l = l.client ≡ turns l._done l.fn.client
