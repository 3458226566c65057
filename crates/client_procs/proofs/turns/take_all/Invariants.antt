use Rattle.std.proofs.Common.{◌≡◌}
use Rattle.client_procs.specs.Turning.{takes_turns}
use Rattle.client_procs.proofs.turns.take_all.Given as goal

abbrev pub invariant-loop-done : goal.invariant-loop-done
invariant-loop-done l = l.client ≡ takes_turns l._done l.fn.client
