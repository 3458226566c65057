use Rattle.std.proofs.Common.{◌≡◌}
use Rattle.client_procs.specs.Turning.{gives_turns}
use Rattle.client_procs.proofs.turns.give_all.Given as goal

abbrev pub invariant-loop-done : goal.invariant-loop-done
invariant-loop-done l = l.client ≡ gives_turns l._done l.fn.client
