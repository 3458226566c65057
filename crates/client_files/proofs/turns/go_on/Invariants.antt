use Rattle.std.proofs.Common.{◌≡◌}
use Rattle.client_files.specs.Turns.{turns}
use Rattle.client_files.proofs.turns.go_on.Given as goal

abbrev pub invariant-loop-done : goal.invariant-loop-done
invariant-loop-done l = l.files ≡ turns l._done l.fn.files
