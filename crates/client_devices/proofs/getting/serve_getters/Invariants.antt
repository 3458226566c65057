use Rattle.std.proofs.Common.{◌≡◌}
use Rattle.client_devices.specs.Getting.{turns}
use Rattle.client_devices.proofs.getting.serve_getters.Given as goal

abbrev pub invariant-loop-done : goal.invariant-loop-done
invariant-loop-done l = l.client ≡ turns l._done l.device l.fn.client
