use Rattle.std.proofs.Common.{◌≡◌}
use Rattle.server_kernel.specs.Waits.{turns}
use Rattle.server_kernel.proofs.server.Server.serve_waiting.Given as goal

abbrev pub invariant-loop-done : goal.invariant-loop-done
invariant-loop-done l = l.self ≡ turns l._done l.file l.fn.self
