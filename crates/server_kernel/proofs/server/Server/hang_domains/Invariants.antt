use Rattle.std.proofs.Common.{◌≡◌, Some}
use Rattle.server_kernel.specs.Boot.{all_hung}
use Rattle.server_kernel.proofs.server.Server.hang_domains.Given as goal

abbrev pub invariant-loop-done : goal.invariant-loop-done
invariant-loop-done l = all_hung l.serves l.done l.fn.self ≡ Some l.self
