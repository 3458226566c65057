use Rattle.std.proofs.Common.{◌≡◌, ◌+◌, length, take}
use Rattle.kernel_rpc.specs.Ports.{AreMarked}
use Rattle.kernel_rpc.proofs.ports.used_ports.Given as goal

-- the ports of the calls so far are marked
abbrev pub invariant-loop-call : goal.invariant-loop-call
invariant-loop-call l = record {
  len : length l.used.items ≡ length l.calls + 1;
  marked : AreMarked l.used.items l.kernel (take l.call-index l.calls);
}
