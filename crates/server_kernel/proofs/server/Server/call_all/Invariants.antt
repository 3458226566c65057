use Rattle.std.proofs.Common.{◌≡◌, drop}
use Rattle.server_kernel.specs.Grants.{calls_all}
use Rattle.server_kernel.proofs.server.Server.call_all.Given as goal

abbrev pub invariant-loop-call : goal.invariant-loop-call
invariant-loop-call l = calls_all l.asked (drop l.call-index l.calls) l.self ≡ calls_all l.asked l.calls l.fn.self
