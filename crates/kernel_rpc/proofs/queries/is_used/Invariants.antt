use Rattle.std.proofs.Common.{◌≡◌, drop}
use Rattle.std.specs.List.{list_any}
use Rattle.kernel_rpc.specs.Machine.{is_at_port}
use Rattle.kernel_rpc.proofs.queries.is_used.Given as goal

-- none so far
abbrev pub invariant-loop-call : goal.invariant-loop-call
invariant-loop-call l = list_any (is_at_port l.kernel l.port) (drop l.call-index l.calls) ≡ list_any (is_at_port l.kernel l.port) l.calls
