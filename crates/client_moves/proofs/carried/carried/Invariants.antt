use Rattle.std.proofs.Common.{◌≡◌}
use Rattle.client_moves.specs.Carrying.{carried_upto}
use Rattle.client_moves.proofs.carried.carried.Given as goal

abbrev pub invariant-loop-fd : goal.invariant-loop-fd
invariant-loop-fd l = l.items ≡ carried_upto l.fd l.pid l.client
