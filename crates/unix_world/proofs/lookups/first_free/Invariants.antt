use Rattle.std.proofs.Common.{◌≡◌, drop}
use Rattle.unix_calls.specs.State.{free_from}
use Rattle.unix_world.proofs.lookups.first_free.Given as goal

abbrev pub invariant-loop-fd : goal.invariant-loop-fd
invariant-loop-fd l = free_from l.fd (drop l.fd l.descriptors) ≡ free_from 0 l.descriptors
