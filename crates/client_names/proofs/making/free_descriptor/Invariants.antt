use Rattle.std.proofs.Common.{◌≡◌}
use Rattle.client_names.specs.Making.{free_under}
use Rattle.client_names.proofs.making.free_descriptor.Given as goal

abbrev pub invariant-loop-fd : goal.invariant-loop-fd
invariant-loop-fd l = l.free ≡ free_under l.files.streams.owners l.pid l.fd
