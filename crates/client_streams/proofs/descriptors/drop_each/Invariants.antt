use Rattle.std.proofs.Common.{◌≡◌}
use Rattle.client_streams.specs.Descriptors.{drops_under}
use Rattle.client_streams.proofs.descriptors.drop_each.Given as goal

abbrev pub invariant-loop-fd : goal.invariant-loop-fd
invariant-loop-fd l = l.files ≡ drops_under l.fd l.pid l.stream l.fn.files
