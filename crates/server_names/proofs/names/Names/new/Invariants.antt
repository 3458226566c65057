use Rattle.std.proofs.Common.{◌≡◌, [], drop}
use Rattle.server_names.specs.Names.{hung_all}
use Rattle.server_names.proofs.names.Names.new.Given as goal

abbrev pub invariant-loop-link : goal.invariant-loop-link
invariant-loop-link l = hung_all l.names (drop l.link-index l.links) ≡ hung_all [] l.fn.links
