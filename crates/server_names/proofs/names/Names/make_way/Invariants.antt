use Rattle.std.proofs.Common.{◌≡◌, [], drop}
use Rattle.server_names.specs.Names.{with_way}
use Rattle.server_names.proofs.names.Names.make_way.Given as goal

abbrev pub invariant-loop-part : goal.invariant-loop-part
invariant-loop-part l = with_way l.self l.here (drop l.part-index l.parts) ≡ with_way l.fn.self [] l.parts
