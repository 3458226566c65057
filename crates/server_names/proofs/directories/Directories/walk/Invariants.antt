use Rattle.std.proofs.Common.{◌≡◌, [], drop}
use Rattle.server_names.specs.Names.{walked}
use Rattle.server_names.proofs.directories.Directories.walk.Given as goal

abbrev pub invariant-loop-part : goal.invariant-loop-part
invariant-loop-part l = walked l.self l.here (drop l.part-index l.parts) ≡ walked l.self [] l.parts
