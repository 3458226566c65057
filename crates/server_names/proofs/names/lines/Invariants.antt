use Rattle.std.proofs.Common.{◌≡◌, ◌++◌, drop, map}
use Rattle.server_names.specs.Names.{lines}
use Rattle.server_names.proofs.names.lines.Given as goal

abbrev pub invariant-loop-name : goal.invariant-loop-name
invariant-loop-name l = l.text.items ++ lines (map (λ name. name.items) (drop l.name-index l.names)) ≡ lines (map (λ name. name.items) l.names)
