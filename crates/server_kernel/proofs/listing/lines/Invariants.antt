use Rattle.std.proofs.Common.{◌≡◌, ◌++◌, map}
use Rattle.std.specs.Map.{keys_of}
use Rattle.server_names.specs.Names.{lines}
use Rattle.server_kernel.proofs.listing.lines.Given as goal

abbrev pub invariant-loop-name : goal.invariant-loop-name
invariant-loop-name l = l.text ++ lines (map (λ name. name.items) l.name-iterator) ≡ lines (map (λ name. name.items) (keys_of l.sorted.entries))
