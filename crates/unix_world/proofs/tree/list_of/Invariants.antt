use Rattle.std.proofs.Common.{◌≡◌, ◌∷◌, ◌++◌, [], drop}
use Rattle.std.specs.List.{flat_map}
use Rattle.unix_calls.specs.Tree.{names_in}
use Rattle.unix_world.proofs.tree.list_of.Given as goal

abbrev pub invariant-loop-named : goal.invariant-loop-named
invariant-loop-named l =
    l.text ++ flat_map (λ name. name ++ 10 ∷ []) (names_in (drop l.named-index l.nodes) l.directory)
    ≡ flat_map (λ name. name ++ 10 ∷ []) (names_in l.nodes l.directory)
