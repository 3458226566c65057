-- The text that a server's listing gives is that of the one-kernel Unix.
use Rattle.std.specs.Prelude.{◌≡◌, true, List, [], ◌∷◌, ℕ, Ok}
use Rattle.std.specs.List.{AllByRecursion}
use Rattle.sprite_paths.specs.Path.{IsPrefix}
use Rattle.server_names.specs.Names.{IsListing, IsSound, Tree, count_answer}
use Rattle.unix_calls.specs.declared.state.Named.{Named as NamedNode}
use Rattle.unix_calls.specs.Tree.{path_before}
use Rattle.unix_calls.specs.State.{Unix}
use Rattle.unix_calls.specs.NameCalls.{listing}
use Rattle.tree_laws.specs.Trees.{AreNames, Parts, Ties}

-- the names stand in the order of their paths, each path once
abbrev pub AreAscending : List NamedNode → Type 0
AreAscending [] = Unit {0}
AreAscending (first ∷ rest) = AllByRecursion (λ (n : NamedNode). path_before first.path n.path ≡ true) rest × AreAscending rest

-- a directory of the domain that its server lists has that text in the one-kernel Unix
abbrev pub ListsAsOne : Type 0
ListsAsOne = (ties : Ties) (u : Unix) (root : Parts) (tree : Tree) (directory : Parts) (many : ℕ) (text : List ℕ)
    → AreNames ties u.roots root u.nodes tree → IsSound tree → AreAscending u.nodes → IsPrefix root directory
    → count_answer tree directory ≡ Ok many → IsListing tree directory text → text ≡ listing u directory
