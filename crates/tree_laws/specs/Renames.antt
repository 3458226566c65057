-- Renaming at the server of a domain is what the one-kernel Unix does.
use Rattle.std.specs.Prelude.{◌≡◌, ◌==◌, true, List, [], ◌∷◌, ◌++◌, ℕ, Ok}
use Rattle.sprite_paths.specs.Path.{IsPrefix}
use Rattle.server_names.specs.declared.Node.{Node}
use Rattle.server_names.specs.Names.{IsSound, Tree, rename_answer, renamed, renamed_node}
use Rattle.unix_calls.specs.Domains.{domain_of}
use Rattle.unix_calls.specs.Tree.{node_at}
use Rattle.unix_calls.specs.State.{Unix}
use Rattle.unix_calls.specs.NameCalls.{moved_to, rename_refusal}
use Rattle.tree_laws.specs.Trees.{AreNames, Parts, Ties}
use Rattle.tree_laws.specs.Laws.{AnswersAs}

-- renaming below a domain's root, where both paths are of one domain
abbrev pub RenamesAsOne : Type 0
RenamesAsOne = (ties : Ties) (u : Unix) (root : Parts) (tree : Tree) (from : Parts) (x : List ℕ) (at : Parts) (part : List ℕ)
    → AreNames ties u.roots root u.nodes tree → IsPrefix root from → IsPrefix root at → (domain_of u.roots (from ++ x ∷ []) == domain_of u.roots (at ++ part ∷ [])) ≡ true
    → AnswersAs (rename_answer tree (from ++ x ∷ []) (at ++ part ∷ [])) (rename_refusal u (from ++ x ∷ []) (at ++ part ∷ []))

abbrev pub RenamedIsSame : Type 0
RenamedIsSame = (ties : Ties) (u : Unix) (root : Parts) (tree : Tree) (from : Parts) (x : List ℕ) (at : Parts) (part : List ℕ) (node : Node)
    → AreNames ties u.roots root u.nodes tree → IsSound tree → IsPrefix root from → IsPrefix root at → renamed_node tree (from ++ x ∷ []) (at ++ part ∷ []) ≡ Ok node
    → AreNames ties u.roots root (moved_to (from ++ x ∷ []) (at ++ part ∷ []) (node_at u.nodes (from ++ x ∷ [])) u).nodes (renamed tree (from ++ x ∷ []) (at ++ part ∷ []) node)
