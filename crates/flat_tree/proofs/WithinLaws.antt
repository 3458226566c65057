-- Paths of a domain: its root's, and those below it.
use Rattle.std.proofs.Common.{◌≡◌, ℕ, List, [], ◌∷◌, ◌++◌, refl, sym, ap, ◌∙◌, append_assoc, append-nil}
use Rattle.sprite_paths.specs.Path.{IsPrefix}
use Rattle.tree_laws.specs.Trees.{Parts}
use Rattle.tree_laws.proofs.WellLaws.{ends}

-- a path of a domain is its root's, or has one part more than one
pub data Within (root path : Parts) : Type 0 where
  AtRoot : path ≡ root → Within root path
  Below : (directory : Parts) (part : List ℕ) → IsPrefix root directory → path ≡ directory ++ part ∷ [] → Within root path

within_by : (root path rest : Parts) → path ≡ root ++ rest → Within root path
within_by root path [] e = AtRoot (e ∙ append-nil root)
within_by root path (part ∷ rest) e =
    let end = ends part rest in
    Below (root ++ end.front) end.last (record { rest = end.front; whole = refl }) (e ∙ ap (λ (l : Parts). root ++ l) end.whole ∙ sym (append_assoc root end.front (end.last ∷ [])))

pub within : (root path : Parts) → IsPrefix root path → Within root path
within root path below = within_by root path below.rest below.whole
