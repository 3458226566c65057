-- Two domains, and two files in them.
use Rattle.std.specs.Prelude.{◌≡◌, false, List, [], ◌∷◌, codes, Ok}
use Rattle.server_names.specs.declared.Entry.TheVariants.{Node as Named, Link}
use Rattle.server_names.specs.declared.Node.TheVariants.{Dir, File}
use Rattle.unix_calls.specs.declared.FileLine.{FileLine}
use Rattle.unix_calls.specs.declared.state.FileName.TheVariants.{Boot}
use Rattle.tree_laws.specs.Trees.{Parts, Ties}
use Rattle.flat_tree.specs.Opening.{opened_from}

-- `/` and `/a`
abbrev pub two_roots : List Parts
two_roots = [] ∷ (codes "a" ∷ []) ∷ []

-- `/a/f` and `/b/g`
abbrev pub two_lines : List FileLine
two_lines =
    record { path = codes "a" ∷ codes "f" ∷ []; bytes = []; append = false }
    ∷ record { path = codes "b" ∷ codes "g" ∷ []; bytes = []; append = false } ∷ []

-- `/` begins with a remote link at `/a` and with the directory `/b`, in which is the second file; `/a` with the first
pub record BeginSo (ties : Ties) : Type 0 where
  pub root : opened_from ties two_roots two_lines [] ≡ Ok (([], (codes "a", Link (codes "a" ∷ [])) ∷ (codes "b", Named Dir) ∷ []) ∷ (codes "b" ∷ [], (codes "g", Named (File (ties.file (Boot 1)))) ∷ []) ∷ [])
  pub other : opened_from ties two_roots two_lines (codes "a" ∷ []) ≡ Ok (([], (codes "a", Named Dir) ∷ []) ∷ (codes "a" ∷ [], (codes "f", Named (File (ties.file (Boot 0)))) ∷ []) ∷ [])

abbrev pub TwoDomainsBegin : Type 0
TwoDomainsBegin = (ties : Ties) → BeginSo ties
