-- A domain's root itself: a directory on both sides, which can be neither made nor taken away.
use Rattle.std.proofs.Common.{◌≡◌, ◌==◌, ℕ, false, cond, List, [], ◌∷◌, ◌++◌, length, Some, None, Ok, Err, refl, sym, ap, ap₂, subst, ◌∙◌, arith, length-append, append-nil}
use Rattle.std.proofs.lemmas.Bool.{cond-false, ne_eqb}
use Rattle.sprite_ids.specs.declared.Errno.TheVariants as errno
use Rattle.unix_calls.specs.declared.state.Node.TheVariants.{Directory}
use Rattle.unix_calls.specs.declared.state.Named.{Named as NamedNode}
use Rattle.unix_calls.specs.Tree.{node_at, walk}
use Rattle.server_names.specs.declared.NameEnd.TheVariants.{Errno as Refused}
use Rattle.server_names.specs.declared.Node.TheVariants.{Dir}
use Rattle.server_names.specs.Names.{Tree, entry_in, found, freed, goes_on, is_at, make_answer, named, parent, removable_found, remove_answer, rename_target, roomy, walked}
use Rattle.tree_laws.specs.Trees.{AreNames, Parts, Ties}
use Rattle.tree_laws.proofs.FindLaws.{found_by}
use Rattle.tree_laws.proofs.WalkLaws.{above_is, last_is, way_walks}
use Rattle.tree_laws.proofs.WellLaws.{ends}

-- a path with one part more isn't `/`
pub some_part : (d : Parts) (part : List ℕ) → (length (d ++ part ∷ []) == 0) ≡ false
some_part d part = ne_eqb (length (d ++ part ∷ [])) 0 (λ e. let more = length-append d (part ∷ []) in omega arith)

-- making a name, by its parts
pub make_by : (tree : Tree) (d : Parts) (part : List ℕ) → make_answer tree (d ++ part ∷ []) ≡ goes_on (walked tree [] d) (goes_on (freed (entry_in tree d part)) (roomy tree d))
make_by tree d part =
    cond-false (length (d ++ part ∷ []) == 0) _ _ (some_part d part)
    ∙ ap₂ (λ (k : Parts) (p : List ℕ). goes_on (walked tree [] k) (goes_on (freed (entry_in tree k p)) (roomy tree k))) (above_is d part) (last_is d part)

-- another name for one, by the parts of the new one
pub target_by : (tree : Tree) (old d : Parts) (part : List ℕ) → rename_target tree old (d ++ part ∷ []) ≡ goes_on (walked tree [] d) (goes_on (freed (entry_in tree d part)) (cond (is_at (parent old) d) (Ok tt) (roomy tree d)))
target_by tree old d part =
    cond-false (length (d ++ part ∷ []) == 0) _ _ (some_part d part)
    ∙ ap₂ (λ (k : Parts) (p : List ℕ). goes_on (walked tree [] k) (goes_on (freed (entry_in tree k p)) (cond (is_at (parent old) k) (Ok tt) (roomy tree k)))) (above_is d part) (last_is d part)

pub record IsThere (root : Parts) (nodes : List NamedNode) (tree : Tree) : Type 0 where
  pub found_is : found tree root ≡ Ok Dir
  pub made_is : make_answer tree root ≡ Err (Refused errno.Exists)
  pub removed_is : remove_answer tree root false ≡ Err (Refused errno.IsDir)
  pub target_is : (old : Parts) → rename_target tree old root ≡ Err (Refused errno.Exists)
  pub way : walk nodes root ≡ None
  pub node : node_at nodes root ≡ Some Directory

there_by : (ties : Ties) (roots : List Parts) (root : Parts) (nodes : List NamedNode) (tree : Tree) (d : Parts) (part : List ℕ) → AreNames ties roots root nodes tree → root ≡ d ++ part ∷ [] → IsThere (d ++ part ∷ []) nodes tree
there_by ties roots root nodes tree d part are e =
    let path = d ++ part ∷ [] in
    let walks = way_walks ties roots root nodes tree are [] d part (sym e) in
    let two = are.way d part (record { rest = []; whole = e ∙ sym (append-nil path) }) in
    let found_is : found tree path ≡ Ok Dir = found_by tree d part ∙ ap (λ r. goes_on r (named (entry_in tree d part))) walks.0 ∙ ap named two.0 in
    record {
      found_is = found_is;
      made_is = make_by tree d part ∙ ap₂ (λ r o. goes_on r (goes_on (freed o) (roomy tree d))) walks.0 two.0;
      removed_is = cond-false (length path == 0) _ _ (some_part d part) ∙ ap (removable_found tree path false) found_is;
      target_is = λ old. target_by tree old d part ∙ ap₂ (λ r o. goes_on r (goes_on (freed o) (cond (is_at (parent old) d) (Ok tt) (roomy tree d)))) walks.0 two.0;
      way = walks.1;
      node = two.1;
    }

pub root_there : (ties : Ties) (roots : List Parts) (root : Parts) (nodes : List NamedNode) (tree : Tree) → AreNames ties roots root nodes tree → IsThere root nodes tree
root_there ties roots [] nodes tree are = record { found_is = refl; made_is = refl; removed_is = refl; target_is = λ old. refl; way = refl; node = refl }
root_there ties roots (part ∷ rest) nodes tree are =
    let end = ends part rest in
    subst (λ (k : Parts). IsThere k nodes tree) (sym end.whole) (there_by ties roots (part ∷ rest) nodes tree end.front end.last are end.whole)
