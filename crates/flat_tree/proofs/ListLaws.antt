-- The text of a listing.
use Rattle.std.proofs.Common.{◌≡◌, ℕ, List, [], ◌∷◌, ◌++◌, Option, Some, None, Result, Ok, Err, refl, sym, ap, subst, ◌∙◌}
use Rattle.std.specs.Option.{is_some}
use Rattle.sprite_paths.specs.Path.{IsPrefix}
use Rattle.unix_calls.specs.declared.state.Node.{Node as UnixNode}
use Rattle.unix_calls.specs.declared.state.Named.{Named as NamedNode}
use Rattle.unix_calls.specs.Tree.{names_in as unix_names_in, node_at, walk_from}
use Rattle.server_names.specs.declared.NameEnd.{NameEnd}
use Rattle.server_names.specs.declared.Node.{Node}
use Rattle.server_names.specs.declared.Node.TheVariants.{Dir, File, Device}
use Rattle.server_names.specs.Names.{IsSound, Tree, count_answer, count_found, entries_in, entry_in, found, lines, named, names_in, walked}
use Rattle.server_names.proofs.FoundLaws.{directory_in, goes_parts, named_is}
use Rattle.tree_laws.specs.Trees.{AreNames, IsOwn, Parts, Ties, told}
use Rattle.tree_laws.proofs.FindLaws.{found_by}
use Rattle.tree_laws.proofs.GoneLaws.{named_told}
use Rattle.tree_laws.proofs.MakeLaws.{node_is}
use Rattle.tree_laws.proofs.WalkLaws.{WalksAs, own_on, walks_as}
use Rattle.flat_tree.specs.Listings.{ListsAsOne}
use Rattle.flat_tree.proofs.ListingLaws.{keys_times, names_ascend, nodes_times, once_if, same_ascending, sorted_ascends, times, times_moved}
use Rattle.flat_tree.proofs.WithinLaws.{AtRoot, Below, Within, within}

is_directory : (tree : Tree) (path : Parts) (r : Result Node NameEnd) (many : ℕ) → count_found tree path r ≡ Ok many → r ≡ Ok Dir
is_directory tree path (Ok Dir) many h = refl
is_directory tree path (Ok (File file)) many h = absurd (cc)
is_directory tree path (Ok (Device device)) many h = absurd (cc)
is_directory tree path (Err end) many h = absurd (cc)

-- a directory whose names are counted is one of the domain
pub counted_own : (ties : Ties) (roots : List Parts) (root : Parts) (nodes : List NamedNode) (tree : Tree) (path : Parts) (many : ℕ) → AreNames ties roots root nodes tree → IsPrefix root path → count_answer tree path ≡ Ok many → IsOwn roots root path
counted_own ties roots root nodes tree path many are below ok = by (within root path below)
  where
    by : Within root path → IsOwn roots root path
    by (AtRoot e) = subst (IsOwn roots root) (sym e) (λ other is prefix. prefix)
    by (Below d part under e) =
        let dir : found tree (d ++ part ∷ []) ≡ Ok Dir = ap (found tree) (sym e) ∙ is_directory tree path (found tree path) many ok in
        let parts = goes_parts (walked tree [] d) (named (entry_in tree d part)) Dir (sym (found_by tree d part) ∙ dir) in
        let own : IsOwn roots root d = (subst (λ r. WalksAs roots root d r (walk_from nodes [] (d ++ part ∷ []))) parts.0 (walks_as ties roots root nodes tree are d part under)).1 in
        let plain = named_told ties roots (d ++ part ∷ []) Dir (node_at nodes (d ++ part ∷ [])) (sym (are.names d part under own) ∙ named_is (entry_in tree d part) Dir parts.1) in
        subst (IsOwn roots root) (sym e) (own_on roots root d part own plain.1.1)

told_some : (ties : Ties) (roots : List Parts) (path : Parts) (o : Option UnixNode) → is_some (told ties roots path o) ≡ is_some o
told_some ties roots path None = refl
told_some ties roots path (Some node) = refl

-- a directory of the domain has each name as often on both sides
pub same_times : (ties : Ties) (roots : List Parts) (root : Parts) (nodes : List NamedNode) (tree : Tree) (d : Parts) → AreNames ties roots root nodes tree → IsSound tree → IsPrefix root d → IsOwn roots root d
    → (x : List ℕ) → times x (names_in tree d) ≡ times x (unix_names_in nodes d)
same_times ties roots root nodes tree d are sound below own x =
    keys_times x (entries_in tree d) (directory_in tree d sound.directories).once
    ∙ ap (λ o. once_if (is_some o)) (are.names d x below own)
    ∙ ap once_if (told_some ties roots (d ++ x ∷ []) (node_at nodes (d ++ x ∷ [])))
    ∙ ap (λ o. once_if (is_some o)) (node_is nodes d x)
    ∙ sym (nodes_times x d nodes are.once)

pub lists_as_one : ListsAsOne
lists_as_one ties u root tree directory many text are sound up below ok listing =
    let own = counted_own ties u.roots root u.nodes tree directory many are below ok in
    let same : listing.names ≡ unix_names_in u.nodes directory =
    same_ascending listing.names (unix_names_in u.nodes directory) (sorted_ascends listing.names listing.sorted) (names_ascend directory u.nodes up)
    (λ x. times_moved x (names_in tree directory) listing.names listing.same ∙ same_times ties u.roots root u.nodes tree directory are sound below own x) in
    listing.text_is ∙ ap lines same
