-- The names of the one-kernel Unix stay in the order of their paths.
use Rattle.std.proofs.Common.{◌≡◌, Bool, true, false, cond, not, List, [], ◌∷◌, Some, None, refl}
use Rattle.std.specs.List.{AllByRecursion}
use Rattle.sprite_ids.proofs.ListLaws.{each_filter, each_weaken}
use Rattle.unix_calls.specs.declared.state.Named.{Named as NamedNode}
use Rattle.unix_calls.specs.Tree.{looked_up, path_before, same_path, with_name, without_name}
use Rattle.tree_laws.specs.Trees.{Parts}
use Rattle.tree_laws.proofs.MakeLaws.{same_turned}
use Rattle.flat_tree.specs.Listings.{AreAscending}
use Rattle.unix_world.proofs.OrderLaws.{past, path_order}

-- what stands behind a path, with one name more
behind_more : (path : Parts) (n : NamedNode) (ms : List NamedNode) → path_before path n.path ≡ true → AllByRecursion (λ (m : NamedNode). path_before path m.path ≡ true) ms → AllByRecursion (λ (m : NamedNode). path_before path m.path ≡ true) (with_name n ms)
behind_more path n [] less up = (less, tt)
behind_more path n (m ∷ ms) less up = by (path_before n.path m.path) (behind_more path n ms less up.1)
  where
    by : (b : Bool) → AllByRecursion (λ (m : NamedNode). path_before path m.path ≡ true) (with_name n ms) → AllByRecursion (λ (m : NamedNode). path_before path m.path ≡ true) (cond b (n ∷ m ∷ ms) (m ∷ with_name n ms))
    by true rest = (less, up)
    by false rest = (up.0, rest)

pub ascends_made : (n : NamedNode) (nodes : List NamedNode) → looked_up nodes n.path ≡ None → AreAscending nodes → AreAscending (with_name n nodes)
ascends_made n [] none up = (tt, tt)
ascends_made n (m ∷ ms) none up = by (same_path m.path n.path) refl none (path_before n.path m.path) refl (λ later. ascends_made n ms later up.1)
  where
    by : (s : Bool) → same_path m.path n.path ≡ s → cond s (Some m.node) (looked_up ms n.path) ≡ None → (b : Bool) → path_before n.path m.path ≡ b → (looked_up ms n.path ≡ None → AreAscending (with_name n ms)) → AreAscending (cond b (n ∷ m ∷ ms) (m ∷ with_name n ms))
    by true same none b is rest = absurd (cc)
    by false apart none true is rest =
        ((is, each_weaken (λ (x : NamedNode). path_before m.path x.path ≡ true) (λ (x : NamedNode). path_before n.path x.path ≡ true) ms (λ x more. path_order.through n.path m.path x.path is more) up.0), up)
    by false apart none false is rest =
        (behind_more m.path n ms (past path_before same_path path_order n.path m.path is (same_turned m.path n.path apart)) up.0, rest none)

pub ascends_less : (path : Parts) (nodes : List NamedNode) → AreAscending nodes → AreAscending (without_name path nodes)
ascends_less path [] up = tt
ascends_less path (m ∷ ms) up = by (same_path m.path path) (ascends_less path ms up.1)
  where
    by : (b : Bool) → AreAscending (without_name path ms) → AreAscending (cond (not b) (m ∷ without_name path ms) (without_name path ms))
    by true rest = rest
    by false rest = (each_filter (λ (x : NamedNode). path_before m.path x.path ≡ true) (λ (x : NamedNode). not (same_path x.path path)) ms up.0, rest)
