-- A name that is made or taken away in one domain leaves the names of every other one.
use Rattle.std.proofs.Common.{◌≡◌, ◌≢◌, ℕ, true, false, cond, List, [], ◌∷◌, ◌++◌, length, Some, None, inl, inr, refl, sym, ap, subst, ◌∙◌, arith, length-append, append-nil}
use Rattle.std.proofs.lemmas.Bool.{cases_Bool, and_left}
use Rattle.sprite_paths.specs.Path.{IsPrefix}
use Rattle.unix_calls.specs.declared.state.Node.{Node as UnixNode}
use Rattle.unix_calls.specs.declared.state.Node.TheVariants.{Directory}
use Rattle.unix_calls.specs.declared.state.Named.{Named as NamedNode}
use Rattle.unix_calls.specs.Domains.{begins_domain}
use Rattle.unix_calls.specs.Tree.{and_name, looked_up, names_in as unix_names_in, node_at, same_path, with_name, without_name}
use Rattle.server_names.specs.Names.{Tree, is_at, is_part}
use Rattle.server_names.proofs.FoundLaws.{path_is}
use Rattle.tree_laws.specs.Trees.{AreNames, IsOwn, Parts, Ties, told}
use Rattle.tree_laws.proofs.GoneLaws.{names_less, once_without, without_look}
use Rattle.tree_laws.proofs.MakeLaws.{below_is, names_more, node_is, once_more, same_on, unix_look}
use Rattle.tree_laws.proofs.WellLaws.{still_there}

-- two paths that are prefixes of each other are one
pub prefix_both : (a b : Parts) → IsPrefix a b → IsPrefix b a → a ≡ b
prefix_both a b one two =
    let x : length b ≡ length (a ++ one.rest) = ap length one.whole in
    let y : length a ≡ length (b ++ two.rest) = ap length two.whole in
    let z = length-append a one.rest in
    let w = length-append b two.rest in
    sym (one.whole ∙ ap (λ (l : Parts). a ++ l) (nothing one.rest (omega (arith, x, y, z, w))) ∙ append-nil a)
  where
    nothing : (l : Parts) → length l ≡ 0 → l ≡ []
    nothing [] h = refl
    nothing (p ∷ l) h = absurd (omega (arith, h))

-- a directory of one domain is none of another
own_apart : (roots : List Parts) (root other at d : Parts) → begins_domain roots root ≡ true → begins_domain roots other ≡ true → root ≢ other → IsPrefix root at → IsOwn roots root at → IsPrefix other d → IsOwn roots other d → is_at d at ≡ false
own_apart roots root other at d begins too apart below own under mine =
    elim (cases_Bool (is_at d at)) [
      | inl same ↦
          let e = path_is d at same in
          absurd (apart (prefix_both root other (mine root begins (subst (λ (k : Parts). IsPrefix root k) (sym e) below)) (own other too (subst (λ (k : Parts). IsPrefix other k) e under))))
      | inr off ↦ off
    ]

pub beside_made : (ties : Ties) (roots : List Parts) (root other : Parts) (nodes : List NamedNode) (tree : Tree) (at : Parts) (part : List ℕ) (node : UnixNode)
    → AreNames ties roots other nodes tree → begins_domain roots root ≡ true → begins_domain roots other ≡ true → root ≢ other → IsPrefix root at → IsOwn roots root at → looked_up nodes (at ++ part ∷ []) ≡ None
    → AreNames ties roots other (with_name (record { path = at ++ part ∷ []; node = node }) nodes) tree
beside_made ties roots root other nodes tree at part node are begins too apart below own free =
    let n : NamedNode = record { path = at ++ part ∷ []; node = node } in
    let off : (d : Parts) → IsPrefix other d → IsOwn roots other d → is_at d at ≡ false = λ d under mine. own_apart roots root other at d begins too apart below own under mine in
    record {
      way = λ before p pre. let two = are.way before p pre in (two.0, still_there n nodes (before ++ p ∷ []) Directory free two.1);
      names = λ d p under mine.
          are.names d p under mine
          ∙ ap (told ties roots (d ++ p ∷ []))
          (sym (node_is (with_name n nodes) d p ∙ unix_look n nodes (d ++ p ∷ []) free
          ∙ ap (λ b. cond b (Some node) (looked_up nodes (d ++ p ∷ []))) (same_on d at p part ∙ and_left (is_at d at) (is_part p part) (off d under mine)) ∙ sym (node_is nodes d p)));
      counts = λ d under mine.
          are.counts d under mine
          ∙ sym (names_more n nodes d ∙ ap (λ o. length (and_name o (unix_names_in nodes d))) (below_is d at part ∙ ap (λ b. cond b (Some part) None) (off d under mine)));
      begins = λ q is. still_there n nodes q Directory free (are.begins q is);
      once = once_more n nodes free are.once;
    }

-- what isn't taken away still stands
pub left_node : (path q : Parts) (nodes : List NamedNode) (node : UnixNode) → same_path path q ≡ false → node_at nodes q ≡ Some node → node_at (without_name path nodes) q ≡ Some node
left_node path [] nodes node apart h = h
left_node path (x ∷ q) nodes node apart h = without_look path (x ∷ q) nodes ∙ ap (λ b. cond b None (looked_up nodes (x ∷ q))) apart ∙ h

pub beside_gone : (ties : Ties) (roots : List Parts) (root other : Parts) (nodes : List NamedNode) (tree : Tree) (at : Parts) (part : List ℕ) (node : UnixNode)
    → AreNames ties roots other nodes tree → begins_domain roots root ≡ true → begins_domain roots other ≡ true → root ≢ other → IsPrefix root at → IsOwn roots root at → looked_up nodes (at ++ part ∷ []) ≡ Some node
    → ((k : Parts) → begins_domain roots k ≡ true → IsPrefix (at ++ part ∷ []) k → ⊥)
    → AreNames ties roots other (without_name (at ++ part ∷ []) nodes) tree
beside_gone ties roots root other nodes tree at part node are begins too apart below own there clear =
    let path = at ++ part ∷ [] in
    let off : (d : Parts) → IsPrefix other d → IsOwn roots other d → is_at d at ≡ false = λ d under mine. own_apart roots root other at d begins too apart below own under mine in
    record {
      way = λ before p pre. let two = are.way before p pre in (two.0, left_node path (before ++ p ∷ []) nodes Directory (no_prefix (before ++ p ∷ []) other too pre) two.1);
      names = λ d p under mine.
          are.names d p under mine
          ∙ ap (told ties roots (d ++ p ∷ []))
          (sym (node_is (without_name path nodes) d p ∙ without_look path (d ++ p ∷ []) nodes
          ∙ ap (λ b. cond b None (looked_up nodes (d ++ p ∷ []))) (same_on d at p part ∙ and_left (is_at d at) (is_part p part) (off d under mine)) ∙ sym (node_is nodes d p)));
      counts = λ d under mine.
          are.counts d under mine
          ∙ names_less path d node nodes are.once there
          ∙ ap (λ o. length (and_name o (unix_names_in (without_name path nodes) d))) (below_is d at part ∙ ap (λ b. cond b (Some part) None) (off d under mine));
      begins = λ q is. left_node path q nodes Directory (no_prefix q q is (record { rest = []; whole = sym (append-nil q) })) (are.begins q is);
      once = once_without path nodes are.once;
    }
  where
    no_prefix : (q k : Parts) → begins_domain roots k ≡ true → IsPrefix q k → same_path (at ++ part ∷ []) q ≡ false
    no_prefix q k is pre =
        elim (cases_Bool (same_path (at ++ part ∷ []) q)) [
          | inl same ↦ absurd (clear k is (subst (λ (l : Parts). IsPrefix l k) (sym (path_is (at ++ part ∷ []) q same)) pre))
          | inr other ↦ other
        ]
