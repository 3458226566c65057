-- The names after one was taken away, at its domain's server and in the one-kernel Unix.
use Rattle.std.proofs.Common.{◌≡◌, ◌==◌, ℕ, suc, Bool, true, false, ◌&&◌, cond, not, List, [], ◌∷◌, ◌++◌, length, Option, Some, None, Result, Ok, Err, inl, inr, refl, sym, ap, ap₂, subst, ◌∙◌, arith, length-append}
use Rattle.std.specs.Map.{lookup, remove_entry, set_value}
use Rattle.std.proofs.lemmas.Bool.{cases_Bool, true≢false, eqb-true}
use Rattle.sprite_ids.specs.declared.Errno.TheVariants as errno
use Rattle.sprite_paths.specs.Path.{IsPrefix}
use Rattle.unix_calls.specs.declared.state.Node.{Node as UnixNode}
use Rattle.unix_calls.specs.declared.state.Node.TheVariants.{Directory}
use Rattle.unix_calls.specs.declared.state.Named.{Named as NamedNode}
use Rattle.unix_calls.specs.Domains.{begins_domain}
use Rattle.unix_calls.specs.Tree.{and_name, looked_up, name_below, names_in as unix_names_in, node_at, same_path, walk_from, without_name}
use Rattle.server_names.specs.declared.NameEnd.{NameEnd}
use Rattle.server_names.specs.declared.NameEnd.TheVariants.{Errno as Refused}
use Rattle.server_names.specs.declared.Node.{Node}
use Rattle.server_names.specs.declared.Node.TheVariants.{Dir, File, Device}
use Rattle.server_names.specs.declared.Entry.{Entry}
use Rattle.server_names.specs.declared.Entry.TheVariants.{Node as Named, Link}
use Rattle.server_names.specs.Names.{AreListedOnce, AreOnce, IsSound, Listed, Tree, count, entries_in, entry_at, entry_in, is_at, is_part, named, or_empty, removable, removable_found, remove_answer, removed, unlisted, walked}
use Rattle.server_names.proofs.FoundLaws.{directory_in, goes_parts, less_other, look_here, look_on, part_is, path_is, named_is, positive, removable_ok, set_other}
use Rattle.tree_laws.specs.Trees.{AreNamedOnce, AreNames, IsOwn, Parts, Ties, plain, told}
use Rattle.tree_laws.specs.Laws.{RemovedIsSame}
use Rattle.tree_laws.proofs.MakeLaws.{below_is, node_is, same_on}
use Rattle.tree_laws.proofs.WalkLaws.{WalksAs, above_is, last_is, walks_as}
use Rattle.tree_laws.proofs.RemoveLaws.{removes_by}

pub none_either : {X : Type 0} (b : Bool) → ◌≡◌ {A = Option X} (cond b None None) None
none_either true = refl
none_either false = refl

-- ---- the server's directories without an entry

gone_directory : (path : Parts) (tree : Tree) → AreListedOnce tree → lookup (is_at path) (remove_entry (is_at path) tree) ≡ None
gone_directory path [] once = refl
gone_directory path (e ∷ es) once =
    elim (cases_Bool (is_at path e.0)) [
      | inl here ↦ ap (λ b. lookup (is_at path) (cond b es (e ∷ remove_entry (is_at path) es))) here ∙ subst (λ (k : Parts). lookup (is_at k) es ≡ None) (sym (path_is path e.0 here)) once.0
      | inr on ↦ ap (λ b. lookup (is_at path) (cond b es (e ∷ remove_entry (is_at path) es))) on ∙ look_on (is_at path) e (remove_entry (is_at path) es) on ∙ gone_directory path es once.1
    ]

-- a directory without entries can go
less_entries : (path : Parts) (tree : Tree) (d : Parts) → AreListedOnce tree → entries_in tree path ≡ [] → entries_in (remove_entry (is_at path) tree) d ≡ entries_in tree d
less_entries path tree d once empty =
    elim (cases_Bool (is_at d path)) [
      | inl same ↦
          ap (λ (k : Parts). entries_in (remove_entry (is_at path) tree) k) (path_is d path same)
          ∙ ap or_empty (gone_directory path tree once) ∙ sym empty ∙ ap (entries_in tree) (sym (path_is d path same))
      | inr apart ↦ ap or_empty (less_other (is_at d) tree path apart)
    ]

set_here : (tree : Tree) (d : Parts) (w v : Listed) → lookup (is_at d) tree ≡ Some v → lookup (is_at d) (set_value (is_at d) tree w) ≡ Some w
set_here [] d w v there = absurd (cc)
set_here (e ∷ es) d w v there =
    elim (cases_Bool (is_at d e.0)) [
      | inl here ↦ ap (λ b. lookup (is_at d) (cond b ((e.0, w) ∷ es) (e ∷ set_value (is_at d) es w))) here ∙ look_here (is_at d) (e.0, w) es here
      | inr on ↦
          ap (λ b. lookup (is_at d) (cond b ((e.0, w) ∷ es) (e ∷ set_value (is_at d) es w))) on
          ∙ look_on (is_at d) e (set_value (is_at d) es w) on ∙ set_here es d w v (sym (look_on (is_at d) e es on) ∙ there)
    ]

pub set_entries : (tree : Tree) (at d : Parts) (w v : Listed) → lookup (is_at at) tree ≡ Some v → entries_in (set_value (is_at at) tree w) d ≡ cond (is_at d at) w (entries_in tree d)
set_entries tree at d w v there =
    elim (cases_Bool (is_at d at)) [
      | inl same ↦
          ap (λ (k : Parts). entries_in (set_value (is_at at) tree w) k) (path_is d at same) ∙ ap or_empty (set_here tree at w v there)
          ∙ sym (ap (λ b. cond b w (entries_in tree d)) same)
      | inr apart ↦ ap or_empty (set_other (is_at d) tree at w apart) ∙ sym (ap (λ b. cond b w (entries_in tree d)) apart)
    ]

pub there_of : (part : List ℕ) (entry : Entry) (o : Option Listed) → lookup (is_part part) (or_empty o) ≡ Some entry → (v : Listed) × (o ≡ Some v)
there_of part entry None h = absurd (cc)
there_of part entry (Some v) h = (v, refl)

-- the entries of each directory after one was taken away
entries_gone : (tree : Tree) (at : Parts) (part : List ℕ) (entry : Entry) (d : Parts) → AreListedOnce tree → entries_in tree (at ++ part ∷ []) ≡ [] → entry_in tree at part ≡ Some entry
    → entries_in (removed tree (at ++ part ∷ [])) d ≡ cond (is_at d at) (remove_entry (is_part part) (entries_in tree at)) (entries_in tree d)
entries_gone tree at part entry d once empty there =
    let path = at ++ part ∷ [] in
    let less = remove_entry (is_at path) tree in
    let same : (k : Parts) → entries_in less k ≡ entries_in tree k = λ k. less_entries path tree k once empty in
    let v = there_of part entry (lookup (is_at at) less) (ap (lookup (is_part part)) (same at) ∙ there) in
    ap₂ (λ (k : Parts) (p : List ℕ). entries_in (unlisted less k p) d) (above_is at part) (last_is at part)
    ∙ set_entries less at d (remove_entry (is_part part) (entries_in less at)) v.0 v.1
    ∙ ap₂ (λ (one two : Listed). cond (is_at d at) (remove_entry (is_part part) one) two) (same at) (same d)

part_gone : (part p : List ℕ) (es : Listed) → AreOnce es → lookup (is_part p) (remove_entry (is_part part) es) ≡ cond (is_part p part) None (lookup (is_part p) es)
part_gone part p [] once = sym (none_either (is_part p part))
part_gone part p (e ∷ es) once =
    elim (cases_Bool (is_part part e.0)) [
      | inl here ↦
          ap (λ b. lookup (is_part p) (cond b es (e ∷ remove_entry (is_part part) es))) here
          ∙ elim (cases_Bool (is_part p part)) [
            | inl one ↦
                subst (λ (k : List ℕ). lookup (is_part k) es ≡ None) (sym (part_is p part one ∙ part_is part e.0 here)) once.0
                ∙ sym (ap (λ b. cond b None (lookup (is_part p) (e ∷ es))) one)
            | inr apart ↦
                sym (look_on (is_part p) e es (ap (is_part p) (sym (part_is part e.0 here)) ∙ apart))
                ∙ sym (ap (λ b. cond b None (lookup (is_part p) (e ∷ es))) apart)
          ]
      | inr on ↦
          ap (λ b. lookup (is_part p) (cond b es (e ∷ remove_entry (is_part part) es))) on
          ∙ ap (cond (is_part p e.0) (Some e.1)) (part_gone part p es once.1)
          ∙ elim (cases_Bool (is_part p part)) [
            | inl one ↦
                let off : is_part p e.0 ≡ false = ap (λ (k : List ℕ). is_part k e.0) (part_is p part one) ∙ on in
                ap₂ (λ a b. cond a (Some e.1) (cond b None (lookup (is_part p) es))) off one ∙ sym (ap (λ b. cond b None (lookup (is_part p) (e ∷ es))) one)
            | inr apart ↦ ap (λ b. cond (is_part p e.0) (Some e.1) (cond b None (lookup (is_part p) es))) apart ∙ sym (ap (λ b. cond b None (lookup (is_part p) (e ∷ es))) apart)
          ]
    ]

-- a tree has the entries of another one, but for one of them
abbrev pub IsLess : Tree → Parts → List ℕ → Tree → Type 0
IsLess tree at part next = (d : Parts) → entries_in next d ≡ cond (is_at d at) (remove_entry (is_part part) (entries_in tree at)) (entries_in tree d)

entry_gone : (tree next : Tree) (at : Parts) (part : List ℕ) (d : Parts) (p : List ℕ) → IsLess tree at part next → AreOnce (entries_in tree at) → entry_in next d p ≡ cond (is_at d at && is_part p part) None (entry_in tree d p)
entry_gone tree next at part d p less names =
    ap (lookup (is_part p)) (less d)
    ∙ elim (cases_Bool (is_at d at)) [
      | inl same ↦
          ap (λ b. lookup (is_part p) (cond b (remove_entry (is_part part) (entries_in tree at)) (entries_in tree d))) same
          ∙ part_gone part p (entries_in tree at) names
          ∙ ap (λ (k : Parts). cond (is_part p part) None (entry_in tree k p)) (sym (path_is d at same))
          ∙ sym (ap (λ b. cond (b && is_part p part) None (entry_in tree d p)) same)
      | inr apart ↦
          ap (λ b. lookup (is_part p) (cond b (remove_entry (is_part part) (entries_in tree at)) (entries_in tree d))) apart
          ∙ sym (ap (λ b. cond (b && is_part p part) None (entry_in tree d p)) apart)
    ]

one_less : (part : List ℕ) (entry : Entry) (es : Listed) → lookup (is_part part) es ≡ Some entry → suc (length (remove_entry (is_part part) es)) ≡ length es
one_less part entry [] there = absurd (cc)
one_less part entry (e ∷ es) there =
    elim (cases_Bool (is_part part e.0)) [
      | inl here ↦ ap (λ b. suc (length (cond b es (e ∷ remove_entry (is_part part) es)))) here
      | inr on ↦
          ap (λ b. suc (length (cond b es (e ∷ remove_entry (is_part part) es)))) on
          ∙ ap suc (one_less part entry es (sym (look_on (is_part part) e es on) ∙ there))
    ]

-- ---- the one-kernel Unix without a name

pub without_look : (path q : Parts) (nodes : List NamedNode) → looked_up (without_name path nodes) q ≡ cond (same_path path q) None (looked_up nodes q)
without_look path q [] = sym (none_either (same_path path q))
without_look path q (m ∷ ms) =
    elim (cases_Bool (same_path m.path path)) [
      | inl here ↦
          ap (λ b. looked_up (cond (not b) (m ∷ without_name path ms) (without_name path ms)) q) here
          ∙ without_look path q ms
          ∙ elim (cases_Bool (same_path path q)) [
            | inl one ↦ ap (λ b. cond b None (looked_up ms q)) one ∙ sym (ap (λ b. cond b None (looked_up (m ∷ ms) q)) one)
            | inr apart ↦
                let off : same_path m.path q ≡ false = ap (λ (k : Parts). same_path k q) (path_is m.path path here) ∙ apart in
                sym (ap (λ b. cond (same_path path q) None (cond b (Some m.node) (looked_up ms q))) off)
          ]
      | inr on ↦
          ap (λ b. looked_up (cond (not b) (m ∷ without_name path ms) (without_name path ms)) q) on
          ∙ ap (cond (same_path m.path q) (Some m.node)) (without_look path q ms)
          ∙ elim (cases_Bool (same_path path q)) [
            | inl one ↦
                let off : same_path m.path q ≡ false = ap (same_path m.path) (sym (path_is path q one)) ∙ on in
                ap₂ (λ a b. cond a (Some m.node) (cond b None (looked_up ms q))) off one ∙ sym (ap (λ b. cond b None (looked_up (m ∷ ms) q)) one)
            | inr apart ↦ ap (λ b. cond (same_path m.path q) (Some m.node) (cond b None (looked_up ms q))) apart ∙ sym (ap (λ b. cond b None (looked_up (m ∷ ms) q)) apart)
          ]
    ]

none_without : (path : Parts) (nodes : List NamedNode) → looked_up nodes path ≡ None → without_name path nodes ≡ nodes
none_without path [] none = refl
none_without path (m ∷ ms) none = by (same_path m.path path) refl none (none_without path ms)
  where
    by : (b : Bool) → same_path m.path path ≡ b → cond b (Some m.node) (looked_up ms path) ≡ None → (looked_up ms path ≡ None → without_name path ms ≡ ms) → without_name path (m ∷ ms) ≡ m ∷ ms
    by true e none rest = absurd (cc)
    by false e none rest = ap (λ b. cond (not b) (m ∷ without_name path ms) (without_name path ms)) e ∙ ap (λ (l : List NamedNode). m ∷ l) (rest none)

pub names_less : (path d : Parts) (node : UnixNode) (nodes : List NamedNode) → AreNamedOnce nodes → looked_up nodes path ≡ Some node
    → length (unix_names_in nodes d) ≡ length (and_name (name_below d path) (unix_names_in (without_name path nodes) d))
names_less path d node [] once there = absurd (cc)
names_less path d node (m ∷ ms) once there = by (same_path m.path path) refl there (names_less path d node ms once.1)
  where
    over : (a b : Option (List ℕ)) (xs ys : List (List ℕ)) → length xs ≡ length (and_name b ys) → length (and_name a xs) ≡ length (and_name b (and_name a ys))
    over None b xs ys h = h
    over (Some x) None xs ys h = ap suc h
    over (Some x) (Some y) xs ys h = ap suc h

    by : (b : Bool) → same_path m.path path ≡ b → cond b (Some m.node) (looked_up ms path) ≡ Some node
        → (looked_up ms path ≡ Some node → length (unix_names_in ms d) ≡ length (and_name (name_below d path) (unix_names_in (without_name path ms) d)))
        → length (unix_names_in (m ∷ ms) d) ≡ length (and_name (name_below d path) (unix_names_in (without_name path (m ∷ ms)) d))
    by true e there rest =
        let same = path_is m.path path e in
        let none : looked_up ms path ≡ None = ap (looked_up ms) (sym same) ∙ once.0 in
        ap (λ (k : Parts). length (and_name (name_below d k) (unix_names_in ms d))) same
        ∙ sym (ap (λ b. length (and_name (name_below d path) (unix_names_in (cond (not b) (m ∷ without_name path ms) (without_name path ms)) d))) e
        ∙ ap (λ l. length (and_name (name_below d path) (unix_names_in l d))) (none_without path ms none))
    by false e there rest =
        over (name_below d m.path) (name_below d path) (unix_names_in ms d) (unix_names_in (without_name path ms) d) (rest there)
        ∙ sym (ap (λ b. length (and_name (name_below d path) (unix_names_in (cond (not b) (m ∷ without_name path ms) (without_name path ms)) d))) e)

pub once_without : (path : Parts) (nodes : List NamedNode) → AreNamedOnce nodes → AreNamedOnce (without_name path nodes)
once_without path [] once = tt
once_without path (m ∷ ms) once =
    elim (same_path m.path path) as (λ b. AreNamedOnce (cond (not b) (m ∷ without_name path ms) (without_name path ms))) [
      | true ↦ once_without path ms once.1
      | false ↦ (
        without_look path m.path ms ∙ ap (cond (same_path path m.path) None) once.0 ∙ none_either (same_path path m.path),
        once_without path ms once.1,
      )
    ]

-- ---- both

counts_gone : (tree next : Tree) (at : Parts) (part : List ℕ) (entry : Entry) (node : UnixNode) (nodes : List NamedNode) (d : Parts) → IsLess tree at part next → entry_in tree at part ≡ Some entry
    → AreNamedOnce nodes → looked_up nodes (at ++ part ∷ []) ≡ Some node → count tree d ≡ length (unix_names_in nodes d)
    → count next d ≡ length (unix_names_in (without_name (at ++ part ∷ []) nodes) d)
counts_gone tree next at part entry node nodes d is_less there once stands h =
    let path = at ++ part ∷ [] in
    let after = unix_names_in (without_name path nodes) d in
    let fewer : length (unix_names_in nodes d) ≡ length (and_name (cond (is_at d at) (Some part) None) after) =
    names_less path d node nodes once stands ∙ ap (λ o. length (and_name o after)) (below_is d at part) in
    ap length (is_less d)
    ∙ elim (cases_Bool (is_at d at)) [
      | inl same ↦
          let mine : length (unix_names_in nodes d) ≡ suc (length after) = fewer ∙ ap (λ b. length (and_name (cond b (Some part) None) after)) same in
          let one : suc (length (remove_entry (is_part part) (entries_in tree at))) ≡ length (entries_in tree at) = one_less part entry (entries_in tree at) there in
          let moved : length (entries_in tree at) ≡ length (unix_names_in nodes d) = ap (λ (k : Parts). length (entries_in tree k)) (sym (path_is d at same)) ∙ h in
          ap (λ b. length (cond b (remove_entry (is_part part) (entries_in tree at)) (entries_in tree d))) same ∙ (let less : length (remove_entry (is_part part) (entries_in tree at)) ≡ length after = omega (arith, mine, one, moved) in less)
      | inr apart ↦
          ap (λ b. length (cond b (remove_entry (is_part part) (entries_in tree at)) (entries_in tree d))) apart ∙ h
          ∙ fewer ∙ ap (λ b. length (and_name (cond b (Some part) None) after)) apart
    ]

-- what stands there, on both sides
pub named_told : (ties : Ties) (roots : List Parts) (path : Parts) (node : Node) (o : Option UnixNode) → told ties roots path o ≡ Some (Named node) → (x : UnixNode) × ((o ≡ Some x) × (begins_domain roots path ≡ false))
named_told ties roots path node None h = absurd (cc)
named_told ties roots path node (Some x) h = (x, (refl, by (begins_domain roots path) h))
  where
    by : (b : Bool) → (◌≡◌ {A = Option Entry} (Some (cond b (Link path) (Named (plain ties x)))) (Some (Named node))) → b ≡ false
    by true h = absurd (cc)
    by false h = refl

zero_count : (n : ℕ) (node : Node) → (◌≡◌ {A = Result Node NameEnd} (cond (n == 0) (Ok Dir) (Err (Refused errno.NotEmpty))) (Ok node)) → n ≡ 0
zero_count n node h = by (n == 0) refl h
  where
    by : (b : Bool) → (n == 0) ≡ b → (◌≡◌ {A = Result Node NameEnd} (cond b (Ok Dir) (Err (Refused errno.NotEmpty))) (Ok node)) → n ≡ 0
    by true e h = eqb-true n 0 e
    by false e h = absurd (cc)

-- what isn't a directory has no entries
no_entries : (tree : Tree) (at : Parts) (part : List ℕ) (node : Node) → IsSound tree → entry_in tree at part ≡ Some (Named node) → ((Named node ≡ Named Dir) → ⊥) → count tree (at ++ part ∷ []) ≡ 0
no_entries tree at part node sound there other =
    let path = at ++ part ∷ [] in
    let here : entry_at tree path ≡ Some (Named node) = ap₂ (λ (d : Parts) (p : List ℕ). entry_in tree d p) (above_is at part) (last_is at part) ∙ there in
    let long = length-append at (part ∷ []) in
    elim (cases_Bool (count tree path == 0)) [
      | inl none ↦ eqb-true (count tree path) 0 none
      | inr some ↦ absurd (other (let both : Some (Named node) ≡ Some (Named Dir) = sym here ∙ sound.are_named path (omega (arith, long)) (positive (count tree path) some) in cc))
    ]

empty_of : (tree : Tree) (at : Parts) (part : List ℕ) (directory : Bool) (n node : Node) → IsSound tree → entry_in tree at part ≡ Some (Named n) → removable tree (at ++ part ∷ []) directory n ≡ Ok node → count tree (at ++ part ∷ []) ≡ 0
empty_of tree at part true Dir node sound there h = zero_count (count tree (at ++ part ∷ [])) node h
empty_of tree at part true (File file) node sound there h = absurd (cc)
empty_of tree at part true (Device device) node sound there h = absurd (cc)
empty_of tree at part false Dir node sound there h = absurd (cc)
empty_of tree at part false (File file) node sound there h = no_entries tree at part (File file) sound there (λ e. cc)
empty_of tree at part false (Device device) node sound there h = no_entries tree at part (Device device) sound there (λ e. cc)

nothing_in : (es : Listed) → length es ≡ 0 → es ≡ []
nothing_in [] h = refl
nothing_in (e ∷ es) h = absurd (omega (arith, h))

pub same_less : (ties : Ties) (roots : List Parts) (root : Parts) (nodes : List NamedNode) (tree next : Tree) (at : Parts) (part : List ℕ) (n : Node)
    → AreNames ties roots root nodes tree → AreOnce (entries_in tree at) → IsPrefix root at → IsOwn roots root at → entry_in tree at part ≡ Some (Named n) → IsLess tree at part next
    → AreNames ties roots root (without_name (at ++ part ∷ []) nodes) next
same_less ties roots root nodes tree next at part n are listed below own there less =
    let path = at ++ part ∷ [] in
    let stands = named_told ties roots path n (node_at nodes path) (sym (are.names at part below own) ∙ there) in
    let looked : looked_up nodes path ≡ Some stands.0 = sym (node_is nodes at part) ∙ stands.1.0 in
    let nodes_on : (d : Parts) (p : List ℕ) → node_at (without_name path nodes) (d ++ p ∷ []) ≡ cond (is_at d at && is_part p part) None (node_at nodes (d ++ p ∷ []))
    = λ d p. node_is (without_name path nodes) d p ∙ without_look path (d ++ p ∷ []) nodes ∙ ap₂ (λ b o. cond b None o) (same_on d at p part) (sym (node_is nodes d p)) in
    record {
      way = λ before p pre.
          let two = are.way before p pre in
          let off = apart before p pre in (
            entry_gone tree next at part before p less listed ∙ ap (λ b. cond b None (entry_in tree before p)) off ∙ two.0,
            nodes_on before p ∙ ap (λ b. cond b None (node_at nodes (before ++ p ∷ []))) off ∙ two.1,
          );
      names = λ d p under mine.
          entry_gone tree next at part d p less listed
          ∙ by d p (is_at d at && is_part p part) (are.names d p under mine)
          ∙ ap (told ties roots (d ++ p ∷ [])) (sym (nodes_on d p));
      counts = λ d under mine. counts_gone tree next at part (Named n) stands.0 nodes d less there are.once looked (are.counts d under mine);
      begins = λ q is. begins_on q is stands.1.1;
      once = once_without path nodes are.once;
    }
  where
    parts : (a b : Bool) → a && b ≡ true → (a ≡ true) × (b ≡ true)
    parts true b h = (refl, h)
    parts false b h = absurd (true≢false (sym h))

    apart : (before : Parts) (p : List ℕ) → IsPrefix (before ++ p ∷ []) root → is_at before at && is_part p part ≡ false
    apart before p pre =
        elim (cases_Bool (is_at before at && is_part p part)) [
          | inl both ↦
              let same : before ≡ at = path_is before at (parts (is_at before at) (is_part p part) both).0 in
              let long : length before ≡ length at = ap length same in
              let one : length root ≡ length ((before ++ p ∷ []) ++ pre.rest) = ap length pre.whole in
              let two : length at ≡ length (root ++ below.rest) = ap length below.whole in
              let a = length-append (before ++ p ∷ []) pre.rest in
              let b = length-append before (p ∷ []) in
              let c = length-append root below.rest in
              absurd (omega (arith, long, one, two, a, b, c))
          | inr off ↦ off
        ]

    by : (d : Parts) (p : List ℕ) (b : Bool) → entry_in tree d p ≡ told ties roots (d ++ p ∷ []) (node_at nodes (d ++ p ∷ []))
        → cond b None (entry_in tree d p) ≡ told ties roots (d ++ p ∷ []) (cond b None (node_at nodes (d ++ p ∷ [])))
    by d p true h = refl
    by d p false h = h

    begins_on : (q : Parts) → begins_domain roots q ≡ true → begins_domain roots (at ++ part ∷ []) ≡ false → node_at (without_name (at ++ part ∷ []) nodes) q ≡ Some Directory
    begins_on [] is none = refl
    begins_on (x ∷ q) is none =
        elim (cases_Bool (same_path (at ++ part ∷ []) (x ∷ q))) [
          | inl same ↦ absurd (true≢false (sym is ∙ ap (begins_domain roots) (sym (path_is (at ++ part ∷ []) (x ∷ q) same)) ∙ none))
          | inr off ↦ without_look (at ++ part ∷ []) (x ∷ q) nodes ∙ ap (λ b. cond b None (looked_up nodes (x ∷ q))) off ∙ are.begins (x ∷ q) is
        ]

gone_among : (ties : Ties) (roots : List Parts) (root : Parts) (nodes : List NamedNode) (tree : Tree) (at : Parts) (part : List ℕ) (directory : Bool) (node : Node)
    → AreNames ties roots root nodes tree → IsSound tree → IsPrefix root at → remove_answer tree (at ++ part ∷ []) directory ≡ Ok node → AreNames ties roots root (without_name (at ++ part ∷ []) nodes) (removed tree (at ++ part ∷ []))
gone_among ties roots root nodes tree at part directory node are sound below ok =
    let path = at ++ part ∷ [] in
    let walk = goes_parts (walked tree [] at) (removable_found tree path directory (named (entry_in tree at part))) node (sym (removes_by tree at part directory) ∙ ok) in
    let n = removable_ok tree path directory node (named (entry_in tree at part)) walk.1 in
    let there : entry_in tree at part ≡ Some (Named n.0) = named_is (entry_in tree at part) n.0 n.1 in
    let can : removable tree path directory n.0 ≡ Ok node = sym (ap (removable_found tree path directory) n.1) ∙ walk.1 in
    let own : IsOwn roots root at = (subst (λ r. WalksAs roots root at r (walk_from nodes [] path)) walk.0 (walks_as ties roots root nodes tree are at part below)).1 in
    let empty = nothing_in (entries_in tree path) (empty_of tree at part directory n.0 node sound there can) in
    same_less ties roots root nodes tree (removed tree path) at part n.0 are (directory_in tree at sound.directories).once below own there (λ d. entries_gone tree at part (Named n.0) d sound.once empty there)

pub removed_is_same : RemovedIsSame
removed_is_same ties u root tree at part directory node are sound below ok = gone_among ties u.roots root u.nodes tree at part directory node are sound below ok
