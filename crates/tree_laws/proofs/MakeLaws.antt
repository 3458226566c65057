-- Making a name at its domain's server against the one-kernel Unix.
use Rattle.std.proofs.Common.{◌≡◌, ◌+◌, ◌-◌, ◌==◌, ℕ, suc, Bool, true, false, ◌&&◌, cond, nat_lt, nat_le, List, [], ◌∷◌, ◌++◌, length, take, Option, Some, None, Result, Ok, Err, inl, inr, refl, sym, ap, ap₂, subst, ◌∙◌, arith, length-append}
use Rattle.std.specs.Option.{is_some}
use Rattle.std.specs.Prelude.{nat_eq}
use Rattle.std.specs.Map.{lookup}
use Rattle.indexmap.specs.IndexMap.{insert_entry}
use Rattle.std.specs.Cmp.Lexicographic.{pointwise}
use Rattle.std.proofs.lemmas.Bool.{cases_Bool, cond-false, true≢false, ltb-true, ltb-false, lt-leb, le-leb, ne_eqb}
use Rattle.sprite_ids.specs.declared.Errno.{Errno}
use Rattle.sprite_ids.specs.declared.Errno.TheVariants as errno
use Rattle.sprite_paths.specs.Path.{IsPrefix}
use Rattle.unix_calls.specs.declared.state.Node.{Node as UnixNode}
use Rattle.unix_calls.specs.declared.state.Node.TheVariants.{Directory}
use Rattle.unix_calls.specs.declared.state.Named.{Named as NamedNode}
use Rattle.unix_calls.specs.Domains.{begins_domain}
use Rattle.unix_calls.specs.Tree.{above, and_name, first_of, is_full, looked_up, name_below, names_in as unix_names_in, node_at, path_before, same_path, walk, walk_from, with_name}
use Rattle.unix_calls.specs.NameCalls.{refusal_if}
use Rattle.server_names.specs.declared.NameEnd.{NameEnd}
use Rattle.server_names.specs.declared.NameEnd.TheVariants.{Errno as Refused}
use Rattle.server_names.specs.declared.Node.TheVariants.{Dir}
use Rattle.server_names.specs.declared.Entry.{Entry}
use Rattle.server_names.specs.declared.Entry.TheVariants.{Node as Named, Link}
use Rattle.server_names.specs.Names.{Tree, count, entries_in, entry_at, entry_in, freed, goes_on, is_at, is_part, last_of, made, make_answer, or_empty, parent, roomy, walked}
use Rattle.server_names.proofs.FoundLaws.{freed_none, given_here, given_other, goes_parts, look_here, look_on, part_is, part_itself, path_is, path_itself}
use Rattle.tree_laws.specs.Trees.{AreNamedOnce, AreNames, IsOwn, Parts, Ties, plain, told}
use Rattle.tree_laws.specs.Laws.{AnswersAs, MadeIsSame, MakesAsOne}
use Rattle.tree_laws.proofs.WalkLaws.{WalksAs, above_is, last_is, then_by, walks_as}

-- a directory's room
pub room_by : (m n : ℕ) → m ≡ n → AnswersAs {A = Unit {0}} (cond (nat_lt m 256) (Ok tt) (Err (Refused errno.TooMany))) (refusal_if (nat_le 256 n) errno.TooMany)
room_by m n e =
    subst (λ k. AnswersAs {A = Unit {0}} (cond (nat_lt m 256) (Ok tt) (Err (Refused errno.TooMany))) (refusal_if (nat_le 256 k) errno.TooMany)) e
    (elim (cases_Bool (nat_lt m 256)) [
      | inl room ↦
          let some : nat_le 256 m ≡ false = lt-leb 256 m (ltb-true m 256 room) in
          subst (λ b. AnswersAs {A = Unit {0}} (cond b (Ok tt) (Err (Refused errno.TooMany))) (refusal_if (nat_le 256 m) errno.TooMany)) (sym room)
          (ap (λ b. cond b (Some errno.TooMany) None) some)
      | inr full ↦
          let none : nat_le 256 m ≡ true = le-leb 256 m (ltb-false m 256 full) in
          subst (λ b. AnswersAs {A = Unit {0}} (cond b (Ok tt) (Err (Refused errno.TooMany))) (refusal_if (nat_le 256 m) errno.TooMany)) (sym full)
          (ap (λ b. cond b (Some errno.TooMany) None) none)
    ])

pub free_by : (ties : Ties) (roots : List Parts) (path : Parts) (node : Option UnixNode) (room : Result (Unit {0}) NameEnd) (full : Option Errno) → AnswersAs room full
    → AnswersAs (goes_on (freed (told ties roots path node)) room) (first_of (refusal_if (is_some node) errno.Exists) full)
free_by ties roots path None room full h = h
free_by ties roots path (Some node) room full h =
    elim (begins_domain roots path) as (λ b. AnswersAs (goes_on (freed (Some (cond b (Link path) (Named (plain ties node))))) room) (Some errno.Exists)) [ true ↦ tt | false ↦ refl ]

-- why no name can be made among these
abbrev refusal_of : List NamedNode → Parts → Option Errno
refusal_of nodes path = first_of (walk nodes path) (first_of (refusal_if (is_some (node_at nodes path)) errno.Exists) (refusal_if (is_full nodes (above path)) errno.TooMany))

makes_among : (ties : Ties) (roots : List Parts) (root : Parts) (nodes : List NamedNode) (tree : Tree) (directory : Parts) (part : List ℕ) → AreNames ties roots root nodes tree → IsPrefix root directory
    → AnswersAs (make_answer tree (directory ++ part ∷ [])) (refusal_of nodes (directory ++ part ∷ []))
makes_among ties roots root nodes tree directory part are below =
    let path = directory ++ part ∷ [] in
    let full = refusal_if (is_full nodes directory) errno.TooMany in
    let core : AnswersAs (goes_on (walked tree [] directory) (goes_on (freed (entry_in tree directory part)) (roomy tree directory))) (first_of (walk_from nodes [] path) (first_of (refusal_if (is_some (node_at nodes path)) errno.Exists) full)) =
    then_by roots root directory (walked tree [] directory) (walk_from nodes [] path) (goes_on (freed (entry_in tree directory part)) (roomy tree directory)) (first_of (refusal_if (is_some (node_at nodes path)) errno.Exists) full)
    (walks_as ties roots root nodes tree are directory part below)
    (λ own. subst (λ e. AnswersAs (goes_on (freed e) (roomy tree directory)) (first_of (refusal_if (is_some (node_at nodes path)) errno.Exists) full)) (sym (are.names directory part below own))
    (free_by ties roots path (node_at nodes path) (roomy tree directory) full (room_by (count tree directory) (length (unix_names_in nodes directory)) (are.counts directory below own))))
    in
    let some : (length path == 0) ≡ false = ne_eqb (length path) 0 (λ e. let more = length-append directory (part ∷ []) in omega arith) in
    let lasts = subst (λ p. AnswersAs (goes_on (walked tree [] directory) (goes_on (freed (entry_in tree directory p)) (roomy tree directory))) (first_of (walk_from nodes [] path) (first_of (refusal_if (is_some (node_at nodes path)) errno.Exists) full))) (sym (last_is directory part)) core in
    let aboves = subst (λ d. AnswersAs (goes_on (walked tree [] d) (goes_on (freed (entry_in tree d (last_of path))) (roomy tree d))) (first_of (walk_from nodes [] path) (first_of (refusal_if (is_some (node_at nodes path)) errno.Exists) (refusal_if (is_full nodes d) errno.TooMany)))) (sym (above_is directory part)) lasts in
    subst (λ b. AnswersAs (cond b (Err (Refused errno.Exists)) (goes_on (walked tree [] (parent path)) (goes_on (freed (entry_at tree path)) (roomy tree (parent path))))) (refusal_of nodes path)) (sym some) aboves

pub makes_as_one : MakesAsOne
makes_as_one ties u root tree directory part are below = makes_among ties u.roots root u.nodes tree directory part are below

-- ---- what is made

pub look_append : {K X : Type 0} (p : K → Bool) (es : List (K × X)) (k : K) (v : X) → p k ≡ false → lookup p (es ++ (k, v) ∷ []) ≡ lookup p es
look_append p [] k v h = look_on p (k, v) [] h
look_append p (e ∷ es) k v h = ap (cond (p e.0) (Some e.1)) (look_append p es k v h)

-- a name that is made stands beside the others
pub unix_look : (n : NamedNode) (nodes : List NamedNode) (path : Parts) → looked_up nodes n.path ≡ None → looked_up (with_name n nodes) path ≡ cond (same_path n.path path) (Some n.node) (looked_up nodes path)
unix_look n [] path none = refl
unix_look n (m ∷ ms) path none = by (same_path m.path n.path) refl none (unix_look n ms path)
  where
    swap : (a b : Bool) → same_path m.path n.path ≡ false → same_path m.path path ≡ a → same_path n.path path ≡ b → cond a (Some m.node) (cond b (Some n.node) (looked_up ms path)) ≡ cond b (Some n.node) (cond a (Some m.node) (looked_up ms path))
    swap true true e x y = absurd (true≢false (sym (subst (λ q. same_path m.path q ≡ true) (sym (path_is n.path path y)) x) ∙ e))
    swap true false e x y = refl
    swap false true e x y = refl
    swap false false e x y = refl

    by : (b : Bool) → same_path m.path n.path ≡ b → cond b (Some m.node) (looked_up ms n.path) ≡ None → (looked_up ms n.path ≡ None → looked_up (with_name n ms) path ≡ cond (same_path n.path path) (Some n.node) (looked_up ms path)) → looked_up (with_name n (m ∷ ms)) path ≡ cond (same_path n.path path) (Some n.node) (looked_up (m ∷ ms) path)
    by true e none rest = cc
    by false e none rest =
        elim (cases_Bool (path_before n.path m.path)) [
          | inl before ↦ ap (λ b. looked_up (cond b (n ∷ m ∷ ms) (m ∷ with_name n ms)) path) before
          | inr behind ↦
              ap (λ b. looked_up (cond b (n ∷ m ∷ ms) (m ∷ with_name n ms)) path) behind
              ∙ ap (cond (same_path m.path path) (Some m.node)) (rest none)
              ∙ swap (same_path m.path path) (same_path n.path path) e refl refl
        ]

-- ---- the names after one was made

look_last : {K X : Type 0} (p : K → Bool) (es : List (K × X)) (k : K) (v : X) → lookup p es ≡ None → p k ≡ true → lookup p (es ++ (k, v) ∷ []) ≡ Some v
look_last p [] k v none h = look_here p (k, v) [] h
look_last p (e ∷ es) k v none h = by (p e.0) none (look_last p es k v)
  where
    by : (b : Bool) → cond b (Some e.1) (lookup p es) ≡ None → (lookup p es ≡ None → p k ≡ true → lookup p (es ++ (k, v) ∷ []) ≡ Some v) → cond b (Some e.1) (lookup p (es ++ (k, v) ∷ [])) ≡ Some v
    by true n rest = cc
    by false n rest = rest n h

-- the tree with one more entry in a directory
abbrev more : Tree → Parts → List ℕ → Entry → Tree
more tree d part entry = insert_entry is_at tree d (entries_in tree d ++ (part, entry) ∷ [])

pub entry_more : (tree : Tree) (at : Parts) (part : List ℕ) (entry : Entry) (d : Parts) (p : List ℕ) → entry_in tree at part ≡ None → entry_in (more tree at part entry) d p ≡ cond (is_at d at && is_part p part) (Some entry) (entry_in tree d p)
entry_more tree at part entry d p none =
    elim (cases_Bool (is_at d at)) [
      | inl here ↦
          let same = path_is d at here in
          ap (λ (k : Parts). lookup (is_part p) (entries_in (more tree at part entry) k)) same
          ∙ ap (lookup (is_part p)) (given_here tree at (entries_in tree at ++ (part, entry) ∷ []))
          ∙ elim (cases_Bool (is_part p part)) [
            | inl one ↦ look_last (is_part p) (entries_in tree at) part (entry) (subst (λ (q : List ℕ). lookup (is_part q) (entries_in tree at) ≡ None) (sym (part_is p part one)) none) one
                ∙ sym (ap₂ (λ a b. cond (a && b) (Some entry) (entry_in tree d p)) here one)
            | inr apart ↦ look_append (is_part p) (entries_in tree at) part (entry) apart
                ∙ ap (λ (k : Parts). lookup (is_part p) (entries_in tree k)) (sym same)
                ∙ sym (ap₂ (λ a b. cond (a && b) (Some entry) (entry_in tree d p)) here apart)
          ]
      | inr apart ↦
          ap (λ o. lookup (is_part p) (or_empty o)) (given_other (is_at d) tree at (entries_in tree at ++ (part, entry) ∷ []) apart)
          ∙ sym (ap (λ a. cond (a && is_part p part) (Some entry) (entry_in tree d p)) apart)
    ]

pub node_is : (nodes : List NamedNode) (d : Parts) (p : List ℕ) → node_at nodes (d ++ p ∷ []) ≡ looked_up nodes (d ++ p ∷ [])
node_is nodes [] p = refl
node_is nodes (x ∷ d) p = refl

-- two paths with one part more
pub same_on : (d at : Parts) (p part : List ℕ) → same_path (at ++ part ∷ []) (d ++ p ∷ []) ≡ is_at d at && is_part p part
same_on d at p part =
    elim (cases_Bool (is_at d at && is_part p part)) [
      | inl both ↦
          let parts = two (is_at d at) (is_part p part) both in
          subst (λ (k : Parts). same_path (at ++ part ∷ []) (k ++ p ∷ []) ≡ is_at d at && is_part p part) (sym (path_is d at parts.0))
          (subst (λ (q : List ℕ). same_path (at ++ part ∷ []) (at ++ q ∷ []) ≡ is_at d at && is_part p part) (sym (part_is p part parts.1)) (path_itself (at ++ part ∷ []) ∙ sym both))
      | inr other ↦
          elim (cases_Bool (same_path (at ++ part ∷ []) (d ++ p ∷ []))) [
            | inl same ↦
                let e = path_is (at ++ part ∷ []) (d ++ p ∷ []) same in
                let front : at ≡ d = sym (above_is at part) ∙ ap (λ (l : Parts). take (length l - 1) l) e ∙ above_is d p in
                let back : part ≡ p = sym (last_is at part) ∙ ap last_of e ∙ last_is d p in
                absurd (true≢false (sym (ap₂ (λ a b. a && b) (subst (λ (k : Parts). is_at k at ≡ true) front (path_itself at)) (subst (λ (q : List ℕ). is_part q part ≡ true) back (part_itself part))) ∙ other))
            | inr apart ↦ apart ∙ sym other
          ]
    ]
  where
    two : (a b : Bool) → a && b ≡ true → (a ≡ true) × (b ≡ true)
    two true b h = (refl, h)
    two false b h = absurd (true≢false (sym h))

pub told_none : (ties : Ties) (roots : List Parts) (path : Parts) (o : Option UnixNode) → told ties roots path o ≡ None → o ≡ None
told_none ties roots path None h = refl
told_none ties roots path (Some node) h = cc

-- how many names a directory has
pub below_is : (d at : Parts) (part : List ℕ) → name_below d (at ++ part ∷ []) ≡ cond (is_at d at) (Some part) None
below_is [] [] part = refl
below_is [] (a ∷ []) part = refl
below_is [] (a ∷ b ∷ at) part = refl
below_is (x ∷ []) [] part = elim (pointwise nat_eq x part) as (λ b. cond b (name_below [] []) None ≡ None) [ true ↦ refl | false ↦ refl ]
below_is (x ∷ y ∷ d) [] part = elim (pointwise nat_eq x part) as (λ b. cond b (name_below (y ∷ d) []) None ≡ None) [ true ↦ refl | false ↦ refl ]
below_is (x ∷ d) (a ∷ at) part = by (pointwise nat_eq x a) (below_is d at part)
  where
    by : (b : Bool) → name_below d (at ++ part ∷ []) ≡ cond (is_at d at) (Some part) None → cond b (name_below d (at ++ part ∷ [])) None ≡ cond (b && is_at d at) (Some part) None
    by true h = h
    by false h = refl

pub names_more : (n : NamedNode) (nodes : List NamedNode) (d : Parts) → length (unix_names_in (with_name n nodes) d) ≡ length (and_name (name_below d n.path) (unix_names_in nodes d))
names_more n [] d = refl
names_more n (m ∷ ms) d =
    elim (path_before n.path m.path) as (λ b. length (unix_names_in (cond b (n ∷ m ∷ ms) (m ∷ with_name n ms)) d) ≡ length (and_name (name_below d n.path) (unix_names_in (m ∷ ms) d))) [
      | true ↦ refl
      | false ↦ over (name_below d m.path) (name_below d n.path) (unix_names_in (with_name n ms) d) (unix_names_in ms d) (names_more n ms d)
    ]
  where
    over : (a b : Option (List ℕ)) (xs ys : List (List ℕ)) → length xs ≡ length (and_name b ys) → length (and_name a xs) ≡ length (and_name b (and_name a ys))
    over None b xs ys h = h
    over (Some x) None xs ys h = ap suc h
    over (Some x) (Some y) xs ys h = ap suc h

counts_more : (tree : Tree) (at : Parts) (part : List ℕ) (entry : Entry) (node : UnixNode) (nodes : List NamedNode) (d : Parts) → count tree d ≡ length (unix_names_in nodes d)
    → count (more tree at part entry) d ≡ length (unix_names_in (with_name (record { path = at ++ part ∷ []; node = node }) nodes) d)
counts_more tree at part entry node nodes d h =
    elim (cases_Bool (is_at d at)) [
      | inl here ↦
          let same = path_is d at here in
          ap (λ (k : Parts). length (entries_in (more tree at part entry) k)) same
          ∙ ap length (given_here tree at (entries_in tree at ++ (part, entry) ∷ []))
          ∙ length-append (entries_in tree at) ((part, entry) ∷ [])
          ∙ (let one : length (entries_in tree at) + 1 ≡ suc (length (entries_in tree at)) = omega arith in one)
          ∙ ap suc (ap (λ (k : Parts). length (entries_in tree k)) (sym same) ∙ h)
          ∙ sym (names_more (record { path = at ++ part ∷ []; node = node }) nodes d ∙ ap (λ o. length (and_name o (unix_names_in nodes d))) (below_is d at part ∙ ap (λ b. cond b (Some part) None) here))
      | inr apart ↦
          ap (λ o. length (or_empty o)) (given_other (is_at d) tree at (entries_in tree at ++ (part, entry) ∷ []) apart)
          ∙ h
          ∙ sym (names_more (record { path = at ++ part ∷ []; node = node }) nodes d ∙ ap (λ o. length (and_name o (unix_names_in nodes d))) (below_is d at part ∙ ap (λ b. cond b (Some part) None) apart))
    ]

-- two paths that are one are the same both ways
pub same_turned : (one two : Parts) → same_path one two ≡ false → same_path two one ≡ false
same_turned one two h =
    elim (cases_Bool (same_path two one)) [
      | inl same ↦ absurd (true≢false (sym (subst (λ (k : Parts). same_path one k ≡ true) (sym (path_is two one same)) (path_itself one)) ∙ h))
      | inr apart ↦ apart
    ]

-- a name that is made where none stands is there once
pub once_more : (n : NamedNode) (nodes : List NamedNode) → looked_up nodes n.path ≡ None → AreNamedOnce nodes → AreNamedOnce (with_name n nodes)
once_more n [] none h = (refl, tt)
once_more n (m ∷ ms) none h = by (same_path m.path n.path) refl none (λ on. once_more n ms on h.1)
  where
    by : (b : Bool) → same_path m.path n.path ≡ b → cond b (Some m.node) (looked_up ms n.path) ≡ None → (looked_up ms n.path ≡ None → AreNamedOnce (with_name n ms)) → AreNamedOnce (with_name n (m ∷ ms))
    by true e none rest = absurd (cc)
    by false e none rest =
        elim (path_before n.path m.path) as (λ b. AreNamedOnce (cond b (n ∷ m ∷ ms) (m ∷ with_name n ms))) [
          | true ↦ (ap (λ b. cond b (Some m.node) (looked_up ms n.path)) e ∙ none, h)
          | false ↦ (unix_look n ms m.path none ∙ ap (λ b. cond b (Some n.node) (looked_up ms m.path)) (same_turned m.path n.path e) ∙ h.0, rest none)
        ]

-- what a made name's directory keeps
pub same_more : (ties : Ties) (roots : List Parts) (root : Parts) (nodes : List NamedNode) (tree : Tree) (at : Parts) (part : List ℕ) (node : UnixNode)
    → AreNames ties roots root nodes tree → IsPrefix root at → IsOwn roots root at → entry_in tree at part ≡ None
    → AreNames ties roots root (with_name (record { path = at ++ part ∷ []; node = node }) nodes) (more tree at part (Named (plain ties node)))
same_more ties roots root nodes tree at part node are below own free =
    let path = at ++ part ∷ [] in
    let entry = Named (plain ties node) in
    let n : NamedNode = record { path = path; node = node } in
    let absent : node_at nodes path ≡ None = told_none ties roots path (node_at nodes path) (sym (are.names at part below own) ∙ free) in
    let gone : looked_up nodes path ≡ None = sym (node_is nodes at part) ∙ absent in
    let no_root : begins_domain roots path ≡ false = elim (cases_Bool (begins_domain roots path)) [ inl is ↦ absurd (let some : Some Directory ≡ None = sym (are.begins path is) ∙ absent in cc) | inr other ↦ other ] in
    let nodes_on : (d : Parts) (p : List ℕ) → node_at (with_name n nodes) (d ++ p ∷ []) ≡ cond (is_at d at && is_part p part) (Some node) (node_at nodes (d ++ p ∷ []))
    = λ d p. node_is (with_name n nodes) d p ∙ unix_look n nodes (d ++ p ∷ []) gone ∙ ap₂ (λ b o. cond b (Some node) o) (same_on d at p part) (sym (node_is nodes d p)) in
    record {
      way = λ before p pre.
          let two = are.way before p pre in
          let off : is_at before at && is_part p part ≡ false = apart before p two.0 free in (
            entry_more tree at part entry before p free ∙ ap (λ b. cond b (Some entry) (entry_in tree before p)) off ∙ two.0,
            nodes_on before p ∙ ap (λ b. cond b (Some node) (node_at nodes (before ++ p ∷ []))) off ∙ two.1,
          );
      names = λ d p under mine.
          entry_more tree at part entry d p free
          ∙ by d p (is_at d at && is_part p part) refl (are.names d p under mine) no_root
          ∙ ap (told ties roots (d ++ p ∷ [])) (sym (nodes_on d p));
      counts = λ d under mine. counts_more tree at part entry node nodes d (are.counts d under mine);
      begins = λ q is. begins_on q (are.begins q is) gone;
      once = once_more n nodes gone are.once;
    }
  where
    parts : (a b : Bool) → a && b ≡ true → (a ≡ true) × (b ≡ true)
    parts true b h = (refl, h)
    parts false b h = absurd (true≢false (sym h))

    apart : (before : Parts) (p : List ℕ) → entry_in tree before p ≡ Some (Named Dir) → entry_in tree at part ≡ None → is_at before at && is_part p part ≡ false
    apart before p there free =
        elim (cases_Bool (is_at before at && is_part p part)) [
          | inl both ↦
              let two = parts (is_at before at) (is_part p part) both in
              let moved : entry_in tree at part ≡ Some (Named Dir) = ap₂ (λ (d : Parts) (q : List ℕ). entry_in tree d q) (sym (path_is before at two.0)) (sym (part_is p part two.1)) ∙ there in
              absurd (let some : Some (Named Dir) ≡ None = sym moved ∙ free in cc)
          | inr off ↦ off
        ]

    by : (d : Parts) (p : List ℕ) (b : Bool) → is_at d at && is_part p part ≡ b → entry_in tree d p ≡ told ties roots (d ++ p ∷ []) (node_at nodes (d ++ p ∷ [])) → begins_domain roots (at ++ part ∷ []) ≡ false
        → cond b (Some (Named (plain ties node))) (entry_in tree d p) ≡ told ties roots (d ++ p ∷ []) (cond b (Some node) (node_at nodes (d ++ p ∷ [])))
    by d p true e h none =
        let same = path_is (at ++ part ∷ []) (d ++ p ∷ []) (same_on d at p part ∙ e) in
        sym (ap (λ b. Some (cond b (Link (d ++ p ∷ [])) (Named (plain ties node)))) (ap (begins_domain roots) (sym same) ∙ none))
    by d p false e h none = h

    begins_on : (q : Parts) → node_at nodes q ≡ Some Directory → looked_up nodes (at ++ part ∷ []) ≡ None → node_at (with_name (record { path = at ++ part ∷ []; node = node }) nodes) q ≡ Some Directory
    begins_on [] h none = refl
    begins_on (x ∷ q) h none =
        elim (cases_Bool (same_path (at ++ part ∷ []) (x ∷ q))) [
          | inl same ↦ absurd (let two : Some Directory ≡ None = sym h ∙ ap (looked_up nodes) (sym (path_is (at ++ part ∷ []) (x ∷ q) same)) ∙ none in cc)
          | inr off ↦ unix_look (record { path = at ++ part ∷ []; node = node }) nodes (x ∷ q) none ∙ ap (λ b. cond b (Some node) (looked_up nodes (x ∷ q))) off ∙ h
        ]

made_among : (ties : Ties) (roots : List Parts) (root : Parts) (nodes : List NamedNode) (tree : Tree) (directory : Parts) (part : List ℕ) (node : UnixNode) → AreNames ties roots root nodes tree → IsPrefix root directory
    → make_answer tree (directory ++ part ∷ []) ≡ Ok tt → AreNames ties roots root (with_name (record { path = directory ++ part ∷ []; node = node }) nodes) (made tree (directory ++ part ∷ []) (plain ties node))
made_among ties roots root nodes tree directory part node are below ok =
    let path = directory ++ part ∷ [] in
    let entry = Named (plain ties node) in
    let some : (length path == 0) ≡ false = ne_eqb (length path) 0 (λ e. let more = length-append directory (part ∷ []) in omega arith) in
    let walk = goes_parts (walked tree [] (parent path)) (goes_on (freed (entry_at tree path)) (roomy tree (parent path))) tt (sym (cond-false (length path == 0) _ _ some) ∙ ok) in
    let last = goes_parts (freed (entry_at tree path)) (roomy tree (parent path)) tt walk.1 in
    let free : entry_in tree directory part ≡ None = sym (ap₂ (λ (d : Parts) (p : List ℕ). entry_in tree d p) (above_is directory part) (last_is directory part)) ∙ freed_none (entry_at tree path) last.0 in
    let way : walked tree [] directory ≡ Ok tt = sym (ap (walked tree []) (above_is directory part)) ∙ walk.0 in
    let own : IsOwn roots root directory = (subst (λ r. WalksAs roots root directory r (walk_from nodes [] path)) way (walks_as ties roots root nodes tree are directory part below)).1 in
    subst (λ (d : Parts). AreNames ties roots root (with_name (record { path = path; node = node }) nodes) (insert_entry is_at tree d (entries_in tree d ++ (last_of path, entry) ∷ []))) (sym (above_is directory part))
    (subst (λ (p : List ℕ). AreNames ties roots root (with_name (record { path = path; node = node }) nodes) (insert_entry is_at tree directory (entries_in tree directory ++ (p, entry) ∷ []))) (sym (last_is directory part))
    (same_more ties roots root nodes tree directory part node are below own free))

pub made_is_same : MadeIsSame
made_is_same ties u root tree directory part node are below ok = made_among ties u.roots root u.nodes tree directory part node are below ok
