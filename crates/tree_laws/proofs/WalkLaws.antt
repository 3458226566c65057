-- Paths with one part more, and walks along them.
use Rattle.std.proofs.Common.{◌≡◌, ◌-◌, ℕ, Bool, true, false, cond, List, [], ◌∷◌, ◌++◌, length, take, drop, slice_get, Option, Some, None, Result, Ok, Err, inl, inr, ◌⊎◌, refl, sym, ap, ap₂, subst, ◌∙◌, arith, length-append, append_assoc, append-nil}
use Rattle.std.proofs.lemmas.Bool.{true≢false}
use Rattle.std.proofs.Math.Seq.{take-append_seam}
use Rattle.sprite_ids.specs.declared.Errno.{Errno}
use Rattle.sprite_paths.specs.Path.{IsPrefix}
use Rattle.unix_calls.specs.declared.state.Node.{Node as UnixNode}
use Rattle.unix_calls.specs.declared.state.Node.TheVariants.{Directory, FileNode, DeviceNode}
use Rattle.unix_calls.specs.declared.state.Named.{Named as NamedNode}
use Rattle.unix_calls.specs.Domains.{begins_domain}
use Rattle.unix_calls.specs.Tree.{first_of, node_at, walk_from, walk_stop}
use Rattle.server_names.specs.declared.NameEnd.{NameEnd}
use Rattle.server_names.specs.declared.NameEnd.TheVariants.{Errno as Refused, Redirect, NoMemory}
use Rattle.server_names.specs.declared.Entry.TheVariants.{Node as Named, Link}
use Rattle.server_names.specs.Names.{Tree, goes_on, last_of, or_none, passed, walked}
use Rattle.tree_laws.specs.Trees.{AreNames, IsOwn, Parts, Ties, plain, told}
use Rattle.tree_laws.specs.Laws.{AnswersAs}

-- ---- paths with one part more

pub above_is : (d : Parts) (part : List ℕ) → take (length (d ++ part ∷ []) - 1) (d ++ part ∷ []) ≡ d
above_is d part =
    let n : length (d ++ part ∷ []) - 1 ≡ length d = let more = length-append d (part ∷ []) in omega arith in
    ap (λ k. take k (d ++ part ∷ [])) n ∙ take-append_seam d (part ∷ [])

got_last : (d : Parts) (part : List ℕ) → slice_get (d ++ part ∷ []) (length d) ≡ Some part
got_last [] part = refl
got_last (first ∷ d) part = got_last d part

pub last_is : (d : Parts) (part : List ℕ) → last_of (d ++ part ∷ []) ≡ part
last_is d part =
    let n : length (d ++ part ∷ []) - 1 ≡ length d = let more = length-append d (part ∷ []) in omega arith in
    ap (λ k. or_none (slice_get (d ++ part ∷ []) k)) n ∙ ap or_none (got_last d part)

-- a prefix of a path with one part more is one of the path, or all of it
pub prefix_on : (other d : Parts) (part : List ℕ) → IsPrefix other (d ++ part ∷ []) → IsPrefix other d ⊎ (other ≡ d ++ part ∷ [])
prefix_on [] d part p = inl (record { rest = d; whole = refl })
prefix_on (o ∷ os) [] part p = by os p.rest p.whole
  where
    by : (os rest : Parts) → part ∷ [] ≡ (o ∷ os) ++ rest → IsPrefix (o ∷ os) [] ⊎ (o ∷ os ≡ part ∷ [])
    by [] [] e = inr (sym e)
    by [] (r ∷ rs) e = cc
    by (x ∷ xs) rest e = cc
prefix_on (o ∷ os) (e ∷ es) part p =
    let head : e ≡ o = ap (λ l. or_none (slice_get l 0)) p.whole in
    let tail : es ++ part ∷ [] ≡ os ++ p.rest = ap (λ l. drop 1 l) p.whole in
    elim (prefix_on os es part (record { rest = p.rest; whole = tail })) [
      | inl short ↦ inl (record { rest = short.rest; whole = ap₂ (λ x l. x ∷ l) head short.whole })
      | inr all ↦ inr (ap₂ (λ x l. x ∷ l) (sym head) all)
    ]

-- ---- a walk

pub walk_cons : (nodes : List NamedNode) (done : Parts) (part : List ℕ) (xs : Parts) (last : List ℕ) → walk_from nodes done (part ∷ (xs ++ last ∷ [])) ≡ first_of (walk_stop (node_at nodes (done ++ part ∷ []))) (walk_from nodes (done ++ part ∷ []) (xs ++ last ∷ []))
walk_cons nodes done part [] last = refl
walk_cons nodes done part (x ∷ xs) last = refl

-- what a walk in a domain says: that of the one-kernel Unix goes as far, and its end is in the domain
abbrev pub WalksAs : List Parts → Parts → Parts → Result (Unit {0}) NameEnd → Option Errno → Type 0
WalksAs roots root end (Ok done) refusal = (refusal ≡ None) × IsOwn roots root end
WalksAs roots root end (Err (Refused errno)) refusal = refusal ≡ Some errno
WalksAs roots root end (Err (Redirect path)) refusal = Unit {0}
WalksAs roots root end (Err NoMemory) refusal = Unit {0}

-- a directory that is no domain's root is in the domain of the one above it
pub own_on : (roots : List Parts) (root d : Parts) (part : List ℕ) → IsOwn roots root d → begins_domain roots (d ++ part ∷ []) ≡ false → IsOwn roots root (d ++ part ∷ [])
own_on roots root d part own none other is prefix =
    elim (prefix_on other d part prefix) [
      | inl short ↦ own other is short
      | inr all ↦ absurd (true≢false (sym is ∙ ap (begins_domain roots) all ∙ none))
    ]

-- from a directory of the domain on
walks_in : (ties : Ties) (roots : List Parts) (root : Parts) (nodes : List NamedNode) (tree : Tree) → AreNames ties roots root nodes tree
    → (here rest : Parts) (last : List ℕ) → IsPrefix root here → IsOwn roots root here
    → WalksAs roots root (here ++ rest) (walked tree here rest) (walk_from nodes here (rest ++ last ∷ []))
walks_in ties roots root nodes tree are here [] last below own = (refl, subst (IsOwn roots root) (sym (append-nil here)) own)
walks_in ties roots root nodes tree are here (part ∷ rest) last below own =
    let path = here ++ part ∷ [] in
    let whole : path ++ rest ≡ here ++ part ∷ rest = append_assoc here (part ∷ []) rest in
    let further : IsPrefix root path = record { rest = below.rest ++ part ∷ []; whole = ap (λ l. l ++ part ∷ []) below.whole ∙ append_assoc root below.rest (part ∷ []) } in
    subst (λ e. WalksAs roots root (here ++ part ∷ rest) (goes_on (passed e) (walked tree path rest)) (walk_from nodes here (part ∷ (rest ++ last ∷ [])))) (sym (are.names here part below own))
    (subst (λ w. WalksAs roots root (here ++ part ∷ rest) (goes_on (passed (told ties roots path (node_at nodes path))) (walked tree path rest)) w) (sym (walk_cons nodes here part rest last))
    (by (node_at nodes path) (begins_domain roots path) refl
    (λ n. subst (λ l. WalksAs roots root l (walked tree path rest) (walk_from nodes path (rest ++ last ∷ []))) whole (walks_in ties roots root nodes tree are path rest last further (own_on roots root here part own n)))))
  where
    by : (node : Option UnixNode) (b : Bool) → begins_domain roots (here ++ part ∷ []) ≡ b
        → (begins_domain roots (here ++ part ∷ []) ≡ false → WalksAs roots root (here ++ part ∷ rest) (walked tree (here ++ part ∷ []) rest) (walk_from nodes (here ++ part ∷ []) (rest ++ last ∷ [])))
        → WalksAs roots root (here ++ part ∷ rest) (goes_on (passed (told ties roots (here ++ part ∷ []) node)) (walked tree (here ++ part ∷ []) rest)) (first_of (walk_stop node) (walk_from nodes (here ++ part ∷ []) (rest ++ last ∷ [])))
    by None b e more = refl
    by (Some node) true e more = subst (λ b. WalksAs roots root (here ++ part ∷ rest) (goes_on (passed (Some (cond b (Link (here ++ part ∷ [])) (Named (plain ties node))))) (walked tree (here ++ part ∷ []) rest)) (first_of (walk_stop (Some node)) (walk_from nodes (here ++ part ∷ []) (rest ++ last ∷ [])))) (sym e) tt
    by (Some node) false e more = subst (λ b. WalksAs roots root (here ++ part ∷ rest) (goes_on (passed (Some (cond b (Link (here ++ part ∷ [])) (Named (plain ties node))))) (walked tree (here ++ part ∷ []) rest)) (first_of (walk_stop (Some node)) (walk_from nodes (here ++ part ∷ []) (rest ++ last ∷ [])))) (sym e) (kind node (more e))
      where
        kind : (n : UnixNode) → WalksAs roots root (here ++ part ∷ rest) (walked tree (here ++ part ∷ []) rest) (walk_from nodes (here ++ part ∷ []) (rest ++ last ∷ []))
            → WalksAs roots root (here ++ part ∷ rest) (goes_on (passed (Some (Named (plain ties n)))) (walked tree (here ++ part ∷ []) rest)) (first_of (walk_stop (Some n)) (walk_from nodes (here ++ part ∷ []) (rest ++ last ∷ [])))
        kind Directory h = h
        kind (FileNode name) h = refl
        kind (DeviceNode place) h = refl

-- and from the top, along the way to the domain's root
walks_way : (ties : Ties) (roots : List Parts) (root : Parts) (nodes : List NamedNode) (tree : Tree) → AreNames ties roots root nodes tree
    → (here way below : Parts) (last : List ℕ) → here ++ way ≡ root
    → WalksAs roots root (root ++ below) (walked tree root below) (walk_from nodes root (below ++ last ∷ []))
    → WalksAs roots root (root ++ below) (walked tree here (way ++ below)) (walk_from nodes here ((way ++ below) ++ last ∷ []))
walks_way ties roots root nodes tree are here [] below last e h =
    subst (λ d. WalksAs roots root (root ++ below) (walked tree d below) (walk_from nodes d (below ++ last ∷ []))) (sym e ∙ append-nil here) h
walks_way ties roots root nodes tree are here (part ∷ way) below last e h =
    let path = here ++ part ∷ [] in
    let on : path ++ way ≡ root = append_assoc here (part ∷ []) way ∙ e in
    let two = are.way here part (record { rest = way; whole = sym on }) in
    subst (λ o. WalksAs roots root (root ++ below) (goes_on (passed o) (walked tree path (way ++ below))) (walk_from nodes here (part ∷ ((way ++ below) ++ last ∷ [])))) (sym two.0)
    (subst (λ w. WalksAs roots root (root ++ below) (walked tree path (way ++ below)) w) (sym (walk_cons nodes here part (way ++ below) last ∙ ap (λ o. first_of (walk_stop o) (walk_from nodes path ((way ++ below) ++ last ∷ []))) two.1))
    (walks_way ties roots root nodes tree are path way below last on h))

own_root : (roots : List Parts) (root : Parts) → IsOwn roots root root
own_root roots root other is prefix = prefix

pub walks_as : (ties : Ties) (roots : List Parts) (root : Parts) (nodes : List NamedNode) (tree : Tree) → AreNames ties roots root nodes tree
    → (directory : Parts) (last : List ℕ) → IsPrefix root directory
    → WalksAs roots root directory (walked tree [] directory) (walk_from nodes [] (directory ++ last ∷ []))
walks_as ties roots root nodes tree are directory last below =
    subst (λ d. WalksAs roots root d (walked tree [] d) (walk_from nodes [] (d ++ last ∷ []))) (sym below.whole)
    (walks_way ties roots root nodes tree are [] root below.rest last refl
    (walks_in ties roots root nodes tree are root below.rest last (record { rest = []; whole = sym (append-nil root) }) (own_root roots root)))

-- the way to a domain's root, up to the directory above it
pub way_walks : (ties : Ties) (roots : List Parts) (root : Parts) (nodes : List NamedNode) (tree : Tree) → AreNames ties roots root nodes tree
    → (here rest : Parts) (last : List ℕ) → here ++ (rest ++ last ∷ []) ≡ root → (walked tree here rest ≡ Ok tt) × (walk_from nodes here (rest ++ last ∷ []) ≡ None)
way_walks ties roots root nodes tree are here [] last e = (refl, refl)
way_walks ties roots root nodes tree are here (part ∷ rest) last e =
    let path = here ++ part ∷ [] in
    let on : path ++ (rest ++ last ∷ []) ≡ root = append_assoc here (part ∷ []) (rest ++ last ∷ []) ∙ e in
    let two = are.way here part (record { rest = rest ++ last ∷ []; whole = sym on }) in
    let further = way_walks ties roots root nodes tree are path rest last on in (
      ap (λ o. goes_on (passed o) (walked tree path rest)) two.0 ∙ further.0,
      walk_cons nodes here part rest last ∙ ap (λ o. first_of (walk_stop o) (walk_from nodes path (rest ++ last ∷ []))) two.1 ∙ further.1,
    )

-- the first of two, by a walk
pub then_by : {A : Type 0} (roots : List Parts) (root d : Parts) (r : Result (Unit {0}) NameEnd) (w : Option Errno) (next : Result A NameEnd) (other : Option Errno) → WalksAs roots root d r w → (IsOwn roots root d → AnswersAs next other) → AnswersAs (goes_on r next) (first_of w other)
then_by roots root d (Ok tt) w next other h more = subst (λ w. AnswersAs next (first_of w other)) (sym h.0) (more h.1)
then_by roots root d (Err (Refused e)) w next other h more = ap (λ w. first_of w other) h
then_by roots root d (Err (Redirect path)) w next other h more = tt
then_by roots root d (Err NoMemory) w next other h more = tt
