-- What stands where after names were made with the directories above them, on both sides.
use Rattle.std.proofs.Common.{◌≡◌, ℕ, Bool, true, false, ◌||◌, cond, nat_lt, List, [], ◌∷◌, ◌++◌, length, Option, Some, None, Result, Ok, Err, inl, inr, refl, sym, ap, ap₂, subst, ◌∙◌, arith, length-append, append_assoc, append-nil, slice_get, drop}
use Rattle.std.specs.Option.{is_some}
use Rattle.std.specs.List.{list_any}
use Rattle.std.proofs.lemmas.Bool.{cases_Bool, true≢false}
use Rattle.sprite_ids.specs.declared.Errno.TheVariants as errno
use Rattle.sprite_paths.specs.Path.{IsPrefix, is_prefix}
use Rattle.unix_calls.specs.declared.state.Node.{Node as UnixNode}
use Rattle.unix_calls.specs.declared.state.Node.TheVariants.{Directory}
use Rattle.unix_calls.specs.declared.state.Named.{Named as NamedNode}
use Rattle.unix_calls.specs.Boot.{with_directories, with_directory, with_parts, with_roots}
use Rattle.unix_calls.specs.Domains.{begins_domain}
use Rattle.unix_calls.specs.Tree.{looked_up, node_at, same_path, with_name}
use Rattle.server_names.specs.declared.NameEnd.{NameEnd}
use Rattle.server_names.specs.declared.NameEnd.TheVariants.{Errno as Refused, Redirect, NoMemory}
use Rattle.server_names.specs.declared.Node.TheVariants.{Dir, File, Device}
use Rattle.server_names.specs.declared.Entry.{Entry}
use Rattle.server_names.specs.declared.Entry.TheVariants.{Node as Named, Link}
use Rattle.server_names.specs.Names.{IsSound, Tree, and_then, booted, count, entry_in, entry_made, freed, goes_on, hung_all, last_of, make_answer, on_way, parent, passed, put, roomy, walked, with_way, listed}
use Rattle.server_names.proofs.FoundLaws.{freed_none, goes_parts, path_is, path_itself}
use Rattle.server_names.proofs.SoundLaws.{sound_made, sound_none}
use Rattle.tree_laws.specs.Trees.{AreNamedOnce, Parts}
use Rattle.tree_laws.proofs.MakeLaws.{entry_more, node_is, once_more, same_on, same_turned, unix_look}
use Rattle.tree_laws.proofs.WalkLaws.{above_is, last_is, prefix_on}
use Rattle.tree_laws.proofs.WellLaws.{Ending, ends}
use Rattle.flat_tree.specs.Listings.{AreAscending}
use Rattle.flat_tree.proofs.ApartLaws.{prefix_is, prefix_tests}
use Rattle.flat_tree.proofs.AscendLaws.{ascends_made}
use Rattle.flat_tree.proofs.RootLaws.{make_by}
use Rattle.sprite_ids.proofs.ListLaws.{some_is}
use Rattle.unix_frames.proofs.EntryLaws.{none_there}

-- ---- on a way

-- whether a path is one on the way from there along these parts
abbrev pub is_on : Parts → Parts → Parts → Bool
is_on here [] q = false
is_on here (part ∷ rest) q = same_path (here ++ part ∷ []) q || is_on (here ++ part ∷ []) rest q

on_is : (here rest q : Parts) → is_on here rest q ≡ true → IsPrefix q (here ++ rest)
on_is here [] q h = absurd (true≢false (sym h))
on_is here (part ∷ rest) q h = by (same_path (here ++ part ∷ []) q) refl h (λ later. on_is (here ++ part ∷ []) rest q later)
  where
    whole : (here ++ part ∷ []) ++ rest ≡ here ++ part ∷ rest
    whole = append_assoc here (part ∷ []) rest

    by : (b : Bool) → same_path (here ++ part ∷ []) q ≡ b → (b || is_on (here ++ part ∷ []) rest q) ≡ true → (is_on (here ++ part ∷ []) rest q ≡ true → IsPrefix q ((here ++ part ∷ []) ++ rest)) → IsPrefix q (here ++ part ∷ rest)
    by true e h more = subst (λ (k : Parts). IsPrefix k (here ++ part ∷ rest)) (path_is (here ++ part ∷ []) q e) (record { rest = rest; whole = sym whole })
    by false e h more = subst (IsPrefix q) whole (more h)

is_on_by : (here : Parts) (x : List ℕ) (more rest last : Parts) → x ∷ rest ≡ (x ∷ more) ++ last → is_on here (x ∷ rest) (here ++ x ∷ more) ≡ true
is_on_by here x [] rest last e = ap (λ b. b || is_on (here ++ x ∷ []) rest (here ++ x ∷ [])) (path_itself (here ++ x ∷ []))
is_on_by here x (y ∷ more) [] last e = absurd (let n : 1 ≡ length ((x ∷ y ∷ more) ++ last) = ap length e in let m = length-append (x ∷ y ∷ more) last in omega (arith, n, m))
is_on_by here x (y ∷ more) (z ∷ rest) last e =
    let tail : z ∷ rest ≡ (y ∷ more) ++ last = ap (λ (l : Parts). drop 1 l) e in
    let head : z ≡ y = some_is z y (ap (λ (l : Parts). slice_get l 0) tail) in
    let rest_is : rest ≡ more ++ last = ap (λ (l : Parts). drop 1 l) tail in
    let on : is_on (here ++ x ∷ []) (y ∷ rest) ((here ++ x ∷ []) ++ y ∷ more) ≡ true = is_on_by (here ++ x ∷ []) y more rest last (ap (λ (l : Parts). y ∷ l) rest_is) in
    either (same_path (here ++ x ∷ []) (here ++ x ∷ y ∷ more)) (is_on (here ++ x ∷ []) (z ∷ rest) (here ++ x ∷ y ∷ more))
    (ap₂ (λ (w : List ℕ) (l : Parts). is_on (here ++ x ∷ []) (w ∷ rest) l) head (sym (append_assoc here (x ∷ []) (y ∷ more))) ∙ on)
  where
    either : (a b : Bool) → b ≡ true → (a || b) ≡ true
    either true b h = refl
    either false b h = h

is_on_of : (x : List ℕ) (more path : Parts) → IsPrefix (x ∷ more) path → is_on [] path (x ∷ more) ≡ true
is_on_of x more [] pre = absurd (let n : 0 ≡ length ((x ∷ more) ++ pre.rest) = ap length pre.whole in let m = length-append (x ∷ more) pre.rest in omega (arith, n, m))
is_on_of x more (z ∷ path) pre =
    let head : z ≡ x = some_is z x (ap (λ (l : Parts). slice_get l 0) pre.whole) in
    subst (λ (w : List ℕ). is_on [] (w ∷ path) (x ∷ more) ≡ true) (sym head) (is_on_by [] x more path pre.rest (ap (λ (w : List ℕ). w ∷ path) (sym head) ∙ pre.whole))

some_front : (d : Parts) (p : List ℕ) → (x : List ℕ) × ((more : Parts) × (d ++ p ∷ [] ≡ x ∷ more))
some_front [] p = (p, ([], refl))
some_front (x ∷ d) p = (x, (d ++ p ∷ [], refl))

-- the paths on the way to one are its prefixes
pub on_prefix : (path d : Parts) (p : List ℕ) → is_on [] path (d ++ p ∷ []) ≡ is_prefix (d ++ p ∷ []) path
on_prefix path d p =
    elim (cases_Bool (is_prefix (d ++ p ∷ []) path)) [
      | inl is ↦
          let f = some_front d p in
          subst (λ (k : Parts). is_on [] path k ≡ true) (sym f.1.1) (is_on_of f.0 f.1.0 path (subst (λ (k : Parts). IsPrefix k path) f.1.1 (prefix_is (d ++ p ∷ []) path is))) ∙ sym is
      | inr other ↦
          elim (cases_Bool (is_on [] path (d ++ p ∷ []))) [
            | inl on ↦ absurd (true≢false (sym (prefix_tests (d ++ p ∷ []) path (on_is [] path (d ++ p ∷ []) on)) ∙ other))
            | inr off ↦ off ∙ sym other
          ]
    ]

-- those on the way to the directory above one, but for it
pub on_above : (front : Parts) (last : List ℕ) (d : Parts) (p : List ℕ) → same_path (front ++ last ∷ []) (d ++ p ∷ []) ≡ false → is_on [] front (d ++ p ∷ []) ≡ is_prefix (d ++ p ∷ []) (front ++ last ∷ [])
on_above front last d p apart =
    on_prefix front d p
    ∙ elim (cases_Bool (is_prefix (d ++ p ∷ []) (front ++ last ∷ []))) [
      | inl is ↦
          elim (prefix_on (d ++ p ∷ []) front last (prefix_is (d ++ p ∷ []) (front ++ last ∷ []) is)) [
            | inl short ↦ prefix_tests (d ++ p ∷ []) front short ∙ sym is
            | inr all ↦ absurd (true≢false (sym (subst (λ (k : Parts). same_path (front ++ last ∷ []) k ≡ true) (sym all) (path_itself (front ++ last ∷ []))) ∙ apart))
          ]
      | inr other ↦
          elim (cases_Bool (is_prefix (d ++ p ∷ []) front)) [
            | inl is ↦
                let pre = prefix_is (d ++ p ∷ []) front is in
                absurd (true≢false (sym (prefix_tests (d ++ p ∷ []) (front ++ last ∷ []) (record { rest = pre.rest ++ last ∷ []; whole = ap (λ (l : Parts). l ++ last ∷ []) pre.whole ∙ append_assoc (d ++ p ∷ []) pre.rest (last ∷ []) })) ∙ other))
            | inr off ↦ off ∙ sym other
          ]
    ]

-- ---- a directory on a way, at the server

walked_not : (tree : Tree) (here rest : Parts) → walked tree here rest ≡ Err (Refused errno.Exists) → ⊥
walked_not tree here [] h = cc
walked_not tree here (part ∷ rest) h = by (entry_in tree here part) h (λ later. walked_not tree (here ++ part ∷ []) rest later)
  where
    by : (e : Option Entry) → goes_on (passed e) (walked tree (here ++ part ∷ []) rest) ≡ Err (Refused errno.Exists) → (walked tree (here ++ part ∷ []) rest ≡ Err (Refused errno.Exists) → ⊥) → ⊥
    by None h more = cc
    by (Some (Named Dir)) h more = more h
    by (Some (Named (File file))) h more = cc
    by (Some (Named (Device device))) h more = cc
    by (Some (Link to)) h more = cc

-- a name that is there already
stands_there : (tree : Tree) (d : Parts) (part : List ℕ) → make_answer tree (d ++ part ∷ []) ≡ Err (Refused errno.Exists) → is_some (entry_in tree d part) ≡ true
stands_there tree d part h = by (walked tree [] d) refl (entry_in tree d part) (nat_lt (count tree d) 256) (sym (make_by tree d part) ∙ h)
  where
    by : (r : Result (Unit {0}) NameEnd) → walked tree [] d ≡ r → (e : Option Entry) (b : Bool) → ◌≡◌ {A = Result (Unit {0}) NameEnd} (goes_on r (goes_on (freed e) (cond {A = Result (Unit {0}) NameEnd} b (Ok tt) (Err (Refused errno.TooMany))))) (Err (Refused errno.Exists)) → is_some e ≡ true
    by (Ok tt) is None true h = absurd (cc)
    by (Ok tt) is None false h = absurd (cc)
    by (Ok tt) is (Some entry) b h = refl
    by (Err end) is e b h = absurd (walked_not tree [] d (is ∙ h))

-- the directory was made, or something stood there
pub data Passes (tree : Tree) (here : Parts) (part : List ℕ) (next : Tree) : Type 0 where
  New : make_answer tree (here ++ part ∷ []) ≡ Ok tt → put tree (here ++ part ∷ []) (Named Dir) ≡ next → entry_in tree here part ≡ None → Passes tree here part next
  Old : tree ≡ next → is_some (entry_in tree here part) ≡ true → Passes tree here part next

pub same_ok : (a b : Tree) → (◌≡◌ {A = Result Tree NameEnd} (Ok a) (Ok b)) → a ≡ b
same_ok a b h = cc

pub free_of : (tree : Tree) (d : Parts) (part : List ℕ) → make_answer tree (d ++ part ∷ []) ≡ Ok tt → entry_in tree d part ≡ None
free_of tree d part ok =
    let walk = goes_parts (walked tree [] d) (goes_on (freed (entry_in tree d part)) (roomy tree d)) tt (sym (make_by tree d part) ∙ ok) in
    freed_none (entry_in tree d part) (goes_parts (freed (entry_in tree d part)) (roomy tree d) tt walk.1).0

passes_by : (tree : Tree) (here : Parts) (part : List ℕ) (next : Tree) (r : Result (Unit {0}) NameEnd) → make_answer tree (here ++ part ∷ []) ≡ r → on_way tree (goes_on r (Ok (put tree (here ++ part ∷ []) (Named Dir)))) ≡ Ok next → Passes tree here part next
passes_by tree here part next (Ok tt) is h = New is (same_ok (put tree (here ++ part ∷ []) (Named Dir)) next h) (free_of tree here part is)
passes_by tree here part next (Err NoMemory) is h = absurd (cc)
passes_by tree here part next (Err (Redirect to)) is h = absurd (cc)
passes_by tree here part next (Err (Refused errno.Exists)) is h = Old (same_ok tree next h) (stands_there tree here part is)
passes_by tree here part next (Err (Refused _)) is h = absurd (cc)

pub passes : (tree : Tree) (here : Parts) (part : List ℕ) (next : Tree) → on_way tree (entry_made tree (here ++ part ∷ []) (Named Dir)) ≡ Ok next → Passes tree here part next
passes tree here part next h = passes_by tree here part next (make_answer tree (here ++ part ∷ [])) refl h

-- ---- look-ups behind it

-- what stood there, or a directory on the way
abbrev pub or_way : Option Entry → Bool → Option Entry
or_way (Some entry) on = Some entry
or_way None on = cond on (Some (Named Dir)) None

or_off : (o : Option Entry) → or_way o false ≡ o
or_off (Some entry) = refl
or_off None = refl

or_both : (o : Option Entry) (a b : Bool) → or_way (or_way o a) b ≡ or_way o (a || b)
or_both (Some entry) a b = refl
or_both None true b = refl
or_both None false b = refl

or_some : (o : Option Entry) (b : Bool) → is_some o ≡ true → or_way o b ≡ o
or_some (Some entry) b h = refl
or_some None b h = absurd (true≢false (sym h))

-- a name that was put, by its parts
pub put_look : (tree : Tree) (at : Parts) (part : List ℕ) (entry : Entry) (d : Parts) (p : List ℕ) → entry_in tree at part ≡ None → entry_in (put tree (at ++ part ∷ []) entry) d p ≡ cond (same_path (at ++ part ∷ []) (d ++ p ∷ [])) (Some entry) (entry_in tree d p)
put_look tree at part entry d p none =
    ap₂ (λ (k : Parts) (q : List ℕ). entry_in (listed tree k q entry) d p) (above_is at part) (last_is at part)
    ∙ entry_more tree at part entry d p none
    ∙ ap (λ b. cond b (Some entry) (entry_in tree d p)) (sym (same_on d at p part))

pass_look : (tree : Tree) (here : Parts) (part : List ℕ) (next : Tree) (d : Parts) (p : List ℕ) → Passes tree here part next → entry_in next d p ≡ or_way (entry_in tree d p) (same_path (here ++ part ∷ []) (d ++ p ∷ []))
pass_look tree here part next d p (New ok is none) =
    ap (λ (t : Tree). entry_in t d p) (sym is) ∙ put_look tree here part (Named Dir) d p none
    ∙ elim (cases_Bool (same_path (here ++ part ∷ []) (d ++ p ∷ []))) [
      | inl same ↦
          let both : entry_in tree d p ≡ None = ap₂ (λ (k : Parts) (q : List ℕ). entry_in tree k q) (sym (above_of here part d p same)) (sym (last_same here part d p same)) ∙ none in
          ap₂ (λ b o. cond b (Some (Named Dir)) o) same both ∙ sym (ap₂ or_way both same)
      | inr off ↦ ap (λ b. cond b (Some (Named Dir)) (entry_in tree d p)) off ∙ sym (ap (or_way (entry_in tree d p)) off ∙ or_off (entry_in tree d p))
    ]
  where
    above_of : (at : Parts) (q : List ℕ) (k : Parts) (r : List ℕ) → same_path (at ++ q ∷ []) (k ++ r ∷ []) ≡ true → at ≡ k
    above_of at q k r same = sym (above_is at q) ∙ ap parent (path_is (at ++ q ∷ []) (k ++ r ∷ []) same) ∙ above_is k r

    last_same : (at : Parts) (q : List ℕ) (k : Parts) (r : List ℕ) → same_path (at ++ q ∷ []) (k ++ r ∷ []) ≡ true → q ≡ r
    last_same at q k r same = sym (last_is at q) ∙ ap last_of (path_is (at ++ q ∷ []) (k ++ r ∷ []) same) ∙ last_is k r
pass_look tree here part next d p (Old is some) =
    ap (λ (t : Tree). entry_in t d p) (sym is)
    ∙ elim (cases_Bool (same_path (here ++ part ∷ []) (d ++ p ∷ []))) [
      | inl same ↦
          let e = path_is (here ++ part ∷ []) (d ++ p ∷ []) same in
          let up : here ≡ d = sym (above_is here part) ∙ ap parent e ∙ above_is d p in
          let end : part ≡ p = sym (last_is here part) ∙ ap last_of e ∙ last_is d p in
          sym (or_some (entry_in tree d p) (same_path (here ++ part ∷ []) (d ++ p ∷ [])) (ap₂ (λ (k : Parts) (q : List ℕ). is_some (entry_in tree k q)) (sym up) (sym end) ∙ some))
      | inr off ↦ sym (ap (or_way (entry_in tree d p)) off ∙ or_off (entry_in tree d p))
    ]

-- a step's two halves
pub first_half : (r : Result Tree NameEnd) (next : Tree → Result Tree NameEnd) (last : Tree) → and_then r next ≡ Ok last → (t : Tree) × ((r ≡ Ok t) × (next t ≡ Ok last))
first_half (Ok t) next last h = (t, (refl, h))
first_half (Err end) next last h = absurd (cc)

way_look : (tree : Tree) (here rest : Parts) (next : Tree) (d : Parts) (p : List ℕ) → with_way tree here rest ≡ Ok next → entry_in next d p ≡ or_way (entry_in tree d p) (is_on here rest (d ++ p ∷ []))
way_look tree here [] next d p h = ap (λ (t : Tree). entry_in t d p) (sym (same_ok tree next h)) ∙ sym (or_off (entry_in tree d p))
way_look tree here (part ∷ rest) next d p h =
    let half = first_half (on_way tree (entry_made tree (here ++ part ∷ []) (Named Dir))) (λ t. with_way t (here ++ part ∷ []) rest) next h in
    way_look half.0 (here ++ part ∷ []) rest next d p half.1.1
    ∙ ap (λ o. or_way o (is_on (here ++ part ∷ []) rest (d ++ p ∷ []))) (pass_look tree here part half.0 d p (passes tree here part half.0 half.1.0))
    ∙ or_both (entry_in tree d p) (same_path (here ++ part ∷ []) (d ++ p ∷ [])) (is_on (here ++ part ∷ []) rest (d ++ p ∷ []))

way_sound : (tree : Tree) (here rest : Parts) (next : Tree) → with_way tree here rest ≡ Ok next → IsSound tree → IsSound next
way_sound tree here [] next h sound = subst IsSound (same_ok tree next h) sound
way_sound tree here (part ∷ rest) next h sound =
    let half = first_half (on_way tree (entry_made tree (here ++ part ∷ []) (Named Dir))) (λ t. with_way t (here ++ part ∷ []) rest) next h in
    way_sound half.0 (here ++ part ∷ []) rest next half.1.1 (by half.0 (passes tree here part half.0 half.1.0))
  where
    by : (t : Tree) → Passes tree here part t → IsSound t
    by t (New ok is none) = subst IsSound is (sound_made tree (here ++ part ∷ []) (Named Dir) ok sound)
    by t (Old is some) = subst IsSound is sound

-- a name with the directories above it
pub record Boots (tree : Tree) (front : Parts) (last : List ℕ) (entry : Entry) (next : Tree) : Type 0 where
  pub between : Tree
  pub way : with_way tree [] front ≡ Ok between
  pub ok : make_answer between (front ++ last ∷ []) ≡ Ok tt
  pub is : put between (front ++ last ∷ []) entry ≡ next

made_ok : (r : Result (Unit {0}) NameEnd) (new next : Tree) → goes_on r (Ok new) ≡ Ok next → (r ≡ Ok tt) × (new ≡ next)
made_ok (Ok tt) new next h = (refl, same_ok new next h)
made_ok (Err end) new next h = absurd (cc)

pub boots : (tree : Tree) (front : Parts) (last : List ℕ) (entry : Entry) (next : Tree) → booted tree (front ++ last ∷ []) entry ≡ Ok next → Boots tree front last entry next
boots tree front last entry next h =
    let half = first_half (with_way tree [] (parent (front ++ last ∷ []))) (λ t. entry_made t (front ++ last ∷ []) entry) next h in
    let made = made_ok (make_answer half.0 (front ++ last ∷ [])) (put half.0 (front ++ last ∷ []) entry) next half.1.1 in
    record { between = half.0; way = ap (with_way tree []) (sym (above_is front last)) ∙ half.1.0; ok = made.0; is = made.1 }

boots_look : (tree : Tree) (front : Parts) (last : List ℕ) (entry : Entry) (next : Tree) (d : Parts) (p : List ℕ) → Boots tree front last entry next
    → entry_in next d p ≡ cond (same_path (front ++ last ∷ []) (d ++ p ∷ [])) (Some entry) (or_way (entry_in tree d p) (is_on [] front (d ++ p ∷ [])))
boots_look tree front last entry next d p b =
    ap (λ (t : Tree). entry_in t d p) (sym b.is) ∙ put_look b.between front last entry d p (free_of b.between front last b.ok)
    ∙ ap (cond (same_path (front ++ last ∷ []) (d ++ p ∷ [])) (Some entry)) (way_look tree [] front b.between d p b.way)

pub boots_sound : (tree : Tree) (front : Parts) (last : List ℕ) (entry : Entry) (next : Tree) → Boots tree front last entry next → IsSound tree → IsSound next
boots_sound tree front last entry next b sound = subst IsSound b.is (sound_made b.between (front ++ last ∷ []) entry b.ok (way_sound tree [] front b.between b.way sound))

-- the root can't be made
pub no_boot : (tree : Tree) (entry : Entry) (next : Tree) → booted tree [] entry ≡ Ok next → ⊥
no_boot tree entry next h = cc

-- ---- remote links

-- what the names of a domain with these remote links have at a path
abbrev pub linked_at : List Parts → Parts → Option Entry
linked_at links q = cond (begins_domain links q) (Some (Link q)) (cond (list_any (is_prefix q) links) (Some (Named Dir)) None)

any_last : (f : Parts → Bool) (xs : List Parts) (y : Parts) → list_any f (xs ++ y ∷ []) ≡ (list_any f xs || f y)
any_last f [] y = by (f y)
  where
    by : (b : Bool) → (b || false) ≡ b
    by true = refl
    by false = refl
any_last f (x ∷ xs) y = ap (λ b. f x || b) (any_last f xs y) ∙ by (f x) (list_any f xs) (f y)
  where
    by : (a b c : Bool) → (a || (b || c)) ≡ ((a || b) || c)
    by true b c = refl
    by false b c = refl

-- one link more
link_more : (links : List Parts) (link q : Parts) (b1 b2 : Bool) (on : Bool) → begins_domain links q ≡ b1 → list_any (is_prefix q) links ≡ b2 → same_path q link ≡ false → on ≡ is_prefix q link
    → or_way (cond b1 (Some (Link q)) (cond b2 (Some (Named Dir)) None)) on ≡ linked_at (links ++ link ∷ []) q
link_more links link q b1 b2 on one two apart e =
    let begins : begins_domain (links ++ link ∷ []) q ≡ (b1 || false) = any_last (same_path q) links link ∙ ap₂ (λ a b. a || b) one apart in
    let above : list_any (is_prefix q) (links ++ link ∷ []) ≡ (b2 || on) = any_last (is_prefix q) links link ∙ ap₂ (λ a b. a || b) two (sym e) in
    by b1 b2 ∙ sym (ap₂ (λ a b. cond a (Some (Link q)) (cond b (Some (Named Dir)) None)) begins above)
  where
    by : (a b : Bool) → or_way (cond a (Some (Link q)) (cond b (Some (Named Dir)) None)) on ≡ cond (a || false) (Some (Link q)) (cond (b || on) (Some (Named Dir)) None)
    by true b = refl
    by false true = refl
    by false false = refl

link_look : (links : List Parts) (tree : Tree) (link : Parts) (next : Tree) → ((d : Parts) (p : List ℕ) → entry_in tree d p ≡ linked_at links (d ++ p ∷ [])) → booted tree link (Link link) ≡ Ok next → (d : Parts) (p : List ℕ) → entry_in next d p ≡ linked_at (links ++ link ∷ []) (d ++ p ∷ [])
link_look links tree [] next before h d p = absurd (no_boot tree (Link []) next h)
link_look links tree (first ∷ more) next before h d p = by (ends first more)
  where
    either : (a : Bool) → (a || true) ≡ true
    either true = refl
    either false = refl

    by : Ending (first ∷ more) → entry_in next d p ≡ linked_at (links ++ (first ∷ more) ∷ []) (d ++ p ∷ [])
    by end =
        let link = first ∷ more in
        let q = d ++ p ∷ [] in
        let b = boots tree end.front end.last (Link link) next (ap (λ (k : Parts). booted tree k (Link link)) (sym end.whole) ∙ h) in
        boots_look tree end.front end.last (Link link) next d p b
        ∙ ap₂ (λ (k : Parts) o. cond (same_path k q) (Some (Link link)) (or_way o (is_on [] end.front q))) (sym end.whole) (before d p)
        ∙ elim (cases_Bool (same_path link q)) [
          | inl same ↦
              let e = path_is link q same in
              ap (λ b. cond b (Some (Link link)) (or_way (linked_at links q) (is_on [] end.front q))) same
              ∙ ap (λ (k : Parts). Some (Link k)) e
              ∙ sym (ap (λ b. cond b (Some (Link q)) (cond (list_any (is_prefix q) (links ++ link ∷ [])) (Some (Named Dir)) None))
              (any_last (same_path q) links link ∙ ap (λ b. begins_domain links q || b) (subst (λ (k : Parts). same_path q k ≡ true) (sym e) (path_itself q)) ∙ either (begins_domain links q)))
          | inr apart ↦
              ap (λ b. cond b (Some (Link link)) (or_way (linked_at links q) (is_on [] end.front q))) apart
              ∙ link_more links link q (begins_domain links q) (list_any (is_prefix q) links) (is_on [] end.front q) refl refl (same_turned link q apart)
              (on_above end.front end.last d p (ap (λ (k : Parts). same_path k q) (sym end.whole) ∙ apart) ∙ ap (is_prefix q) (sym end.whole))
        ]

hung_by : (links rest : List Parts) (tree next : Tree) → ((d : Parts) (p : List ℕ) → entry_in tree d p ≡ linked_at links (d ++ p ∷ [])) → hung_all tree rest ≡ Ok next → (d : Parts) (p : List ℕ) → entry_in next d p ≡ linked_at (links ++ rest) (d ++ p ∷ [])
hung_by links [] tree next before h d p =
    ap (λ (t : Tree). entry_in t d p) (sym (same_ok tree next h)) ∙ before d p ∙ ap (λ (ls : List Parts). linked_at ls (d ++ p ∷ [])) (sym (append-nil links))
hung_by links (link ∷ rest) tree next before h d p =
    let half = first_half (booted tree link (Link link)) (λ t. hung_all t rest) next h in
    hung_by (links ++ link ∷ []) rest half.0 next (link_look links tree link half.0 before half.1.0) half.1.1 d p
    ∙ ap (λ (ls : List Parts). linked_at ls (d ++ p ∷ [])) (append_assoc links (link ∷ []) rest)

pub hung_look : (links : List Parts) (next : Tree) → hung_all [] links ≡ Ok next → (d : Parts) (p : List ℕ) → entry_in next d p ≡ linked_at links (d ++ p ∷ [])
hung_look links next h d p = hung_by [] links [] next (λ k q. refl) h d p

link_sound : (tree : Tree) (link : Parts) (entry : Entry) (next : Tree) → booted tree link entry ≡ Ok next → IsSound tree → IsSound next
link_sound tree [] entry next h sound = absurd (no_boot tree entry next h)
link_sound tree (first ∷ more) entry next h sound =
    let end = ends first more in
    boots_sound tree end.front end.last entry next (boots tree end.front end.last entry next (ap (λ (k : Parts). booted tree k entry) (sym end.whole) ∙ h)) sound

pub hung_sound : (links : List Parts) (tree next : Tree) → hung_all tree links ≡ Ok next → IsSound tree → IsSound next
hung_sound [] tree next h sound = subst IsSound (same_ok tree next h) sound
hung_sound (link ∷ rest) tree next h sound =
    let half = first_half (booted tree link (Link link)) (λ t. hung_all t rest) next h in
    hung_sound rest half.0 next half.1.1 (link_sound tree link (Link link) half.0 half.1.0 sound)

-- a domain in which no other hangs
pub root_look : (root : Parts) (next : Tree) → booted [] root (Named Dir) ≡ Ok next → (d : Parts) (p : List ℕ) → entry_in next d p ≡ cond (is_prefix (d ++ p ∷ []) root) (Some (Named Dir)) None
root_look [] next h d p = absurd (no_boot [] (Named Dir) next h)
root_look (first ∷ more) next h d p =
    let root = first ∷ more in
    let end = ends first more in
    let q = d ++ p ∷ [] in
    let b = boots [] end.front end.last (Named Dir) next (ap (λ (k : Parts). booted [] k (Named Dir)) (sym end.whole) ∙ h) in
    boots_look [] end.front end.last (Named Dir) next d p b
    ∙ elim (cases_Bool (same_path (end.front ++ end.last ∷ []) q)) [
      | inl same ↦
          ap (λ b. cond b (Some (Named Dir)) (cond (is_on [] end.front q) (Some (Named Dir)) None)) same
          ∙ sym (ap (λ b. cond b (Some (Named Dir)) None) (prefix_tests q root (record { rest = []; whole = end.whole ∙ path_is (end.front ++ end.last ∷ []) q same ∙ sym (append-nil q) })))
      | inr apart ↦
          ap (λ b. cond b (Some (Named Dir)) (cond (is_on [] end.front q) (Some (Named Dir)) None)) apart
          ∙ ap (λ b. cond b (Some (Named Dir)) None) (on_above end.front end.last d p apart ∙ ap (is_prefix q) (sym end.whole))
    ]

pub root_sound : (root : Parts) (next : Tree) → booted [] root (Named Dir) ≡ Ok next → IsSound next
root_sound root next h = link_sound [] root (Named Dir) next h sound_none

-- ---- in the one-kernel Unix

-- what stood there, or a directory
abbrev pub or_directory : Option UnixNode → Bool → Option UnixNode
or_directory (Some node) on = Some node
or_directory None on = cond on (Some Directory) None

directory_off : (o : Option UnixNode) → or_directory o false ≡ o
directory_off (Some node) = refl
directory_off None = refl

directory_both : (o : Option UnixNode) (a b : Bool) → or_directory (or_directory o a) b ≡ or_directory o (a || b)
directory_both (Some node) a b = refl
directory_both None true b = refl
directory_both None false b = refl

directory_some : (o : Option UnixNode) (b : Bool) → is_some o ≡ true → or_directory o b ≡ o
directory_some (Some node) b h = refl
directory_some None b h = absurd (true≢false (sym h))

pub directory_look : (nodes : List NamedNode) (at : Parts) (part : List ℕ) (d : Parts) (p : List ℕ) → node_at (with_directory (at ++ part ∷ []) nodes) (d ++ p ∷ []) ≡ or_directory (node_at nodes (d ++ p ∷ [])) (same_path (at ++ part ∷ []) (d ++ p ∷ []))
directory_look nodes at part d p = by (is_some (node_at nodes (at ++ part ∷ []))) refl
  where
    path : Parts
    path = at ++ part ∷ []

    n : NamedNode
    n = record { path = at ++ part ∷ []; node = Directory }

    by : (b : Bool) → is_some (node_at nodes (at ++ part ∷ [])) ≡ b → node_at (cond b nodes (with_name (record { path = at ++ part ∷ []; node = Directory }) nodes)) (d ++ p ∷ []) ≡ or_directory (node_at nodes (d ++ p ∷ [])) (same_path (at ++ part ∷ []) (d ++ p ∷ []))
    by true some =
        elim (cases_Bool (same_path (at ++ part ∷ []) (d ++ p ∷ []))) [
          | inl same ↦ sym (directory_some (node_at nodes (d ++ p ∷ [])) (same_path (at ++ part ∷ []) (d ++ p ∷ [])) (ap (λ (k : Parts). is_some (node_at nodes k)) (sym (path_is (at ++ part ∷ []) (d ++ p ∷ []) same)) ∙ some))
          | inr off ↦ sym (ap (or_directory (node_at nodes (d ++ p ∷ []))) off ∙ directory_off (node_at nodes (d ++ p ∷ [])))
        ]
    by false none =
        let absent : looked_up nodes (at ++ part ∷ []) ≡ None = sym (node_is nodes at part) ∙ none_there (node_at nodes (at ++ part ∷ [])) none in
        node_is (with_name n nodes) d p ∙ unix_look n nodes (d ++ p ∷ []) absent
        ∙ ap (cond (same_path (at ++ part ∷ []) (d ++ p ∷ [])) (Some Directory)) (sym (node_is nodes d p))
        ∙ elim (cases_Bool (same_path (at ++ part ∷ []) (d ++ p ∷ []))) [
          | inl same ↦
              let empty : node_at nodes (d ++ p ∷ []) ≡ None = ap (node_at nodes) (sym (path_is (at ++ part ∷ []) (d ++ p ∷ []) same)) ∙ none_there (node_at nodes (at ++ part ∷ [])) none in
              ap₂ (λ b o. cond b (Some Directory) o) same empty ∙ sym (ap₂ or_directory empty same)
          | inr off ↦ ap (λ b. cond b (Some Directory) (node_at nodes (d ++ p ∷ []))) off ∙ sym (ap (or_directory (node_at nodes (d ++ p ∷ []))) off ∙ directory_off (node_at nodes (d ++ p ∷ [])))
        ]

parts_look : (nodes : List NamedNode) (here rest d : Parts) (p : List ℕ) → node_at (with_parts here rest nodes) (d ++ p ∷ []) ≡ or_directory (node_at nodes (d ++ p ∷ [])) (is_on here rest (d ++ p ∷ []))
parts_look nodes here [] d p = sym (directory_off (node_at nodes (d ++ p ∷ [])))
parts_look nodes here (part ∷ rest) d p =
    parts_look (with_directory (here ++ part ∷ []) nodes) (here ++ part ∷ []) rest d p
    ∙ ap (λ o. or_directory o (is_on (here ++ part ∷ []) rest (d ++ p ∷ []))) (directory_look nodes here part d p)
    ∙ directory_both (node_at nodes (d ++ p ∷ [])) (same_path (here ++ part ∷ []) (d ++ p ∷ [])) (is_on (here ++ part ∷ []) rest (d ++ p ∷ []))

roots_by : (roots : List Parts) (nodes : List NamedNode) (d : Parts) (p : List ℕ) → node_at (with_roots roots nodes) (d ++ p ∷ []) ≡ or_directory (node_at nodes (d ++ p ∷ [])) (list_any (is_prefix (d ++ p ∷ [])) roots)
roots_by [] nodes d p = sym (directory_off (node_at nodes (d ++ p ∷ [])))
roots_by (root ∷ roots) nodes d p =
    roots_by roots (with_directories root nodes) d p
    ∙ ap (λ o. or_directory o (list_any (is_prefix (d ++ p ∷ [])) roots)) (parts_look nodes [] root d p ∙ ap (or_directory (node_at nodes (d ++ p ∷ []))) (on_prefix root d p))
    ∙ directory_both (node_at nodes (d ++ p ∷ [])) (is_prefix (d ++ p ∷ []) root) (list_any (is_prefix (d ++ p ∷ [])) roots)

none_first : (d : Parts) (p : List ℕ) → node_at [] (d ++ p ∷ []) ≡ None
none_first d p = node_is [] d p

pub roots_look : (roots : List Parts) (d : Parts) (p : List ℕ) → node_at (with_roots roots []) (d ++ p ∷ []) ≡ cond (list_any (is_prefix (d ++ p ∷ [])) roots) (Some Directory) None
roots_look roots d p = roots_by roots [] d p ∙ ap (λ o. or_directory o (list_any (is_prefix (d ++ p ∷ [])) roots)) (none_first d p)

-- each path once, in order
pub record InOrder (nodes : List NamedNode) : Type 0 where
  pub once : AreNamedOnce nodes
  pub up : AreAscending nodes

pub directory_order : (at : Parts) (part : List ℕ) (nodes : List NamedNode) → InOrder nodes → InOrder (with_directory (at ++ part ∷ []) nodes)
directory_order at part nodes h = by (is_some (node_at nodes (at ++ part ∷ []))) refl
  where
    by : (b : Bool) → is_some (node_at nodes (at ++ part ∷ [])) ≡ b → InOrder (cond b nodes (with_name (record { path = at ++ part ∷ []; node = Directory }) nodes))
    by true some = h
    by false none =
        let absent : looked_up nodes (at ++ part ∷ []) ≡ None = sym (node_is nodes at part) ∙ none_there (node_at nodes (at ++ part ∷ [])) none in
        let n : NamedNode = record { path = at ++ part ∷ []; node = Directory } in
        record { once = once_more n nodes absent h.once; up = ascends_made n nodes absent h.up }

parts_order : (here rest : Parts) (nodes : List NamedNode) → InOrder nodes → InOrder (with_parts here rest nodes)
parts_order here [] nodes h = h
parts_order here (part ∷ rest) nodes h = parts_order (here ++ part ∷ []) rest (with_directory (here ++ part ∷ []) nodes) (directory_order here part nodes h)

pub roots_order : (roots : List Parts) (nodes : List NamedNode) → InOrder nodes → InOrder (with_roots roots nodes)
roots_order [] nodes h = h
roots_order (root ∷ roots) nodes h = roots_order roots (with_directories root nodes) (parts_order [] root nodes h)
