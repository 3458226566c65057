-- Names in the order of their bytes, on both sides.
use Rattle.std.proofs.Common.{◌≡◌, ◌+◌, ℕ, suc, Bool, true, false, ◌&&◌, ◌||◌, cond, List, [], ◌∷◌, ◌++◌, get_or, Option, Some, None, inl, inr, refl, sym, ap, ap₂, subst, ◌∙◌, arith, nat_eq}
use Rattle.std.specs.List.{AllByRecursion, count_by}
use Rattle.std.specs.List.Sorted.{IsPermutation, IsSorted, IsSortedBy}
use Rattle.std.specs.Map.{keys_of, lookup}
use Rattle.std.specs.Option.{is_some}
use Rattle.std.specs.Ordering.{nat_cmp, is_lt}
use Rattle.std.specs.Cmp.Lexicographic.{pointwise, slice_cmp}
use Rattle.std.proofs.lemmas.Bool.{cases_Bool, true≢false}
use Rattle.std.proofs.lemmas.Bool.Decides.{nat_tests}
use Rattle.std.proofs.lemmas.Cmp.{same_from_slice_cmp}
use Rattle.std.proofs.lemmas.List.Recursion.{is_count_by}
use Rattle.std.proofs.lemmas.List.Sorted.{sum_by-IsPermutation}
use Rattle.sprite_ids.proofs.ListLaws.{each_weaken}
use Rattle.server_names.specs.Names.{AreOnce, Listed, is_part}
use Rattle.server_names.proofs.FoundLaws.{part_is, part_itself, path_is, path_itself}
use Rattle.unix_calls.specs.declared.state.Named.{Named as NamedNode}
use Rattle.unix_calls.specs.Tree.{and_name, looked_up, name_below, names_in as unix_names_in, path_before, same_path, text_before}
use Rattle.tree_laws.specs.Trees.{AreNamedOnce, Parts}
use Rattle.tree_laws.proofs.MakeLaws.{below_is, same_on}
use Rattle.flat_tree.specs.Listings.{AreAscending}
use Rattle.unix_world.proofs.OrderLaws.{Ranked, Equal, Before, Behind, behind, apart, over, text_order}

-- ---- how often a name stands in a list

abbrev pub once_if : Bool → ℕ
once_if b = cond b 1 0

abbrev pub times : List ℕ → List (List ℕ) → ℕ
times x [] = 0
times x (y ∷ ys) = cond (is_part x y) (1 + times x ys) (times x ys)

-- a permutation has each name as often
pub times_moved : (x : List ℕ) (xs ys : List (List ℕ)) → IsPermutation xs ys → times x ys ≡ times x xs
times_moved x xs ys h =
    let counts : (zs : List (List ℕ)) → times x zs ≡ count_by (is_part x) zs = is_count_by (times x) (is_part x) refl (λ _ _. refl) in
    counts ys ∙ sum_by-IsPermutation (λ y. cond (is_part x y) 1 0) xs ys h ∙ sym (counts xs)

-- an entry of a directory is there once, where it is there
pub keys_times : (x : List ℕ) (es : Listed) → AreOnce es → times x (keys_of es) ≡ once_if (is_some (lookup (is_part x) es))
keys_times x [] once = refl
keys_times x (e ∷ es) once =
    elim (cases_Bool (is_part x e.0)) [
      | inl here ↦
          let none : lookup (is_part x) es ≡ None = subst (λ (k : List ℕ). lookup (is_part k) es ≡ None) (sym (part_is x e.0 here)) once.0 in
          ap₂ (λ b n. cond b (1 + n) n) here (keys_times x es once.1 ∙ ap (λ o. once_if (is_some o)) none)
          ∙ sym (ap (λ b. once_if (is_some (cond b (Some e.1) (lookup (is_part x) es)))) here)
      | inr on ↦
          ap (λ b. cond b (1 + times x (keys_of es)) (times x (keys_of es))) on ∙ keys_times x es once.1
          ∙ sym (ap (λ b. once_if (is_some (cond b (Some e.1) (lookup (is_part x) es)))) on)
    ]

-- the name below a directory is its path's last part
pub below_name : (d path : Parts) (y : List ℕ) → name_below d path ≡ Some y → path ≡ d ++ y ∷ []
below_name [] [] y h = absurd (cc)
below_name [] (part ∷ []) y h = ap (λ (o : Option (List ℕ)). or_nothing o ∷ []) h
  where
    or_nothing : Option (List ℕ) → List ℕ
    or_nothing (Some part) = part
    or_nothing None = []
below_name [] (part ∷ next ∷ rest) y h = absurd (cc)
below_name (x ∷ d) [] y h = absurd (cc)
below_name (x ∷ d) (part ∷ path) y h =
    elim (cases_Bool (pointwise nat_eq x part)) [
      | inl same ↦
          let rest : name_below d path ≡ Some y = sym (ap (λ b. cond b (name_below d path) None) same) ∙ h in
          ap₂ (λ (p : List ℕ) (l : Parts). p ∷ l) (sym (part_is x part same)) (below_name d path y rest)
      | inr apart ↦ absurd (let none : None ≡ Some y = sym (ap (λ b. cond b (name_below d path) None) apart) ∙ h in cc)
    ]

pub nodes_times : (x : List ℕ) (d : Parts) (nodes : List NamedNode) → AreNamedOnce nodes → times x (unix_names_in nodes d) ≡ once_if (is_some (looked_up nodes (d ++ x ∷ [])))
nodes_times x d [] once = refl
nodes_times x d (n ∷ ns) once = by (name_below d n.path) refl (nodes_times x d ns once.1)
  where
    other : same_path n.path (d ++ x ∷ []) ≡ false → once_if (is_some (looked_up ns (d ++ x ∷ []))) ≡ once_if (is_some (looked_up (n ∷ ns) (d ++ x ∷ [])))
    other off = sym (ap (λ b. once_if (is_some (cond b (Some n.node) (looked_up ns (d ++ x ∷ []))))) off)

    by : (o : Option (List ℕ)) → name_below d n.path ≡ o → times x (unix_names_in ns d) ≡ once_if (is_some (looked_up ns (d ++ x ∷ []))) → times x (and_name o (unix_names_in ns d)) ≡ once_if (is_some (looked_up (n ∷ ns) (d ++ x ∷ [])))
    by None is rest =
        rest ∙ other (elim (cases_Bool (same_path n.path (d ++ x ∷ []))) [
          | inl same ↦
              absurd (let some : Some x ≡ None = sym (ap (name_below d) (path_is n.path (d ++ x ∷ []) same) ∙ below_is d d x ∙ ap (λ b. cond b (Some x) None) (path_itself d)) ∙ is in cc)
          | inr off ↦ off
        ])
    by (Some y) is rest =
        let path = below_name d n.path y is in
        let tells : same_path n.path (d ++ x ∷ []) ≡ is_part x y =
        ap (λ (p : Parts). same_path p (d ++ x ∷ [])) path ∙ same_on d d x y ∙ ap (λ b. b && is_part x y) (path_itself d) in
        elim (cases_Bool (is_part x y)) [
          | inl here ↦
              let none : looked_up ns (d ++ x ∷ []) ≡ None = ap (looked_up ns) (ap (λ (p : List ℕ). d ++ p ∷ []) (part_is x y here) ∙ sym path) ∙ once.0 in
              ap₂ (λ b m. cond b (1 + m) m) here (rest ∙ ap (λ o. once_if (is_some o)) none)
              ∙ sym (ap (λ b. once_if (is_some (cond b (Some n.node) (looked_up ns (d ++ x ∷ []))))) (tells ∙ here))
          | inr off ↦ ap (λ b. cond b (1 + times x (unix_names_in ns d)) (times x (unix_names_in ns d))) off ∙ rest ∙ other (tells ∙ off)
        ]

-- ---- lists of names in order

-- no later name is before an earlier one
abbrev pub Ascends : List (List ℕ) → Type 0
Ascends [] = Unit {0}
Ascends (x ∷ xs) = AllByRecursion (λ (y : List ℕ). text_before y x ≡ false) xs × Ascends xs

pub text_cmp : (xs ys : List ℕ) → is_lt (slice_cmp nat_cmp xs ys) ≡ text_before xs ys
text_cmp xs ys = same_from_slice_cmp nat_cmp is_lt text_before refl (λ _ _. refl) (λ _ _. refl) (λ x y xs ys o h. grind (arith, nat_tests)) xs ys (slice_cmp nat_cmp xs ys) refl

-- the two neighbours at the front, and the rest
sorted_rest : (lt : List ℕ → List ℕ → Bool) (x : List ℕ) (xs : List (List ℕ)) → IsSortedBy lt (x ∷ xs) → IsSortedBy lt xs
sorted_rest lt x xs h = λ k d low high.
    let at : suc k + 1 ≡ suc (k + 1) = omega arith in
    subst (λ n. lt (get_or (x ∷ xs) n d) (get_or xs k d) ≡ false) at (h (suc k) d (omega arith) (omega (arith, high)))

-- what isn't before one isn't before what this one isn't behind
later_on : (x y z : List ℕ) → text_before y x ≡ false → text_before z y ≡ false → text_before z x ≡ false
later_on x y z one two =
    elim (cases_Bool (text_before z x)) [
      | inl less ↦ absurd (true≢false (sym (over text_before (pointwise nat_eq) text_order z x y less one) ∙ two))
      | inr no_less ↦ no_less
    ]

ascends_by : (x : List ℕ) (xs : List (List ℕ)) → IsSortedBy text_before (x ∷ xs) → Ascends xs → Ascends (x ∷ xs)
ascends_by x [] h up = (tt, tt)
ascends_by x (y ∷ ys) h up =
    let first : text_before y x ≡ false = h 0 x (omega arith) (omega arith) in
    ((first, each_weaken (λ (z : List ℕ). text_before z y ≡ false) (λ (z : List ℕ). text_before z x ≡ false) ys (λ z two. later_on x y z first two) up.0), up)

ascends : (xs : List (List ℕ)) → IsSortedBy text_before xs → Ascends xs
ascends [] h = tt
ascends (x ∷ xs) h = ascends_by x xs h (ascends xs (sorted_rest text_before x xs h))

pub sorted_ascends : (xs : List (List ℕ)) → IsSorted (slice_cmp nat_cmp) xs → Ascends xs
sorted_ascends xs h = ascends xs (λ k d low high. sym (text_cmp (get_or xs (k + 1) d) (get_or xs k d)) ∙ h k d low high)

-- a name that is before the first isn't there
not_there : (x y : List ℕ) (ys : List (List ℕ)) → text_before x y ≡ true → AllByRecursion (λ (z : List ℕ). text_before z y ≡ false) ys → times x ys ≡ 0
not_there x y [] less up = refl
not_there x y (z ∷ zs) less up =
    elim (cases_Bool (is_part x z)) [
      | inl same ↦ absurd (true≢false (sym less ∙ ap (λ (w : List ℕ). text_before w y) (part_is x z same) ∙ up.0))
      | inr off ↦ ap₂ (λ b n. cond b (1 + n) n) off (not_there x y zs less up.1)
    ]

-- one name more at the front of each
less_one : (a b : Bool) (m n : ℕ) → cond a (1 + m) m ≡ cond b (1 + n) n → a ≡ b → m ≡ n
less_one true true m n h e = omega (arith, h)
less_one false false m n h e = h
less_one true false m n h e = absurd (true≢false e)
less_one false true m n h e = absurd (true≢false (sym e))

apart_here : (x y : List ℕ) (ys : List (List ℕ)) → text_before x y ≡ true → AllByRecursion (λ (z : List ℕ). text_before z y ≡ false) ys → times x (y ∷ ys) ≡ 0
apart_here x y ys less up = ap₂ (λ b n. cond b (1 + n) n) (apart text_before (pointwise nat_eq) text_order x y less) (not_there x y ys less up)

some_here : (x : List ℕ) (xs : List (List ℕ)) → (times x (x ∷ xs) ≡ 0) → ⊥
some_here x xs h = let one : times x (x ∷ xs) ≡ 1 + times x xs = ap (λ b. cond b (1 + times x xs) (times x xs)) (part_itself x) in omega (arith, one, h)

-- two lists in order that have each name as often are one
pub same_ascending : (xs ys : List (List ℕ)) → Ascends xs → Ascends ys → ((x : List ℕ) → times x xs ≡ times x ys) → xs ≡ ys
same_ascending [] [] up down h = refl
same_ascending [] (y ∷ ys) up down h = absurd (some_here y ys (sym (h y)))
same_ascending (x ∷ xs) [] up down h = absurd (some_here x xs (h x))
same_ascending (x ∷ xs) (y ∷ ys) up down h = by (text_order.ranked x y) (same_ascending xs ys up.1 down.1)
  where
    by : Ranked text_before x y → (((z : List ℕ) → times z xs ≡ times z ys) → xs ≡ ys) → x ∷ xs ≡ y ∷ ys
    by (Equal e) rest = ap₂ (λ (z : List ℕ) (zs : List (List ℕ)). z ∷ zs) e (rest (λ z. less_one (is_part z x) (is_part z y) (times z xs) (times z ys) (h z) (ap (is_part z) e)))
    by (Before less) rest = absurd (some_here x xs (h x ∙ apart_here x y ys less down.0))
    by (Behind more) rest = absurd (some_here y ys (sym (h y) ∙ apart_here y x xs more up.0))

-- ---- the names of a directory of the one-kernel Unix are in order

last_before : (d : Parts) (x y : List ℕ) → path_before (d ++ x ∷ []) (d ++ y ∷ []) ≡ true → text_before x y ≡ true
last_before [] x y h = by (text_before x y) (pointwise nat_eq x y) h
  where
    by : (a b : Bool) → (a || (b && false)) ≡ true → a ≡ true
    by true b h = refl
    by false true h = absurd (true≢false (sym h))
    by false false h = absurd (true≢false (sym h))
last_before (a ∷ d) x y h = last_before d x y (by (text_before a a) (pointwise nat_eq a a) (path_before (d ++ x ∷ []) (d ++ y ∷ [])) (text_order.never a) h)
  where
    by : (p q r : Bool) → (p ≡ true → ⊥) → (p || (q && r)) ≡ true → r ≡ true
    by true q r never h = absurd (never refl)
    by false true r never h = h
    by false false r never h = absurd (true≢false (sym h))

names_behind : (d : Parts) (n : NamedNode) (x : List ℕ) (ns : List NamedNode) → n.path ≡ d ++ x ∷ [] → AllByRecursion (λ (m : NamedNode). path_before n.path m.path ≡ true) ns → AllByRecursion (λ (y : List ℕ). text_before y x ≡ false) (unix_names_in ns d)
names_behind d n x [] is up = tt
names_behind d n x (m ∷ ms) is up = by (name_below d m.path) refl (names_behind d n x ms is up.1)
  where
    by : (o : Option (List ℕ)) → name_below d m.path ≡ o → AllByRecursion (λ (y : List ℕ). text_before y x ≡ false) (unix_names_in ms d) → AllByRecursion (λ (y : List ℕ). text_before y x ≡ false) (and_name o (unix_names_in ms d))
    by None e rest = rest
    by (Some y) e rest =
        let less : text_before x y ≡ true = last_before d x y (ap₂ (λ (p q : Parts). path_before p q) (sym is) (sym (below_name d m.path y e)) ∙ up.0) in
        (behind text_before (pointwise nat_eq) text_order x y less, rest)

pub names_ascend : (d : Parts) (nodes : List NamedNode) → AreAscending nodes → Ascends (unix_names_in nodes d)
names_ascend d [] up = tt
names_ascend d (n ∷ ns) up = by (name_below d n.path) refl (names_ascend d ns up.1)
  where
    by : (o : Option (List ℕ)) → name_below d n.path ≡ o → Ascends (unix_names_in ns d) → Ascends (and_name o (unix_names_in ns d))
    by None e rest = rest
    by (Some x) e rest = (names_behind d n x ns (below_name d n.path x e) up.0, rest)
