-- A server's listing, sorted by a map, has the names of a directory in the order of their bytes.
use Rattle.std.proofs.Common.{◌≡◌, ◌+◌, ◌≤◌, ℕ, Bool, true, false, cond, List, [], ◌∷◌, Ordering, Less, Equal, Greater, Ok, nat_cmp, nat_eq, inl, inr, refl, sym, ap, subst, ◌∙◌, arith}
use Rattle.std.specs.List.{AllByRecursion, fold}
use Rattle.std.specs.Map.{keys_of, lookup}
use Rattle.std.specs.Option.{is_some}
use Rattle.std.specs.Ordering.{is_lt, match_ordering, ordering_reverse}
use Rattle.std.specs.BTreeMap.{insert_entry}
use Rattle.std.specs.Cmp.Lexicographic.{pointwise, slice_cmp}
use Rattle.std.proofs.lemmas.Bool.{cases_Bool, true≢false}
use Rattle.std.proofs.lemmas.Cmp.{nat_list_cmp_total}
use Rattle.sprite_ids.proofs.ListLaws.{each_weaken}
use Rattle.sprite_paths.specs.Path.{IsPrefix}
use Rattle.unix_calls.specs.State.{Unix}
use Rattle.unix_calls.specs.Tree.{names_in as unix_names_in, text_before}
use Rattle.unix_calls.specs.NameCalls.{listing as unix_listing}
use Rattle.server_names.specs.Names.{IsSound, Tree, count_answer, entries_in, is_part, lines, names_in}
use Rattle.server_names.proofs.FoundLaws.{directory_in, part_itself}
use Rattle.server_kernel.specs.Listing.{listing, sorted_names, with_sorted}
use Rattle.tree_laws.specs.Trees.{AreNames, Parts, Ties}
use Rattle.flat_tree.specs.Listings.{AreAscending}
use Rattle.flat_tree.proofs.ListLaws.{counted_own, same_times}
use Rattle.flat_tree.proofs.ListingLaws.{Ascends, keys_times, names_ascend, once_if, same_ascending, times, text_cmp}
use Rattle.unix_world.proofs.OrderLaws.{Before, Behind, Equal as Alike, Ranked, behind, text_order}

leads : (o : Ordering) → is_lt o ≡ true → o ≡ Less
leads Less h = refl
leads Equal h = absurd (true≢false (sym h))
leads Greater h = absurd (true≢false (sym h))

is_less : (x y : List ℕ) → text_before x y ≡ true → slice_cmp nat_cmp x y ≡ Less
is_less x y h = leads (slice_cmp nat_cmp x y) (text_cmp x y ∙ h)

is_greater : (x y : List ℕ) → text_before y x ≡ true → slice_cmp nat_cmp x y ≡ Greater
is_greater x y h = nat_list_cmp_total.antisymm x y ∙ ap ordering_reverse (is_less y x h)

-- what holds of the keys and of a new one holds of the keys with it
each_put : (P : List ℕ → Type 0) (es : List (List ℕ × Unit {0})) (name : List ℕ) → AllByRecursion P (keys_of es) → P name → AllByRecursion P (keys_of (insert_entry (slice_cmp nat_cmp) es name tt))
each_put P [] name all is = (is, tt)
each_put P (e ∷ es) name all is = by (slice_cmp nat_cmp name e.0) (each_put P es name all.1 is)
  where
    by : (o : Ordering) → AllByRecursion P (keys_of (insert_entry (slice_cmp nat_cmp) es name tt)) → AllByRecursion P (keys_of (match_ordering o ((name, tt) ∷ e ∷ es) ((e.0, tt) ∷ es) (e ∷ insert_entry (slice_cmp nat_cmp) es name tt)))
    by Less rest = (is, all)
    by Equal rest = all
    by Greater rest = (all.0, rest)

-- a new name goes to its place
record PutSo (es : List (List ℕ × Unit {0})) (name : List ℕ) : Type 0 where
  up : Ascends (keys_of (insert_entry (slice_cmp nat_cmp) es name tt))
  times_are : (x : List ℕ) → times x (keys_of (insert_entry (slice_cmp nat_cmp) es name tt)) ≡ cond (is_part x name) (1 + times x (keys_of es)) (times x (keys_of es))

put_so : (es : List (List ℕ × Unit {0})) (name : List ℕ) → Ascends (keys_of es) → times name (keys_of es) ≡ 0 → PutSo es name
put_so [] name up none = record { up = (tt, tt); times_are = λ x. refl }
put_so (e ∷ es) name up none = by (text_order.ranked name e.0) (λ less. put_so es name up.1 less)
  where
    not_here : (b : Bool) → cond b (1 + times name (keys_of es)) (times name (keys_of es)) ≡ 0 → (b ≡ false) × (times name (keys_of es) ≡ 0)
    not_here true h = absurd (omega (arith, h))
    not_here false h = (refl, h)

    swap : (a b : Bool) (n m : ℕ) → m ≡ cond a (1 + n) n → cond b (1 + m) m ≡ cond a (1 + cond b (1 + n) n) (cond b (1 + n) n)
    swap true true n m h = omega (arith, h)
    swap true false n m h = h
    swap false true n m h = ap (λ i. 1 + i) h
    swap false false n m h = h

    first : text_before name e.0 ≡ true → AllByRecursion (λ (z : List ℕ). text_before z name ≡ false) (keys_of es)
    first less =
        each_weaken (λ (z : List ℕ). text_before z e.0 ≡ false) (λ (z : List ℕ). text_before z name ≡ false) (keys_of es)
        (λ z off. elim (cases_Bool (text_before z name)) [
          | inl before ↦ absurd (true≢false (sym (text_order.through z name e.0 before less) ∙ off))
          | inr other ↦ other
        ]) up.0

    by : Ranked text_before name e.0 → (times name (keys_of es) ≡ 0 → PutSo es name) → PutSo (e ∷ es) name
    by (Alike same) rest = absurd (true≢false (sym (subst (λ (k : List ℕ). is_part name k ≡ true) same (part_itself name)) ∙ (not_here (is_part name e.0) none).0))
    by (Before less) rest =
        let is : insert_entry (slice_cmp nat_cmp) (e ∷ es) name tt ≡ (name, tt) ∷ e ∷ es = ap (λ o. match_ordering o ((name, tt) ∷ e ∷ es) ((e.0, tt) ∷ es) (e ∷ insert_entry (slice_cmp nat_cmp) es name tt)) (is_less name e.0 less) in
        record {
          up = subst (λ (l : List (List ℕ × Unit {0})). Ascends (keys_of l)) (sym is) ((behind text_before (pointwise nat_eq) text_order name e.0 less, first less), up);
          times_are = λ x. ap (λ (l : List (List ℕ × Unit {0})). times x (keys_of l)) is;
        }
    by (Behind more) rest =
        let is : insert_entry (slice_cmp nat_cmp) (e ∷ es) name tt ≡ e ∷ insert_entry (slice_cmp nat_cmp) es name tt = ap (λ o. match_ordering o ((name, tt) ∷ e ∷ es) ((e.0, tt) ∷ es) (e ∷ insert_entry (slice_cmp nat_cmp) es name tt)) (is_greater name e.0 more) in
        let so = rest (not_here (is_part name e.0) none).1 in
        record {
          up = subst (λ (l : List (List ℕ × Unit {0})). Ascends (keys_of l)) (sym is) (each_put (λ (z : List ℕ). text_before z e.0 ≡ false) es name up.0 (behind text_before (pointwise nat_eq) text_order e.0 name more), so.up);
          times_are = λ x. ap (λ (l : List (List ℕ × Unit {0})). times x (keys_of l)) is ∙ swap (is_part x name) (is_part x e.0) (times x (keys_of es)) (times x (keys_of (insert_entry (slice_cmp nat_cmp) es name tt))) (so.times_are x);
        }

-- names that differ are sorted
record SortedSo (es : List (List ℕ × Unit {0})) (names : List (List ℕ)) : Type 0 where
  up : Ascends (keys_of (fold with_sorted es names))
  times_are : (x : List ℕ) → times x (keys_of (fold with_sorted es names)) ≡ times x (keys_of es) + times x names

sorted_so : (names : List (List ℕ)) (es : List (List ℕ × Unit {0})) → Ascends (keys_of es) → ((x : List ℕ) → times x (keys_of es) + times x names ≤ 1) → SortedSo es names
sorted_so [] es up few = record { up = up; times_are = λ x. omega arith }
sorted_so (name ∷ names) es up few =
    let one : times name (name ∷ names) ≡ 1 + times name names = ap (λ b. cond b (1 + times name names) (times name names)) (part_itself name) in
    let put = put_so es name up (let h = few name in omega (arith, one, h)) in
    let rest = sorted_so names (with_sorted es name) put.up (λ x. by (is_part x name) (times x (keys_of es)) (times x names) (times x (keys_of (with_sorted es name))) (put.times_are x) (few x)) in
    record { up = rest.up; times_are = λ x. rest.times_are x ∙ sum (is_part x name) (times x (keys_of es)) (times x names) (times x (keys_of (with_sorted es name))) (put.times_are x) }
  where
    by : (b : Bool) (m n k : ℕ) → k ≡ cond b (1 + m) m → m + cond b (1 + n) n ≤ 1 → k + n ≤ 1
    by true m n k h few = omega (arith, h, few)
    by false m n k h few = omega (arith, h, few)

    sum : (b : Bool) (m n k : ℕ) → k ≡ cond b (1 + m) m → k + n ≡ m + cond b (1 + n) n
    sum true m n k h = omega (arith, h)
    sum false m n k h = ap (λ i. i + n) h

once_few : (b : Bool) → 0 + once_if b ≤ 1
once_few true = omega arith
once_few false = omega arith

-- so a server's listing is the one-kernel Unix's
pub lists_same : (ties : Ties) (u : Unix) (root : Parts) (tree : Tree) (path : Parts) (many : ℕ) → AreNames ties u.roots root u.nodes tree → IsSound tree → AreAscending u.nodes → IsPrefix root path → count_answer tree path ≡ Ok many → listing (names_in tree path) ≡ unix_listing u path
lists_same ties u root tree path many are sound ascending below ok =
    let own = counted_own ties u.roots root u.nodes tree path many are below ok in
    let so = sorted_so (names_in tree path) [] tt (λ x. subst (λ n. 0 + n ≤ 1) (sym (once_there x)) (once_few (is_some (lookup (is_part x) (entries_in tree path))))) in
    ap lines (same_ascending (sorted_names (names_in tree path)) (unix_names_in u.nodes path) so.up (names_ascend path u.nodes ascending)
    (λ x. so.times_are x ∙ zero_plus (times x (names_in tree path)) ∙ same_times ties u.roots root u.nodes tree path are sound below own x))
  where
    once_there : (x : List ℕ) → times x (names_in tree path) ≡ once_if (is_some (lookup (is_part x) (entries_in tree path)))
    once_there x = keys_times x (entries_in tree path) (directory_in tree path sound.directories).once

    zero_plus : (n : ℕ) → 0 + n ≡ n
    zero_plus n = omega arith
