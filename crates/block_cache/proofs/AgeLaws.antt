-- Lists by ascending numbers, and those that tell the blocks by their last uses.
use Rattle.std.proofs.Common.{◌≡◌, ℕ, ◌+◌, ◌<◌, ◌≤◌, ◌==◌, Bool, true, false, cond, List, [], ◌∷◌, ◌++◌, Option, Some, None, refl, sym, ap, subst, ◌∙◌, nat_cmp, is_eq, arith}
use Rattle.std.specs.Ordering.{match_ordering}
use Rattle.std.specs.declared.cmp.Ordering.{Ordering}
use Rattle.std.specs.declared.cmp.Ordering.TheVariants.{Less, Equal, Greater}
use Rattle.std.specs.BTreeMap.{insert_entry, is_at as is_age}
use Rattle.std.specs.List.{AllByRecursion}
use Rattle.std.specs.Map.{lookup, remove_entry, set_value}
use Rattle.std.proofs.lemmas.Bool.{lt-ltb, le-ltb, ne_eqb}
use Rattle.std.proofs.lemmas.List.{append-nil}
use Rattle.sprite_ids.proofs.ListLaws.{some_is, each_append}
use Rattle.block_cache.specs.declared.key.BlockKey.{BlockKey}
use Rattle.block_cache.specs.declared.block.Block.{Block}
use Rattle.block_cache.specs.declared.kept.Kept.{Kept}
use Rattle.block_cache.specs.Ages.{Rows, plain_of, listed, aged, Descend}
use Rattle.block_cache.proofs.KeyLaws.{eq_self}

less : (a b : ℕ) → a < b → nat_cmp a b ≡ Less
less a b h = ap (λ t. cond t Less (cond (a == b) Equal Greater)) (lt-ltb a b h)

more : (a b : ℕ) → b < a → nat_cmp a b ≡ Greater
more a b h =
    ap (λ t. cond t Less (cond (a == b) Equal Greater)) (le-ltb a b (omega (arith, h)))
    ∙ ap (λ t. cond t Equal Greater) (ne_eqb a b (λ same. omega (arith, h, same)))

same : (a : ℕ) → nat_cmp a a ≡ Equal
same a = ap (λ t. cond t Less (cond (a == a) Equal Greater)) (le-ltb a a (omega arith)) ∙ ap (λ t. cond t Equal Greater) (eq_self a)

module _ {V : Type 0} where
  -- all numbers are below one
  abbrev Below : ℕ → List (ℕ × V) → Type 0
  Below n xs = AllByRecursion (λ (x : ℕ × V). x.0 < n) xs

  -- a number above all goes to the end
  insert_last : (xs : List (ℕ × V)) (n : ℕ) (v : V) → Below n xs → insert_entry nat_cmp xs n v ≡ xs ++ (n, v) ∷ []
  insert_last [] n v h = refl
  insert_last (x ∷ xs) n v h =
      ap (λ o. match_ordering o ((n, v) ∷ x ∷ xs) ((x.0, v) ∷ xs) (x ∷ insert_entry nat_cmp xs n v)) (more n x.0 h.0) ∙ ap (λ ys. x ∷ ys) (insert_last xs n v h.1)

  before_by : (o : Ordering) (x y : ℕ × V) (xs : List (ℕ × V)) (n : ℕ) (v : V) → insert_entry nat_cmp (xs ++ y ∷ []) n v ≡ insert_entry nat_cmp xs n v ++ y ∷ [] → match_ordering o ((n, v) ∷ x ∷ (xs ++ y ∷ [])) ((x.0, v) ∷ (xs ++ y ∷ [])) (x ∷ insert_entry nat_cmp (xs ++ y ∷ []) n v) ≡ match_ordering o ((n, v) ∷ x ∷ xs) ((x.0, v) ∷ xs) (x ∷ insert_entry nat_cmp xs n v) ++ y ∷ []
  before_by Less x y xs n v h = refl
  before_by Equal x y xs n v h = refl
  before_by Greater x y xs n v h = ap (λ ys. x ∷ ys) h

  -- and one below the last goes before it
  insert_before : (xs : List (ℕ × V)) (y : ℕ × V) (n : ℕ) (v : V) → n < y.0 → insert_entry nat_cmp (xs ++ y ∷ []) n v ≡ insert_entry nat_cmp xs n v ++ y ∷ []
  insert_before [] y n v h = ap (λ o. match_ordering o ((n, v) ∷ y ∷ []) ((y.0, v) ∷ []) (y ∷ (n, v) ∷ [])) (less n y.0 h)
  insert_before (x ∷ xs) y n v h = before_by (nat_cmp n x.0) x y xs n v (insert_before xs y n v h)

  insert_listed : (xs : List (ℕ × V)) (age : ℕ) (o : Option V) (n : ℕ) (v : V) → n < age → insert_entry nat_cmp (xs ++ listed age o) n v ≡ insert_entry nat_cmp xs n v ++ listed age o
  insert_listed xs age None n v h = ap (λ ys. insert_entry nat_cmp ys n v) (append-nil xs) ∙ sym (append-nil (insert_entry nat_cmp xs n v))
  insert_listed xs age (Some w) n v h = insert_before xs (age, w) n v h

  passed : (x : ℕ × V) (xs ys : List (ℕ × V)) (n : ℕ) → is_age (nat_cmp n) x.0 ≡ false → remove_entry (is_age (nat_cmp n)) (x ∷ xs) ≡ x ∷ remove_entry (is_age (nat_cmp n)) xs
  passed x xs ys n away = ap (λ b. cond b xs (x ∷ remove_entry (is_age (nat_cmp n)) xs)) away

  -- the last is taken out
  remove_last : (xs : List (ℕ × V)) (n : ℕ) (v : V) → Below n xs → remove_entry (is_age (nat_cmp n)) (xs ++ (n, v) ∷ []) ≡ xs
  remove_last [] n v h = ap (λ o. cond (is_eq o) [] ((n, v) ∷ [])) (same n)
  remove_last (x ∷ xs) n v h =
      ap (λ o. cond (is_eq o) (xs ++ (n, v) ∷ []) (x ∷ remove_entry (is_age (nat_cmp n)) (xs ++ (n, v) ∷ []))) (more n x.0 h.0) ∙ ap (λ ys. x ∷ ys) (remove_last xs n v h.1)

  out_by : (b : Bool) (x y : ℕ × V) (xs : List (ℕ × V)) (n : ℕ) → remove_entry (is_age (nat_cmp n)) (xs ++ y ∷ []) ≡ remove_entry (is_age (nat_cmp n)) xs ++ y ∷ [] → cond b (xs ++ y ∷ []) (x ∷ remove_entry (is_age (nat_cmp n)) (xs ++ y ∷ [])) ≡ cond b xs (x ∷ remove_entry (is_age (nat_cmp n)) xs) ++ y ∷ []
  out_by true x y xs n h = refl
  out_by false x y xs n h = ap (λ ys. x ∷ ys) h

  -- one before the last is
  remove_before : (xs : List (ℕ × V)) (y : ℕ × V) (n : ℕ) → n < y.0 → remove_entry (is_age (nat_cmp n)) (xs ++ y ∷ []) ≡ remove_entry (is_age (nat_cmp n)) xs ++ y ∷ []
  remove_before [] y n h = ap (λ o. cond (is_eq o) [] (y ∷ [])) (less n y.0 h)
  remove_before (x ∷ xs) y n h = out_by (is_age (nat_cmp n) x.0) x y xs n (remove_before xs y n h)

  remove_listed : (xs : List (ℕ × V)) (age : ℕ) (o : Option V) (n : ℕ) → n < age → remove_entry (is_age (nat_cmp n)) (xs ++ listed age o) ≡ remove_entry (is_age (nat_cmp n)) xs ++ listed age o
  remove_listed xs age None n h = ap (remove_entry (is_age (nat_cmp n))) (append-nil xs) ∙ sym (append-nil (remove_entry (is_age (nat_cmp n)) xs))
  remove_listed xs age (Some w) n h = remove_before xs (age, w) n h

-- numbers that descend from one descend from a greater one
descend_more : (a n : ℕ) (rows : Rows) → a ≤ n → Descend a rows → Descend n rows
descend_more a n [] le h = tt
descend_more a n (row ∷ rest) le h = (omega (arith, le, h.0), h.1)

module _ (test : BlockKey → Bool) where
  found_by : (row : BlockKey × Kept) (rest : Rows) (kept : Kept) (n : ℕ) (b : Bool) → row.1.age < n → (lookup test rest ≡ Some kept → kept.age < row.1.age) → cond b (Some row.1) (lookup test rest) ≡ Some kept → kept.age < n
  found_by row rest kept n true h more is = subst (λ (k : Kept). k.age < n) (some_is row.1 kept is) h
  found_by row rest kept n false h more is = omega (arith, h, more is)

  -- the number of a block that is found is below
  pub found_below : (rows : Rows) (kept : Kept) (n : ℕ) → Descend n rows → lookup test rows ≡ Some kept → kept.age < n
  found_below [] kept n h is = cc
  found_below (row ∷ rest) kept n h is = found_by row rest kept n (test row.0) h.0 (λ later. found_below rest kept row.1.age h.1 later) is

  removed_by : (row : BlockKey × Kept) (rest : Rows) (n : ℕ) (b : Bool) → Descend n (row ∷ rest) → Descend row.1.age (remove_entry test rest) → Descend n (cond b rest (row ∷ remove_entry test rest))
  removed_by row rest n true h more = descend_more row.1.age n rest (omega (arith, h.0)) h.1
  removed_by row rest n false h more = (h.0, more)

  -- after a block is left out
  pub descend_removed : (rows : Rows) (n : ℕ) → Descend n rows → Descend n (remove_entry test rows)
  descend_removed [] n h = tt
  descend_removed (row ∷ rest) n h = removed_by row rest n (test row.0) h (descend_removed rest row.1.age h.1)

  set_by : (row : BlockKey × Kept) (rest : Rows) (kept new : Kept) (n : ℕ) (b : Bool) → new.age ≡ kept.age → Descend n (row ∷ rest) → (lookup test rest ≡ Some kept → Descend row.1.age (set_value test rest new)) → cond b (Some row.1) (lookup test rest) ≡ Some kept → Descend n (cond b ((row.0, new) ∷ rest) (row ∷ set_value test rest new))
  set_by row rest kept new n true e h more is =
      let one : row.1.age ≡ new.age = ap (λ (k : Kept). k.age) (some_is row.1 kept is) ∙ sym e in
      (subst (λ a. a < n) one h.0, subst (λ a. Descend a rest) one h.1)
  set_by row rest kept new n false e h more is = (h.0, more is)

  -- and after one is put in the place of another of its number
  pub descend_set : (rows : Rows) (kept new : Kept) (n : ℕ) → new.age ≡ kept.age → Descend n rows → lookup test rows ≡ Some kept → Descend n (set_value test rows new)
  descend_set [] kept new n e h is = tt
  descend_set (row ∷ rest) kept new n e h is = set_by row rest kept new n (test row.0) e h (λ later. descend_set rest kept new row.1.age e h.1 later) is

module _ {V : Type 0} (pick : BlockKey × Block → Option V) where
  -- what is listed of a block whose kind is picked
  abbrev pub IsPicked : Kept → (BlockKey → V) → Type 0
  IsPicked kept what = (key : BlockKey) → pick (key, kept.block) ≡ Some (what key)

  abbrev pub IsLeft : Kept → Type 0
  IsLeft kept = (key : BlockKey) → pick (key, kept.block) ≡ None

  below_listed : (age n : ℕ) (o : Option V) → age < n → Below n (listed age o)
  below_listed age n None h = tt
  below_listed age n (Some v) h = (h, tt)

  aged_below : (rows : Rows) (n : ℕ) → Descend n rows → Below n (aged pick rows)
  aged_below [] n h = tt
  aged_below (row ∷ rest) n h =
      each_append (λ (x : ℕ × V). x.0 < n) (aged pick rest) (listed row.1.age (pick (plain_of row))) (aged_below rest n (descend_more row.1.age n rest (omega (arith, h.0)) h.1)) (below_listed row.1.age n (pick (plain_of row)) h.0)

  -- a block at the front
  pub front_picked : (rows : Rows) (key : BlockKey) (new : Kept) (what : BlockKey → V) → Descend new.age rows → IsPicked new what → aged pick ((key, new) ∷ rows) ≡ insert_entry nat_cmp (aged pick rows) new.age (what key)
  front_picked rows key new what h is =
      ap (λ o. aged pick rows ++ listed new.age o) (is key) ∙ sym (insert_last (aged pick rows) new.age (what key) (aged_below rows new.age h))

  pub front_left : (rows : Rows) (key : BlockKey) (new : Kept) → IsLeft new → aged pick ((key, new) ∷ rows) ≡ aged pick rows
  front_left rows key new is = ap (λ o. aged pick rows ++ listed new.age o) (is key) ∙ append-nil (aged pick rows)

  -- the row of a block is the last of the rows before it
  at_head : (row : BlockKey × Kept) (rest : Rows) (kept : Kept) (what : BlockKey → V) → row.1 ≡ kept → IsPicked kept what → Descend row.1.age rest → remove_entry (is_age (nat_cmp kept.age)) (aged pick (row ∷ rest)) ≡ aged pick rest
  at_head row rest kept what one is h =
      let there : listed row.1.age (pick (plain_of row)) ≡ (kept.age, what row.0) ∷ [] = ap (λ (k : Kept). listed k.age (pick (row.0, k.block))) one ∙ ap (listed kept.age) (is row.0) in
      let below = aged_below rest kept.age (subst (λ (k : Kept). Descend k.age rest) one h) in
      ap (λ (xs : List (ℕ × V)). remove_entry (is_age (nat_cmp kept.age)) (aged pick rest ++ xs)) there ∙ remove_last (aged pick rest) kept.age (what row.0) below

  left_at_head : (row : BlockKey × Kept) (rest : Rows) (kept : Kept) → row.1 ≡ kept → IsLeft kept → aged pick (row ∷ rest) ≡ aged pick rest
  left_at_head row rest kept one is =
      ap (λ (k : Kept). aged pick rest ++ listed k.age (pick (row.0, k.block))) one ∙ ap (λ o. aged pick rest ++ listed kept.age o) (is row.0) ∙ append-nil (aged pick rest)

  module _ (test : BlockKey → Bool) where
    out_picked_by : (row : BlockKey × Kept) (rest : Rows) (kept : Kept) (what : BlockKey → V) (b : Bool) → IsPicked kept what → Descend row.1.age rest → (lookup test rest ≡ Some kept → remove_entry (is_age (nat_cmp kept.age)) (aged pick rest) ≡ aged pick (remove_entry test rest)) → cond b (Some row.1) (lookup test rest) ≡ Some kept → remove_entry (is_age (nat_cmp kept.age)) (aged pick (row ∷ rest)) ≡ aged pick (cond b rest (row ∷ remove_entry test rest))
    out_picked_by row rest kept what true is h more found = at_head row rest kept what (some_is row.1 kept found) is h
    out_picked_by row rest kept what false is h more found =
        remove_listed (aged pick rest) row.1.age (pick (plain_of row)) kept.age (found_below test rest kept row.1.age h found) ∙ ap (λ xs. xs ++ listed row.1.age (pick (plain_of row))) (more found)

    -- a block of the kind left out
    pub removed_picked : (rows : Rows) (kept : Kept) (what : BlockKey → V) (n : ℕ) → IsPicked kept what → Descend n rows → lookup test rows ≡ Some kept → remove_entry (is_age (nat_cmp kept.age)) (aged pick rows) ≡ aged pick (remove_entry test rows)
    removed_picked [] kept what n is h found = cc
    removed_picked (row ∷ rest) kept what n is h found =
        out_picked_by row rest kept what (test row.0) is h.1 (λ later. removed_picked rest kept what row.1.age is h.1 later) found

    out_left_by : (row : BlockKey × Kept) (rest : Rows) (kept : Kept) (b : Bool) → IsLeft kept → (lookup test rest ≡ Some kept → aged pick rest ≡ aged pick (remove_entry test rest)) → cond b (Some row.1) (lookup test rest) ≡ Some kept → aged pick (row ∷ rest) ≡ aged pick (cond b rest (row ∷ remove_entry test rest))
    out_left_by row rest kept true is more found = left_at_head row rest kept (some_is row.1 kept found) is
    out_left_by row rest kept false is more found = ap (λ xs. xs ++ listed row.1.age (pick (plain_of row))) (more found)

    -- and one of another kind
    pub removed_left : (rows : Rows) (kept : Kept) → IsLeft kept → lookup test rows ≡ Some kept → aged pick rows ≡ aged pick (remove_entry test rows)
    removed_left [] kept is found = cc
    removed_left (row ∷ rest) kept is found = out_left_by row rest kept (test row.0) is (λ later. removed_left rest kept is later) found

    gone_by : (row : BlockKey × Kept) (rest : Rows) (kept new : Kept) (what : BlockKey → V) (b : Bool) → IsPicked kept what → IsLeft new → Descend row.1.age rest → (lookup test rest ≡ Some kept → remove_entry (is_age (nat_cmp kept.age)) (aged pick rest) ≡ aged pick (set_value test rest new)) → cond b (Some row.1) (lookup test rest) ≡ Some kept → remove_entry (is_age (nat_cmp kept.age)) (aged pick (row ∷ rest)) ≡ aged pick (cond b ((row.0, new) ∷ rest) (row ∷ set_value test rest new))
    gone_by row rest kept new what true is away h more found = at_head row rest kept what (some_is row.1 kept found) is h ∙ sym (front_left rest row.0 new away)
    gone_by row rest kept new what false is away h more found =
        remove_listed (aged pick rest) row.1.age (pick (plain_of row)) kept.age (found_below test rest kept row.1.age h found) ∙ ap (λ xs. xs ++ listed row.1.age (pick (plain_of row))) (more found)

    -- a block that is of the kind no more
    pub set_left : (rows : Rows) (kept new : Kept) (what : BlockKey → V) (n : ℕ) → IsPicked kept what → IsLeft new → Descend n rows → lookup test rows ≡ Some kept → remove_entry (is_age (nat_cmp kept.age)) (aged pick rows) ≡ aged pick (set_value test rows new)
    set_left [] kept new what n is away h found = cc
    set_left (row ∷ rest) kept new what n is away h found =
        gone_by row rest kept new what (test row.0) is away h.1 (λ later. set_left rest kept new what row.1.age is away h.1 later) found

    come_by : (row : BlockKey × Kept) (rest : Rows) (kept new : Kept) (what : BlockKey → V) (key : BlockKey) (b : Bool) → test row.0 ≡ b → (test row.0 ≡ true → key ≡ row.0) → IsLeft kept → IsPicked new what → new.age ≡ kept.age → Descend row.1.age rest → (lookup test rest ≡ Some kept → insert_entry nat_cmp (aged pick rest) kept.age (what key) ≡ aged pick (set_value test rest new)) → cond b (Some row.1) (lookup test rest) ≡ Some kept → insert_entry nat_cmp (aged pick (row ∷ rest)) kept.age (what key) ≡ aged pick (cond b ((row.0, new) ∷ rest) (row ∷ set_value test rest new))
    come_by row rest kept new what key true e one away is same_age h more found =
        let as_new : row.1.age ≡ new.age = ap (λ (k : Kept). k.age) (some_is row.1 kept found) ∙ sym same_age in
        ap (λ xs. insert_entry nat_cmp xs kept.age (what key)) (left_at_head row rest kept (some_is row.1 kept found) away)
        ∙ ap (λ n. insert_entry nat_cmp (aged pick rest) n (what key)) (sym same_age)
        ∙ ap (λ (k : BlockKey). insert_entry nat_cmp (aged pick rest) new.age (what k)) (one e)
        ∙ sym (front_picked rest row.0 new what (subst (λ n. Descend n rest) as_new h) is)
    come_by row rest kept new what key false e one away is same_age h more found =
        insert_listed (aged pick rest) row.1.age (pick (plain_of row)) kept.age (what key) (found_below test rest kept row.1.age h found) ∙ ap (λ xs. xs ++ listed row.1.age (pick (plain_of row))) (more found)

    -- a block that comes to be of the kind
    pub set_picked : (rows : Rows) (kept new : Kept) (what : BlockKey → V) (key : BlockKey) (n : ℕ) → ((k : BlockKey) → test k ≡ true → key ≡ k) → IsLeft kept → IsPicked new what → new.age ≡ kept.age → Descend n rows → lookup test rows ≡ Some kept → insert_entry nat_cmp (aged pick rows) kept.age (what key) ≡ aged pick (set_value test rows new)
    set_picked [] kept new what key n one away is same_age h found = cc
    set_picked (row ∷ rest) kept new what key n one away is same_age h found =
        come_by row rest kept new what key (test row.0) refl (one row.0) away is same_age h.1 (λ later. set_picked rest kept new what key row.1.age one away is same_age h.1 later) found
