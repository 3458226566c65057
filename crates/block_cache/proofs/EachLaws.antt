-- A fact of each entry of a list of keys and values, and how many there are, after an edit of the list.
use Rattle.std.proofs.Common.{◌≡◌, suc, ◌≤◌, Bool, true, false, cond, List, [], ◌∷◌, length, Option, Some, None, refl, ap, subst, arith}
use Rattle.std.specs.List.{AllByRecursion, filter}
use Rattle.std.specs.Option.{option_map_or}
use Rattle.std.specs.Map.{lookup, lookup_entry, remove_entry, set_value}
use Rattle.lru.specs.LruCache.{promoted}
use Rattle.sprite_ids.proofs.ListLaws.{some_is}

module _ {K V : Type 0} (test : K → Bool) where
  module _ (P : K × V → Type 0) where
    removed_by : (e : K × V) (es : List (K × V)) (b : Bool) → P e → AllByRecursion P es → AllByRecursion P (remove_entry test es) → AllByRecursion P (cond b es (e ∷ remove_entry test es))
    removed_by e es true p h r = h
    removed_by e es false p h r = (p, r)

    -- an entry left out
    pub each_removed : (es : List (K × V)) → AllByRecursion P es → AllByRecursion P (remove_entry test es)
    each_removed [] h = tt
    each_removed (e ∷ es) h = removed_by e es (test e.0) h.0 h.1 (each_removed es h.1)

    found_by : (e found : K × V) (es : List (K × V)) (b : Bool) → P e → (lookup_entry test es ≡ Some found → P found) → cond b (Some e) (lookup_entry test es) ≡ Some found → P found
    found_by e found es true p h is = subst P (some_is e found is) p
    found_by e found es false p h is = h is

    -- the entry that is found
    pub each_found : (es : List (K × V)) (found : K × V) → AllByRecursion P es → lookup_entry test es ≡ Some found → P found
    each_found [] found h is = cc
    each_found (e ∷ es) found h is = found_by e found es (test e.0) h.0 (λ later. each_found es found h.1 later) is

    promoted_by : (es : List (K × V)) (o : Option (K × V)) → lookup_entry test es ≡ o → AllByRecursion P es → AllByRecursion P (option_map_or (λ e. e ∷ remove_entry test es) o es)
    promoted_by es None is h = h
    promoted_by es (Some e) is h = (each_found es e h is, each_removed es h)

    -- an entry moved to the front
    pub each_promoted : (es : List (K × V)) → AllByRecursion P es → AllByRecursion P (promoted test es)
    each_promoted es h = promoted_by es (lookup_entry test es) refl h

    set_by : (e : K × V) (es : List (K × V)) (w : V) (b : Bool) → P e → P (e.0, w) → AllByRecursion P es → AllByRecursion P (set_value test es w) → AllByRecursion P (cond b ((e.0, w) ∷ es) (e ∷ set_value test es w))
    set_by e es w true p q h r = (q, h)
    set_by e es w false p q h r = (p, r)

    -- a value that may stand at each key put in the place of another
    pub each_set_value : (es : List (K × V)) (w : V) → ((k : K) (v : V) → P (k, v) → P (k, w)) → AllByRecursion P es → AllByRecursion P (set_value test es w)
    each_set_value [] w f h = tt
    each_set_value (e ∷ es) w f h = set_by e es w (test e.0) h.0 (f e.0 e.1 h.0) h.1 (each_set_value es w f h.1)

    value_by : (e : K × V) (v : V) (es : List (K × V)) (b : Bool) → P e → (lookup test es ≡ Some v → (k : K) × P (k, v)) → cond b (Some e.1) (lookup test es) ≡ Some v → (k : K) × P (k, v)
    value_by e v es true p h is = (e.0, subst (λ (w : V). P (e.0, w)) (some_is e.1 v is) p)
    value_by e v es false p h is = h is

    -- the value that is found, at some key
    pub each_value : (es : List (K × V)) (v : V) → AllByRecursion P es → lookup test es ≡ Some v → (k : K) × P (k, v)
    each_value [] v h is = cc
    each_value (e ∷ es) v h is = value_by e v es (test e.0) h.0 (λ later. each_value es v h.1 later) is

  fewer_by : (e : K × V) (es : List (K × V)) (b : Bool) → length (remove_entry test es) ≤ length es → length (cond b es (e ∷ remove_entry test es)) ≤ length (e ∷ es)
  fewer_by e es true h = omega arith
  fewer_by e es false h = omega (arith, h)

  -- no more entries after one is left out
  pub removed_length : (es : List (K × V)) → length (remove_entry test es) ≤ length es
  removed_length [] = omega arith
  removed_length (e ∷ es) = fewer_by e es (test e.0) (removed_length es)

  one_by : (e found : K × V) (es : List (K × V)) (b : Bool) → (lookup_entry test es ≡ Some found → suc (length (remove_entry test es)) ≡ length es) → cond b (Some e) (lookup_entry test es) ≡ Some found → suc (length (cond b es (e ∷ remove_entry test es))) ≡ length (e ∷ es)
  one_by e found es true h is = refl
  one_by e found es false h is = ap suc (h is)

  -- one less after one that is found is left out
  pub removed_one : (es : List (K × V)) (found : K × V) → lookup_entry test es ≡ Some found → suc (length (remove_entry test es)) ≡ length es
  removed_one [] found is = cc
  removed_one (e ∷ es) found is = one_by e found es (test e.0) (λ later. removed_one es found later) is

  as_many_by : (es : List (K × V)) (o : Option (K × V)) → lookup_entry test es ≡ o → length (option_map_or (λ e. e ∷ remove_entry test es) o es) ≡ length es
  as_many_by es None is = refl
  as_many_by es (Some e) is = removed_one es e is

  -- as many after one is moved to the front
  pub promoted_length : (es : List (K × V)) → length (promoted test es) ≡ length es
  promoted_length es = as_many_by es (lookup_entry test es) refl

  put_by : (e : K × V) (es : List (K × V)) (w : V) (b : Bool) → length (set_value test es w) ≡ length es → length (cond b ((e.0, w) ∷ es) (e ∷ set_value test es w)) ≡ length (e ∷ es)
  put_by e es w true h = refl
  put_by e es w false h = ap suc h

  -- and after a value is put in the place of another
  pub set_length : (es : List (K × V)) (w : V) → length (set_value test es w) ≡ length es
  set_length [] w = refl
  set_length (e ∷ es) w = put_by e es w (test e.0) (set_length es w)

filtered_by : {X : Type 0} (x : X) (xs ys : List X) (b : Bool) → length ys ≤ length xs → length (cond b (x ∷ ys) ys) ≤ length (x ∷ xs)
filtered_by x xs ys true h = omega (arith, h)
filtered_by x xs ys false h = omega (arith, h)

-- no more items after a filter
pub filter_length : {X : Type 0} (p : X → Bool) (xs : List X) → length (filter p xs) ≤ length xs
filter_length p [] = omega arith
filter_length p (x ∷ xs) = filtered_by x xs (filter p xs) (p x) (filter_length p xs)
