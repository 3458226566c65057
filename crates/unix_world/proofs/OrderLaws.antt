-- Orders of items, of texts and of paths: how two stand to each other, and what stands behind another.
use Rattle.std.proofs.Common.{◌≡◌, ℕ, Bool, true, false, cond, ◌&&◌, ◌||◌, List, [], ◌∷◌, None, refl, sym, ap, ap₂, subst, ◌∙◌, arith, inl, inr, nat_lt, nat_eq}
use Rattle.std.specs.Prelude.{◌⊎◌, ◌==◌}
use Rattle.std.specs.Cmp.Lexicographic.{pointwise, pointwise_decides, bytes_decides}
use Rattle.std.proofs.lemmas.Bool.{true≢false, eq-eqb, eqb-true, lt-ltb, ltb-true}
use Rattle.unix_calls.specs.Tree.{name_below, path_before, same_path, text_before}
use Rattle.unix_calls.proofs.ProcessLaws.{Compared, Same, Less, More, compared}
use Rattle.unix_world.specs.Paths.{is_up_to}

-- how two stand to each other
pub data Ranked {X : Type 0} (before : X → X → Bool) (a b : X) : Type 0 where
  Equal : a ≡ b → Ranked before a b
  Before : before a b ≡ true → Ranked before a b
  Behind : before b a ≡ true → Ranked before a b

-- an order, with a test whether two are the same
pub record IsOrder {X : Type 0} (before same : X → X → Bool) : Type 0 where
  pub ranked : (a b : X) → Ranked before a b
  pub through : (a b c : X) → before a b ≡ true → before b c ≡ true → before a c ≡ true
  pub never : (a : X) → before a a ≡ true → ⊥
  pub tells : (a b : X) → same a b ≡ true → a ≡ b
  pub told : (a : X) → same a a ≡ true

pub is_false : (b : Bool) → (b ≡ true → ⊥) → b ≡ false
is_false true h = absurd (h refl)
is_false false h = refl

-- an order by parts: the first parts tell, or the rest where these are the same
lead_by : (x y z : Bool) → (x || (y && z)) ≡ true → (x ≡ true) ⊎ ((y ≡ true) × (z ≡ true))
lead_by true y z h = inl refl
lead_by false true true h = inr (refl, refl)
lead_by false true false h = absurd (true≢false (sym h))
lead_by false false z h = absurd (true≢false (sym h))

first : (x y : Bool) → x ≡ true → (x || y) ≡ true
first true y h = refl
first false y h = absurd (true≢false (sym h))

then : (x y z : Bool) → y ≡ true → z ≡ true → (x || (y && z)) ≡ true
then true y z h k = refl
then false true true h k = refl
then false true false h k = absurd (true≢false (sym k))
then false false z h k = absurd (true≢false (sym h))

module _ {X : Type 0} (before same : X → X → Bool) (order : IsOrder before same) where
  -- what stands behind another doesn't stand before it
  pub behind : (a b : X) → before a b ≡ true → before b a ≡ false
  behind a b less = is_false (before b a) (λ more. order.never a (order.through a b a less more))

  -- two of which one is before the other aren't the same
  pub apart : (a b : X) → before a b ≡ true → same a b ≡ false
  apart a b less = is_false (same a b) (λ is. order.never a (subst (λ x. before a x ≡ true) (sym (order.tells a b is)) less))

  pub apart_back : (a b : X) → before b a ≡ true → same a b ≡ false
  apart_back a b less = is_false (same a b) (λ is. order.never b (subst (λ x. before b x ≡ true) (order.tells a b is) less))

  under_by : (a b c : X) → Ranked before a b → before b a ≡ false → before b c ≡ true → before a c ≡ true
  under_by a b c (Equal e) above less = subst (λ x. before x c ≡ true) (sym e) less
  under_by a b c (Before h) above less = order.through a b c h less
  under_by a b c (Behind h) above less = absurd (true≢false (sym h ∙ above))

  -- what isn't behind one is before all that this one is before
  pub under : (a b c : X) → before b a ≡ false → before b c ≡ true → before a c ≡ true
  under a b c above less = under_by a b c (order.ranked a b) above less

  over_by : (a b c : X) → Ranked before b c → before a b ≡ true → before c b ≡ false → before a c ≡ true
  over_by a b c (Equal e) less above = subst (λ x. before a x ≡ true) e less
  over_by a b c (Before h) less above = order.through a b c less h
  over_by a b c (Behind h) less above = absurd (true≢false (sym h ∙ above))

  -- what is before one is before all that aren't before this one
  pub over : (a b c : X) → before a b ≡ true → before c b ≡ false → before a c ≡ true
  over a b c less above = over_by a b c (order.ranked b c) less above

  past_by : (a b : X) → Ranked before a b → before a b ≡ false → same a b ≡ false → before b a ≡ true
  past_by a b (Equal e) above other = absurd (true≢false (sym (subst (λ x. same a x ≡ true) e (order.told a)) ∙ other))
  past_by a b (Before h) above other = absurd (true≢false (sym h ∙ above))
  past_by a b (Behind h) above other = h

  -- what isn't before another and isn't the same is behind it
  pub past : (a b : X) → before a b ≡ false → same a b ≡ false → before b a ≡ true
  past a b above other = past_by a b (order.ranked a b) above other

  -- ---- lists, item by item

  abbrev pub rows : List X → List X → Bool
  rows [] [] = false
  rows [] (b ∷ bs) = true
  rows (a ∷ more) [] = false
  rows (a ∷ more) (b ∷ bs) = before a b || (same a b && rows more bs)

  same_of : (a b : X) → a ≡ b → same a b ≡ true
  same_of a b e = subst (λ x. same a x ≡ true) e (order.told a)

  ranked_by : (a b : X) (more bs : List X) → Ranked before a b → Ranked rows more bs → Ranked rows (a ∷ more) (b ∷ bs)
  ranked_by a b more bs (Equal e) (Equal f) = Equal (ap₂ (λ x xs. x ∷ xs) e f)
  ranked_by a b more bs (Equal e) (Before h) = Before (then (before a b) (same a b) (rows more bs) (same_of a b e) h)
  ranked_by a b more bs (Equal e) (Behind h) = Behind (then (before b a) (same b a) (rows bs more) (same_of b a (sym e)) h)
  ranked_by a b more bs (Before h) rest = Before (first (before a b) (same a b && rows more bs) h)
  ranked_by a b more bs (Behind h) rest = Behind (first (before b a) (same b a && rows bs more) h)

  rows_ranked : (xs ys : List X) → Ranked rows xs ys
  rows_ranked [] [] = Equal refl
  rows_ranked [] (b ∷ bs) = Before refl
  rows_ranked (a ∷ more) [] = Behind refl
  rows_ranked (a ∷ more) (b ∷ bs) = ranked_by a b more bs (order.ranked a b) (rows_ranked more bs)

  through_by : (a b c : X) (more bs cs : List X) → (before a b ≡ true) ⊎ ((same a b ≡ true) × (rows more bs ≡ true)) → (before b c ≡ true) ⊎ ((same b c ≡ true) × (rows bs cs ≡ true)) → (rows more bs ≡ true → rows bs cs ≡ true → rows more cs ≡ true) → rows (a ∷ more) (c ∷ cs) ≡ true
  through_by a b c more bs cs (inl one) (inl two) rest = first (before a c) (same a c && rows more cs) (order.through a b c one two)
  through_by a b c more bs cs (inl one) (inr two) rest =
      first (before a c) (same a c && rows more cs) (subst (λ x. before a x ≡ true) (order.tells b c two.0) one)
  through_by a b c more bs cs (inr one) (inl two) rest =
      first (before a c) (same a c && rows more cs) (subst (λ x. before x c ≡ true) (sym (order.tells a b one.0)) two)
  through_by a b c more bs cs (inr one) (inr two) rest =
      then (before a c) (same a c) (rows more cs) (same_of a c (order.tells a b one.0 ∙ order.tells b c two.0)) (rest one.1 two.1)

  rows_through : (xs ys zs : List X) → rows xs ys ≡ true → rows ys zs ≡ true → rows xs zs ≡ true
  rows_through [] [] zs one two = absurd (true≢false (sym one))
  rows_through [] (b ∷ bs) [] one two = absurd (true≢false (sym two))
  rows_through [] (b ∷ bs) (c ∷ cs) one two = refl
  rows_through (a ∷ more) [] zs one two = absurd (true≢false (sym one))
  rows_through (a ∷ more) (b ∷ bs) [] one two = absurd (true≢false (sym two))
  rows_through (a ∷ more) (b ∷ bs) (c ∷ cs) one two =
      through_by a b c more bs cs (lead_by (before a b) (same a b) (rows more bs) one) (lead_by (before b c) (same b c) (rows bs cs) two) (rows_through more bs cs)

  never_by : (a : X) (more : List X) → (before a a ≡ true) ⊎ ((same a a ≡ true) × (rows more more ≡ true)) → (rows more more ≡ true → ⊥) → ⊥
  never_by a more (inl h) rest = order.never a h
  never_by a more (inr h) rest = rest h.1

  rows_never : (xs : List X) → rows xs xs ≡ true → ⊥
  rows_never [] h = true≢false (sym h)
  rows_never (a ∷ more) h = never_by a more (lead_by (before a a) (same a a) (rows more more) h) (rows_never more)

-- ---- numbers, texts and paths

ranked_number : (a b : ℕ) → Compared a b → Ranked nat_lt a b
ranked_number a b (Same e) = Equal e
ranked_number a b (Less h) = Before (lt-ltb a b h)
ranked_number a b (More h) = Behind (lt-ltb b a h)

number_order : IsOrder nat_lt nat_eq
number_order =
    record {
      ranked = λ a b. ranked_number a b (compared a b);
      through = λ a b c one two. lt-ltb a c (omega (arith, ltb-true a b one, ltb-true b c two));
      never = λ a h. omega (arith, ltb-true a a h);
      tells = λ a b h. eqb-true a b h;
      told = λ a. eq-eqb a a refl;
    }

text_rows : (xs ys : List ℕ) → rows nat_lt nat_eq number_order xs ys ≡ text_before xs ys
text_rows [] [] = refl
text_rows [] (b ∷ bs) = refl
text_rows (a ∷ more) [] = refl
text_rows (a ∷ more) (b ∷ bs) = ap (λ r. nat_lt a b || (a == b && r)) (text_rows more bs)

ranked_as : {X : Type 0} (one two : X → X → Bool) (a b : X) → ((x y : X) → one x y ≡ two x y) → Ranked one a b → Ranked two a b
ranked_as one two a b same (Equal e) = Equal e
ranked_as one two a b same (Before h) = Before (sym (same a b) ∙ h)
ranked_as one two a b same (Behind h) = Behind (sym (same b a) ∙ h)

pub text_order : IsOrder text_before (pointwise nat_eq)
text_order =
    record {
      ranked = λ a b. ranked_as (rows nat_lt nat_eq number_order) text_before a b text_rows (rows_ranked nat_lt nat_eq number_order a b);
      through = λ a b c one two. sym (text_rows a c) ∙ rows_through nat_lt nat_eq number_order a b c (text_rows a b ∙ one) (text_rows b c ∙ two);
      never = λ a h. rows_never nat_lt nat_eq number_order a (text_rows a a ∙ h);
      tells = λ a b h. (bytes_decides a b).0 h;
      told = λ a. (bytes_decides a a).1 refl;
    }

path_rows : (xs ys : List (List ℕ)) → rows text_before (pointwise nat_eq) text_order xs ys ≡ path_before xs ys
path_rows [] [] = refl
path_rows [] (b ∷ bs) = refl
path_rows (a ∷ more) [] = refl
path_rows (a ∷ more) (b ∷ bs) = ap (λ r. text_before a b || (pointwise nat_eq a b && r)) (path_rows more bs)

pub path_order : IsOrder path_before same_path
path_order =
    record {
      ranked = λ a b. ranked_as (rows text_before (pointwise nat_eq) text_order) path_before a b path_rows (rows_ranked text_before (pointwise nat_eq) text_order a b);
      through = λ a b c one two. sym (path_rows a c) ∙ rows_through text_before (pointwise nat_eq) text_order a b c (path_rows a b ∙ one) (path_rows b c ∙ two);
      never = λ a h. rows_never text_before (pointwise nat_eq) text_order a (path_rows a a ∙ h);
      tells = λ a b h. (pointwise_decides bytes_decides a b).0 h;
      told = λ a. (pointwise_decides bytes_decides a a).1 refl;
    }

-- ---- a directory's names among all

up_by : (d x y : List ℕ) (ds xs ys : List (List ℕ)) → (text_before x y ≡ true) ⊎ ((pointwise nat_eq x y ≡ true) × (path_before xs ys ≡ true)) → (text_before y d ≡ true) ⊎ ((pointwise nat_eq y d ≡ true) × (is_up_to ds ys ≡ true)) → (path_before xs ys ≡ true → is_up_to ds ys ≡ true → is_up_to ds xs ≡ true) → is_up_to (d ∷ ds) (x ∷ xs) ≡ true
up_by d x y ds xs ys (inl one) (inl two) rest = first (text_before x d) (pointwise nat_eq x d && is_up_to ds xs) (text_order.through x y d one two)
up_by d x y ds xs ys (inl one) (inr two) rest =
    first (text_before x d) (pointwise nat_eq x d && is_up_to ds xs) (subst (λ t. text_before x t ≡ true) (text_order.tells y d two.0) one)
up_by d x y ds xs ys (inr one) (inl two) rest =
    first (text_before x d) (pointwise nat_eq x d && is_up_to ds xs) (subst (λ t. text_before t d ≡ true) (sym (text_order.tells x y one.0)) two)
up_by d x y ds xs ys (inr one) (inr two) rest =
    then (text_before x d) (pointwise nat_eq x d) (is_up_to ds xs) ((bytes_decides x d).1 (text_order.tells x y one.0 ∙ text_order.tells y d two.0)) (rest one.1 two.1)

-- what stands before a path that isn't behind a directory's names isn't either
pub up_through : (directory x y : List (List ℕ)) → path_before x y ≡ true → is_up_to directory y ≡ true → is_up_to directory x ≡ true
up_through [] x y less up = refl
up_through (d ∷ ds) [] y less up = refl
up_through (d ∷ ds) (x ∷ xs) [] less up = absurd (true≢false (sym less))
up_through (d ∷ ds) (x ∷ xs) (y ∷ ys) less up =
    up_by d x y ds xs ys (lead_by (text_before x y) (pointwise nat_eq x y) (path_before xs ys) less) (lead_by (text_before y d) (pointwise nat_eq y d) (is_up_to ds ys) up) (up_through ds xs ys)

up_under_by : (directory x y : List (List ℕ)) → Ranked path_before x y → path_before y x ≡ false → is_up_to directory y ≡ true → is_up_to directory x ≡ true
up_under_by directory x y (Equal e) above up = subst (λ z. is_up_to directory z ≡ true) (sym e) up
up_under_by directory x y (Before h) above up = up_through directory x y h up
up_under_by directory x y (Behind h) above up = absurd (true≢false (sym h ∙ above))

pub up_under : (directory x y : List (List ℕ)) → path_before y x ≡ false → is_up_to directory y ≡ true → is_up_to directory x ≡ true
up_under directory x y above up = up_under_by directory x y (path_order.ranked x y) above up

-- a name that stands before a directory's isn't right below it
before_by : (d part : List ℕ) (ds parts : List (List ℕ)) (b : Bool) → pointwise nat_eq d part ≡ b → (text_before part d ≡ true) ⊎ ((pointwise nat_eq part d ≡ true) × (path_before parts ds ≡ true)) → (path_before parts ds ≡ true → name_below ds parts ≡ None) → cond b (name_below ds parts) None ≡ None
before_by d part ds parts true e (inl h) rest = absurd (text_order.never part (subst (λ t. text_before part t ≡ true) (text_order.tells d part e) h))
before_by d part ds parts true e (inr h) rest = rest h.1
before_by d part ds parts false e h rest = refl

pub before_below : (directory path : List (List ℕ)) → path_before path directory ≡ true → name_below directory path ≡ None
before_below [] [] less = refl
before_below [] (part ∷ parts) less = absurd (true≢false (sym less))
before_below (d ∷ ds) [] less = refl
before_below (d ∷ ds) (part ∷ parts) less =
    before_by d part ds parts (pointwise nat_eq d part) refl (lead_by (text_before part d) (pointwise nat_eq part d) (path_before parts ds) less) (before_below ds parts)

-- nor is one that stands behind all of them
behind_by : (d part : List ℕ) (ds parts : List (List ℕ)) (b : Bool) → pointwise nat_eq d part ≡ b → is_up_to (d ∷ ds) (part ∷ parts) ≡ false → (is_up_to ds parts ≡ false → name_below ds parts ≡ None) → cond b (name_below ds parts) None ≡ None
behind_by d part ds parts true e h rest =
    rest (is_false (is_up_to ds parts) (λ up. true≢false (sym (then (text_before part d) (pointwise nat_eq part d) (is_up_to ds parts) ((bytes_decides part d).1 (sym (text_order.tells d part e))) up) ∙ h)))
behind_by d part ds parts false e h rest = refl

pub behind_below : (directory path : List (List ℕ)) → is_up_to directory path ≡ false → name_below directory path ≡ None
behind_below [] path h = absurd (true≢false h)
behind_below (d ∷ ds) [] h = refl
behind_below (d ∷ ds) (part ∷ parts) h = behind_by d part ds parts (pointwise nat_eq d part) refl h (behind_below ds parts)
