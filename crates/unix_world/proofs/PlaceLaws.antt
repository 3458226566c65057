-- Look-ups by halves in a list that stands in its order.
use Rattle.std.proofs.Common.{◌≡◌, ◌<◌, ◌≤◌, ◌+◌, ℕ, Bool, true, false, cond, not, ◌||◌, zero, suc, length, nat_lt, get_or, List, [], ◌∷◌, ◌++◌, Option, Some, None, is_some, refl, sym, ap, subst, ◌∙◌, arith, slice_get, slice_set}
use Rattle.std.specs.Prelude.{◌==◌}
use Rattle.std.specs.List.{AllByRecursion, find, list_any, position, position_or_len}
use Rattle.std.proofs.lemmas.Bool.{true≢false, eq-eqb, eqb-true, eqb-false, ne_eqb, lt-ltb, ltb-true, ltb-false}
use Rattle.std.proofs.lemmas.List.Quantifiers.{position-Some}
use Rattle.sprite_ids.proofs.ListLaws.{some_is, each_get, each_of_append, each_push, get_within}
use Rattle.sprite_ids.proofs.OnceLaws.{found_is_any, get_is, none_found, nothing_found}
use Rattle.unix_calls.specs.declared.state.File.{File}
use Rattle.unix_calls.specs.declared.state.FileName.{FileName}
use Rattle.unix_calls.specs.declared.state.FileName.TheVariants.{Boot, Made}
use Rattle.unix_calls.specs.declared.state.Process.{Process}
use Rattle.unix_calls.specs.declared.state.Stream.{Stream}
use Rattle.unix_calls.specs.State.{process_at, same_file, stream_at}
use Rattle.unix_calls.proofs.ProcessLaws.{Compared, Same, Less, More, compared}
use Rattle.unix_world.specs.Among.{Ascending}
use Rattle.unix_world.specs.Places.{IsLast, IsOlder, Ordered, OrderedIf, Outside, Precedes, is_before}
use Rattle.unix_world.proofs.ChangeLaws.{found_at}

-- what is sought in an order, and which items are too low or too high for it
pub record Sought {X : Type 0} (R : X → X → Type 0) (same : X → Bool) (Low High : X → Type 0) : Type 0 where
  pub once : (x y : X) → R x y → same y ≡ true → same x ≡ false
  pub low : (x : X) → Low x → same x ≡ false
  pub high : (x : X) → High x → same x ≡ false
  pub before : (x y : X) → R x y → Low y → same x ≡ false
  pub behind : (x y : X) → R x y → High x → same y ≡ false

-- two places of a list in its order
pub ordered_pair : {X : Type 0} (R : X → X → Type 0) (xs : List X) (i j : ℕ) (x y : X) → Ordered R xs → i < j → slice_get xs i ≡ Some x → slice_get xs j ≡ Some y → R x y
ordered_pair R [] i j x y h less got other = absurd (omega (arith, get_within [] i x got))
ordered_pair R (z ∷ zs) zero zero x y h less got other = absurd (omega (arith, less))
ordered_pair R (z ∷ zs) zero (suc j) x y h less got other = subst (λ w. R w y) (some_is z x got) (each_get (R z) zs j y h.0 other)
ordered_pair R (z ∷ zs) (suc i) zero x y h less got other = absurd (omega (arith, less))
ordered_pair R (z ∷ zs) (suc i) (suc j) x y h less got other = ordered_pair R zs i j x y h.1 (omega (arith, less)) got other

-- what is sought is found where it stands
first_len : {X : Type 0} (R : X → X → Type 0) (same : X → Bool) (xs : List X) (i : ℕ) (x : X) → ((y z : X) → R y z → same z ≡ true → same y ≡ false) → Ordered R xs → slice_get xs i ≡ Some x → same x ≡ true → position_or_len same xs ≡ i
first_len R same [] i x once h got is = absurd (omega (arith, get_within [] i x got))
first_len R same (y ∷ ys) zero x once h got is =
    ap (λ (b : Bool). cond (not b) (1 + position_or_len same ys) 0) (ap same (some_is y x got) ∙ is)
first_len R same (y ∷ ys) (suc i) x once h got is =
    let later = first_len R same ys i x once h.1 got is in
    let e : 1 + position_or_len same ys ≡ suc i = omega (arith, later) in
    ap (λ (b : Bool). cond (not b) (1 + position_or_len same ys) 0) (once y x (each_get (R y) ys i x h.0 got) is) ∙ e

pub stands_first : {X : Type 0} (R : X → X → Type 0) (same : X → Bool) (xs : List X) (i : ℕ) (x : X) → ((y z : X) → R y z → same z ≡ true → same y ≡ false) → Ordered R xs → slice_get xs i ≡ Some x → same x ≡ true → position same xs ≡ Some i
stands_first R same xs i x once h got is =
    ap (λ (n : ℕ). cond (nat_lt n (length xs)) (Some n) None) (first_len R same xs i x once h got is)
    ∙ ap (λ (b : Bool). cond b (Some i) None) (lt-ltb i (length xs) (get_within xs i x got))

-- nothing is outside at first
pub outside_all : {X : Type 0} (same : X → Bool) (xs : List X) → Outside same xs 0 (length xs)
outside_all same xs =
    record {
      before = λ i x less got. absurd (omega (arith, less));
      behind = λ i x most got. absurd (omega (arith, most, get_within xs i x got));
    }

-- what stands up to an item that is too low is outside
lower : {X : Type 0} (R : X → X → Type 0) (same : X → Bool) (Low High : X → Type 0) (xs : List X) (middle i : ℕ) (x y : X) → Sought R same Low High → Ordered R xs → slice_get xs middle ≡ Some x → Low x → i < middle + 1 → slice_get xs i ≡ Some y → Compared i middle → same y ≡ false
lower R same Low High xs middle i x y s h got is within other (Same e) =
    s.low y (subst Low (some_is x y (sym got ∙ (ap (slice_get xs) (sym e) ∙ other))) is)
lower R same Low High xs middle i x y s h got is within other (Less e) = s.before y x (ordered_pair R xs i middle y x h e other got) is
lower R same Low High xs middle i x y s h got is within other (More e) = absurd (omega (arith, within, e))

pub outside_low : {X : Type 0} (R : X → X → Type 0) (same : X → Bool) (Low High : X → Type 0) (xs : List X) (low high middle : ℕ) (x : X) → Sought R same Low High → Ordered R xs → slice_get xs middle ≡ Some x → Low x → Outside same xs low high → Outside same xs (middle + 1) high
outside_low R same Low High xs low high middle x s h got is out =
    record {
      before = λ i y within other. lower R same Low High xs middle i x y s h got is within other (compared i middle);
      behind = out.behind;
    }

-- and what stands from one on that is too high
higher : {X : Type 0} (R : X → X → Type 0) (same : X → Bool) (Low High : X → Type 0) (xs : List X) (middle i : ℕ) (x y : X) → Sought R same Low High → Ordered R xs → slice_get xs middle ≡ Some x → High x → middle ≤ i → slice_get xs i ≡ Some y → Compared i middle → same y ≡ false
higher R same Low High xs middle i x y s h got is within other (Same e) =
    s.high y (subst High (some_is x y (sym got ∙ (ap (slice_get xs) (sym e) ∙ other))) is)
higher R same Low High xs middle i x y s h got is within other (Less e) = absurd (omega (arith, within, e))
higher R same Low High xs middle i x y s h got is within other (More e) = s.behind x y (ordered_pair R xs middle i x y h e got other) is

pub outside_high : {X : Type 0} (R : X → X → Type 0) (same : X → Bool) (Low High : X → Type 0) (xs : List X) (low high middle : ℕ) (x : X) → Sought R same Low High → Ordered R xs → slice_get xs middle ≡ Some x → High x → Outside same xs low high → Outside same xs low middle
outside_high R same Low High xs low high middle x s h got is out =
    record {
      before = out.before;
      behind = λ i y within other. higher R same Low High xs middle i x y s h got is within other (compared i middle);
    }

-- where all is outside nothing is found
pub none_passes : {X : Type 0} (same : X → Bool) (xs : List X) → ((i : ℕ) (x : X) → slice_get xs i ≡ Some x → same x ≡ false) → list_any same xs ≡ false
none_passes same [] h = refl
none_passes same (x ∷ xs) h =
    ap (λ (b : Bool). b || list_any same xs) (h 0 x refl) ∙ none_passes same xs (λ i y got. h (suc i) y got)

at_neither : {X : Type 0} (same : X → Bool) (xs : List X) (low high i : ℕ) (x : X) → Outside same xs low high → high ≤ low → slice_get xs i ≡ Some x → Compared i low → same x ≡ false
at_neither same xs low high i x out met got (Same e) = out.behind i x (omega (arith, met, e)) got
at_neither same xs low high i x out met got (Less e) = out.before i x e got
at_neither same xs low high i x out met got (More e) = out.behind i x (omega (arith, met, e)) got

pub outside_any : {X : Type 0} (same : X → Bool) (xs : List X) (low high : ℕ) → Outside same xs low high → high ≤ low → list_any same xs ≡ false
outside_any same xs low high out met =
    none_passes same xs (λ i x got. at_neither same xs low high i x out met got (compared i low))

pub none_by : (o : Option ℕ) → is_some o ≡ false → o ≡ None
none_by None h = refl
none_by (Some i) h = absurd (true≢false h)

pub outside_none : {X : Type 0} (same : X → Bool) (xs : List X) (low high : ℕ) → Outside same xs low high → high ≤ low → position same xs ≡ None
outside_none same xs low high out met =
    none_by (position same xs) (found_is_any same xs ∙ outside_any same xs low high out met)

-- an item that is read stands there
pub here : {X : Type 0} (xs : List X) (i : ℕ) (d : X) → i < length xs → slice_get xs i ≡ Some (get_or xs i d)
here [] i d h = absurd (omega arith)
here (x ∷ xs) zero d h = refl
here (x ∷ xs) (suc i) d h = here xs i d (omega (arith, h))

-- ---- changes

last_above : {X : Type 0} (R : X → X → Type 0) (z : X) (zs : List X) (y : X) → AllByRecursion (R z) (zs ++ y ∷ []) → R z y
last_above R z zs y h = (each_of_append (R z) zs (y ∷ []) h).1.0

-- one more behind the last
pub push_ordered : {X : Type 0} (R : X → X → Type 0) (xs : List X) (y : X) → ((a b c : X) → R a b → R b c → R a c) → Ordered R xs → IsLast true R xs y → Ordered R (xs ++ y ∷ [])
push_ordered R [] y trans h last = (tt, tt)
push_ordered R (x ∷ []) y trans h last = ((last 0 x refl (omega arith) (omega arith), tt), (tt, tt))
push_ordered R (x ∷ z ∷ zs) y trans h last =
    let rest = push_ordered R (z ∷ zs) y trans h.1 (λ n w got within end. last (suc n) w got (omega (arith, within)) (omega (arith, end))) in
    let behind = trans x z y h.0.0 (last_above R z zs y rest.0) in
    (each_push (R x) (z ∷ zs) y h.0 behind, rest)

-- another item in the place of one that stands as it does
each_as : {X : Type 0} (R : X → X → Type 0) (z old new : X) (xs : List X) (i : ℕ) → ((y : X) → R y old → R y new) → slice_get xs i ≡ Some old → AllByRecursion (R z) xs → AllByRecursion (R z) (slice_set xs i new)
each_as R z old new [] i like got h = tt
each_as R z old new (x ∷ xs) zero like got h = (like z (subst (R z) (some_is x old got) h.0), h.1)
each_as R z old new (x ∷ xs) (suc i) like got h = (h.0, each_as R z old new xs i like got h.1)

each_under : {X : Type 0} (R : X → X → Type 0) (old new : X) (xs : List X) → ((y : X) → R old y → R new y) → AllByRecursion (R old) xs → AllByRecursion (R new) xs
each_under R old new [] like h = tt
each_under R old new (x ∷ xs) like h = (like x h.0, each_under R old new xs like h.1)

pub set_ordered : {X : Type 0} (R : X → X → Type 0) (xs : List X) (i : ℕ) (old new : X) → ((y : X) → R y old → R y new) → ((y : X) → R old y → R new y) → slice_get xs i ≡ Some old → Ordered R xs → Ordered R (slice_set xs i new)
set_ordered R [] i old new behind before got h = tt
set_ordered R (x ∷ xs) zero old new behind before got h =
    (each_under R old new xs before (subst (λ z. AllByRecursion (R z) xs) (some_is x old got) h.0), h.1)
set_ordered R (x ∷ xs) (suc i) old new behind before got h =
    (each_as R x old new xs i behind got h.0, set_ordered R xs i old new behind before got h.1)

pub set_ordered_if : {X : Type 0} (b : Bool) (R : X → X → Type 0) (xs : List X) (i : ℕ) (old new : X) → ((y : X) → R y old → R y new) → ((y : X) → R old y → R new y) → slice_get xs i ≡ Some old → OrderedIf b R xs → OrderedIf b R (slice_set xs i new)
set_ordered_if true R xs i old new behind before got h = set_ordered R xs i old new behind before got h
set_ordered_if false R xs i old new behind before got h = tt

pub push_ordered_if : {X : Type 0} (b last : Bool) (R : X → X → Type 0) (xs : List X) (y : X) → ((a b c : X) → R a b → R b c → R a c) → b ≡ true → OrderedIf b R xs → IsLast last R xs y → OrderedIf last R (xs ++ y ∷ [])
push_ordered_if b true R xs y trans is h last = push_ordered R xs y trans (subst (λ (a : Bool). OrderedIf a R xs) is h) last
push_ordered_if b false R xs y trans is h last = tt

-- any may stand behind no others
pub last_of_none : {X : Type 0} (R : X → X → Type 0) (xs : List X) (y : X) → length xs ≡ 0 → IsLast true R xs y
last_of_none R xs y none = λ n x got within end. absurd (omega (arith, none, within))

pub is_ordered : {X : Type 0} (b : Bool) (R : X → X → Type 0) (xs : List X) → b ≡ true → OrderedIf b R xs → Ordered R xs
is_ordered b R xs is h = subst (λ (a : Bool). OrderedIf a R xs) is h

-- ---- streams

pub stream_sought : (place : ℕ) → Sought IsOlder (λ (s : Stream). s.place == place) (λ (s : Stream). s.place < place) (λ (s : Stream). place < s.place)
stream_sought place =
    record {
      once = λ x y older is. ne_eqb x.place place (λ (e : x.place ≡ place). omega (arith, older, e, eqb-true y.place place is));
      low = λ x is. ne_eqb x.place place (λ (e : x.place ≡ place). omega (arith, is, e));
      high = λ x is. ne_eqb x.place place (λ (e : x.place ≡ place). omega (arith, is, e));
      before = λ x y older is. ne_eqb x.place place (λ (e : x.place ≡ place). omega (arith, older, is, e));
      behind = λ x y older is. ne_eqb y.place place (λ (e : y.place ≡ place). omega (arith, older, is, e));
    }

last_by : (streams : List Stream) (i : ℕ) (d : Stream) (place : ℕ) (t : Stream) (b : Bool) → nat_lt (get_or streams i d).place place ≡ b → i + 1 ≡ length streams → t.place ≡ place → IsLast b IsOlder streams t
last_by streams i d place t true e end is =
    λ n x got within most.
    let same : n ≡ i = omega (arith, end, within, most) in
    let item = some_is x (get_or streams i d) (sym got ∙ (ap (slice_get streams) same ∙ here streams i d (omega (arith, end)))) in
    omega (arith, ltb-true (get_or streams i d).place place e, is, ap (λ (s : Stream). s.place) item)
last_by streams i d place t false e end is = tt

-- a stream behind the last
pub stream_last : (streams : List Stream) (i : ℕ) (d : Stream) (place : ℕ) (t : Stream) → i + 1 ≡ length streams → t.place ≡ place → IsLast (nat_lt (get_or streams i d).place place) IsOlder streams t
stream_last streams i d place t end is = last_by streams i d place t (nat_lt (get_or streams i d).place place) refl end is

-- a stream that is read is the one of the place, too low or too high
pub stream_first : (place : ℕ) (streams : List Stream) (i : ℕ) (d : Stream) → Ordered IsOlder streams → i < length streams → (get_or streams i d).place ≡ place → position (λ (s : Stream). s.place == place) streams ≡ Some i
stream_first place streams i d h within is =
    stands_first IsOlder (λ (s : Stream). s.place == place) streams i (get_or streams i d) (stream_sought place).once h (here streams i d within) (eq-eqb (get_or streams i d).place place is)

pub stream_low : (place : ℕ) (streams : List Stream) (low high i : ℕ) (d : Stream) → Ordered IsOlder streams → i < length streams → (get_or streams i d).place < place → Outside (λ (s : Stream). s.place == place) streams low high → Outside (λ (s : Stream). s.place == place) streams (i + 1) high
stream_low place streams low high i d h within is out =
    outside_low IsOlder (λ (s : Stream). s.place == place) (λ (s : Stream). s.place < place) (λ (s : Stream). place < s.place) streams low high i (get_or streams i d) (stream_sought place) h (here streams i d within) is out

pub stream_high : (place : ℕ) (streams : List Stream) (low high i : ℕ) (d : Stream) → Ordered IsOlder streams → i < length streams → ((get_or streams i d).place ≡ place → ⊥) → place ≤ (get_or streams i d).place → Outside (λ (s : Stream). s.place == place) streams low high → Outside (λ (s : Stream). s.place == place) streams low i
stream_high place streams low high i d h within other above out =
    let is : place < (get_or streams i d).place = omega (arith, other, above) in
    outside_high IsOlder (λ (s : Stream). s.place == place) (λ (s : Stream). s.place < place) (λ (s : Stream). place < s.place) streams low high i (get_or streams i d) (stream_sought place) h (here streams i d within) is out

pub older_trans : (a b c : Stream) → IsOlder a b → IsOlder b c → IsOlder a c
older_trans a b c one two = omega (arith, one, two)

stream_by : (s : Stream) (one two : Option Stream) (b : Bool) → one ≡ two → cond b (Some s) one ≡ cond b (Some s) two
stream_by s one two true h = refl
stream_by s one two false h = h

stream_found : (place : ℕ) (streams : List Stream) → stream_at streams place ≡ find (λ (s : Stream). s.place == place) streams
stream_found place [] = refl
stream_found place (s ∷ ss) =
    stream_by s (stream_at ss place) (find (λ (t : Stream). t.place == place) ss) (s.place == place) (stream_found place ss)

pub stream_there : (place : ℕ) (streams : List Stream) (i : ℕ) (s : Stream) → position (λ (t : Stream). t.place == place) streams ≡ Some i → slice_get streams i ≡ Some s → stream_at streams place ≡ Some s
stream_there place streams i s found got =
    stream_found place streams ∙ found_at (λ (t : Stream). t.place == place) streams i s found got

pub no_stream : (place : ℕ) (streams : List Stream) → position (λ (t : Stream). t.place == place) streams ≡ None → stream_at streams place ≡ None
no_stream place streams none =
    stream_found place streams ∙ nothing_found (λ (t : Stream). t.place == place) streams (none_found (λ (t : Stream). t.place == place) streams none)

-- the stream that stands at the position has the place
pub stream_place : (place : ℕ) (streams : List Stream) (i : ℕ) (s : Stream) → position (λ (t : Stream). t.place == place) streams ≡ Some i → slice_get streams i ≡ Some s → s.place ≡ place
stream_place place streams i s found got =
    let passes = (position-Some (λ (t : Stream). t.place == place) streams i s found).1 in
    eqb-true s.place place (ap (λ (t : Stream). t.place == place) (get_is streams i s got) ∙ passes)

-- another stream of the place in its place
pub stream_set : (b : Bool) (streams : List Stream) (i : ℕ) (old new : Stream) → old.place ≡ new.place → slice_get streams i ≡ Some old → OrderedIf b IsOlder streams → OrderedIf b IsOlder (slice_set streams i new)
stream_set b streams i old new e got h =
    set_ordered_if b IsOlder streams i old new (λ y less. omega (arith, less, e)) (λ y less. omega (arith, less, e)) got h

-- ---- files

before_trans : (a b c : FileName) → is_before a b ≡ true → is_before b c ≡ true → is_before a c ≡ true
before_trans (Boot i) (Boot j) (Boot k) one two = lt-ltb i k (omega (arith, ltb-true i j one, ltb-true j k two))
before_trans (Boot i) (Boot j) (Made k) one two = refl
before_trans (Boot i) (Made j) (Boot k) one two = absurd (true≢false (sym two))
before_trans (Boot i) (Made j) (Made k) one two = refl
before_trans (Made i) (Boot j) c one two = absurd (true≢false (sym one))
before_trans (Made i) (Made j) (Boot k) one two = absurd (true≢false (sym two))
before_trans (Made i) (Made j) (Made k) one two = lt-ltb i k (omega (arith, ltb-true i j one, ltb-true j k two))

before_other : (a b : FileName) → is_before a b ≡ true → same_file a b ≡ false
before_other (Boot i) (Boot j) one = ne_eqb i j (λ (e : i ≡ j). omega (arith, e, ltb-true i j one))
before_other (Boot i) (Made j) one = refl
before_other (Made i) (Boot j) one = refl
before_other (Made i) (Made j) one = ne_eqb i j (λ (e : i ≡ j). omega (arith, e, ltb-true i j one))

after_other : (a b : FileName) → is_before b a ≡ true → same_file a b ≡ false
after_other (Boot i) (Boot j) one = ne_eqb i j (λ (e : i ≡ j). omega (arith, e, ltb-true j i one))
after_other (Boot i) (Made j) one = refl
after_other (Made i) (Boot j) one = refl
after_other (Made i) (Made j) one = ne_eqb i j (λ (e : i ≡ j). omega (arith, e, ltb-true j i one))

-- of two files one is before the other, or they are the same
pub neither_before : (a b : FileName) → same_file a b ≡ false → is_before a b ≡ false → is_before b a ≡ true
neither_before (Boot i) (Boot j) other above = lt-ltb j i (omega (arith, ltb-false i j above, eqb-false i j other))
neither_before (Boot i) (Made j) other above = absurd (true≢false above)
neither_before (Made i) (Boot j) other above = refl
neither_before (Made i) (Made j) other above = lt-ltb j i (omega (arith, ltb-false i j above, eqb-false i j other))

file_same : (a b : FileName) → same_file a b ≡ true → a ≡ b
file_same (Boot i) (Boot j) h = ap Boot (eqb-true i j h)
file_same (Boot i) (Made j) h = absurd (true≢false (sym h))
file_same (Made i) (Boot j) h = absurd (true≢false (sym h))
file_same (Made i) (Made j) h = ap Made (eqb-true i j h)

pub file_sought : (name : FileName) → Sought Precedes (λ (f : File). same_file f.name name) (λ (f : File). is_before f.name name ≡ true) (λ (f : File). is_before name f.name ≡ true)
file_sought name =
    record {
      once = λ x y one is. before_other x.name name (subst (λ (n : FileName). is_before x.name n ≡ true) (file_same y.name name is) one);
      low = λ x is. before_other x.name name is;
      high = λ x is. after_other x.name name is;
      before = λ x y one is. before_other x.name name (before_trans x.name y.name name one is);
      behind = λ x y one is. after_other y.name name (before_trans name x.name y.name is one);
    }

last_file_by : (files : List File) (i : ℕ) (d : File) (name : FileName) (f : File) (b : Bool) → is_before (get_or files i d).name name ≡ b → i + 1 ≡ length files → f.name ≡ name → IsLast b Precedes files f
last_file_by files i d name f true e end is =
    λ n x got within most.
    let same : n ≡ i = omega (arith, end, within, most) in
    let item = some_is x (get_or files i d) (sym got ∙ (ap (slice_get files) same ∙ here files i d (omega (arith, end)))) in
    subst (λ (k : FileName). is_before x.name k ≡ true) (sym is) (subst (λ (g : File). is_before g.name name ≡ true) (sym item) e)
last_file_by files i d name f false e end is = tt

-- a file behind the last
pub file_last : (files : List File) (i : ℕ) (d : File) (name : FileName) (f : File) → i + 1 ≡ length files → f.name ≡ name → IsLast (is_before (get_or files i d).name name) Precedes files f
file_last files i d name f end is = last_file_by files i d name f (is_before (get_or files i d).name name) refl end is

-- a file that is read is the one of the name, too low or too high
pub file_first : (name : FileName) (files : List File) (i : ℕ) (d : File) → Ordered Precedes files → i < length files → same_file (get_or files i d).name name ≡ true → position (λ (f : File). same_file f.name name) files ≡ Some i
file_first name files i d h within is =
    stands_first Precedes (λ (f : File). same_file f.name name) files i (get_or files i d) (file_sought name).once h (here files i d within) is

pub file_low : (name : FileName) (files : List File) (low high i : ℕ) (d : File) → Ordered Precedes files → i < length files → is_before (get_or files i d).name name ≡ true → Outside (λ (f : File). same_file f.name name) files low high → Outside (λ (f : File). same_file f.name name) files (i + 1) high
file_low name files low high i d h within is out =
    outside_low Precedes (λ (f : File). same_file f.name name) (λ (f : File). is_before f.name name ≡ true) (λ (f : File). is_before name f.name ≡ true) files low high i (get_or files i d) (file_sought name) h (here files i d within) is out

pub file_high : (name : FileName) (files : List File) (low high i : ℕ) (d : File) → Ordered Precedes files → i < length files → same_file (get_or files i d).name name ≡ false → is_before (get_or files i d).name name ≡ false → Outside (λ (f : File). same_file f.name name) files low high → Outside (λ (f : File). same_file f.name name) files low i
file_high name files low high i d h within other above out =
    outside_high Precedes (λ (f : File). same_file f.name name) (λ (f : File). is_before f.name name ≡ true) (λ (f : File). is_before name f.name ≡ true) files low high i (get_or files i d) (file_sought name) h (here files i d within) (neither_before (get_or files i d).name name other above) out

pub precedes_trans : (a b c : File) → Precedes a b → Precedes b c → Precedes a c
precedes_trans a b c one two = before_trans a.name b.name c.name one two

-- a file of the same name in its place
pub file_set : (b : Bool) (files : List File) (i : ℕ) (old new : File) → new.name ≡ old.name → slice_get files i ≡ Some old → OrderedIf b Precedes files → OrderedIf b Precedes (slice_set files i new)
file_set b files i old new e got h =
    set_ordered_if b Precedes files i old new
    (λ y one. subst (λ (n : FileName). is_before y.name n ≡ true) (sym e) one)
    (λ y one. subst (λ (n : FileName). is_before n y.name ≡ true) (sym e) one) got h

-- ---- processes

pub process_sought : (number : ℕ) → Sought (λ (p q : Process). p.pid < q.pid) (λ (p : Process). p.pid == number) (λ (p : Process). p.pid < number) (λ (p : Process). number < p.pid)
process_sought number =
    record {
      once = λ x y less is. ne_eqb x.pid number (λ (e : x.pid ≡ number). omega (arith, less, e, eqb-true y.pid number is));
      low = λ x is. ne_eqb x.pid number (λ (e : x.pid ≡ number). omega (arith, is, e));
      high = λ x is. ne_eqb x.pid number (λ (e : x.pid ≡ number). omega (arith, is, e));
      before = λ x y less is. ne_eqb x.pid number (λ (e : x.pid ≡ number). omega (arith, less, is, e));
      behind = λ x y less is. ne_eqb y.pid number (λ (e : y.pid ≡ number). omega (arith, less, is, e));
    }

pub process_ordered : (ps : List Process) → Ascending ps → Ordered (λ (p q : Process). p.pid < q.pid) ps
process_ordered [] h = tt
process_ordered (p ∷ ps) h = (h.0, process_ordered ps h.1)

-- a process that is read has too low or too high a number
pub process_low : (number : ℕ) (ps : List Process) (low high i : ℕ) (x : Process) → Ascending ps → slice_get ps i ≡ Some x → x.pid < number → Outside (λ (p : Process). p.pid == number) ps low high → Outside (λ (p : Process). p.pid == number) ps (i + 1) high
process_low number ps low high i x h got is out =
    outside_low (λ (p q : Process). p.pid < q.pid) (λ (p : Process). p.pid == number) (λ (p : Process). p.pid < number) (λ (p : Process). number < p.pid) ps low high i x (process_sought number) (process_ordered ps h) got is out

pub process_high : (number : ℕ) (ps : List Process) (low high i : ℕ) (x : Process) → Ascending ps → slice_get ps i ≡ Some x → number < x.pid → Outside (λ (p : Process). p.pid == number) ps low high → Outside (λ (p : Process). p.pid == number) ps low i
process_high number ps low high i x h got is out =
    outside_high (λ (p q : Process). p.pid < q.pid) (λ (p : Process). p.pid == number) (λ (p : Process). p.pid < number) (λ (p : Process). number < p.pid) ps low high i x (process_sought number) (process_ordered ps h) got is out

no_process_by : (p : Process) (one : Option Process) (b rest : Bool) → (b || rest) ≡ false → (rest ≡ false → one ≡ None) → cond b (Some p) one ≡ None
no_process_by p one true rest none h = absurd (true≢false none)
no_process_by p one false rest none h = h none

pub no_process : (number : ℕ) (ps : List Process) → list_any (λ (p : Process). p.pid == number) ps ≡ false → process_at ps number ≡ None
no_process number [] none = refl
no_process number (p ∷ ps) none =
    no_process_by p (process_at ps number) (p.pid == number) (list_any (λ (q : Process). q.pid == number) ps) none (no_process number ps)
