-- The moves of a process end.
use Rattle.std.proofs.Common.{◌≡◌, ◌⊎◌, inl, inr, ℕ, suc, ◌+◌, ◌<◌, ◌≤◌, ◌==◌, nat_le, Bool, true, false, ◌&&◌, ◌||◌, cond, List, [], ◌∷◌, length, replicate, Option, Some, None, refl, sym, ap, ◌∙◌, arith, eq-eqb, leb-true}
use Rattle.std.specs.List.{AllByRecursion, list_all, list_any}
use Rattle.sprite_ids.proofs.ListLaws.{some_is}
use Rattle.sprite_ids.specs.declared.StreamNo.{StreamNo}
use Rattle.stream_table.specs.declared.Carried.{Carried}
use Rattle.migrate_freeze.specs.declared.moves.MovedStream.{MovedStream}
use Rattle.migrate_freeze.specs.declared.freeze.Freeze.{Freeze}
use Rattle.migrate_freeze.specs.Moves.{better, frozen_for, is_free, is_moved, is_stream, lower, moved_stream, next_from, noted}
use Rattle.migrate_freeze.specs.Packing.{can_travel}
use Rattle.migrate_freeze.specs.Landing.{IsOneOf, MovesEnd, Took, moved_all, moved_once, next_of}
use Rattle.migrate_freeze.proofs.LandingLaws.{HasMoved, all_moved, both, lower_is, next_one, only_one}

-- how many descriptors lead to streams that have not moved
abbrev pub left : List (Option MovedStream) → List Carried → ℕ
left moved [] = 0
left moved (item ∷ rest) = cond (is_moved item.number moved) (left moved rest) (suc (left moved rest))

-- how many places are in use
abbrev pub used : List (Option MovedStream) → ℕ
used [] = 0
used (Some moved ∷ rest) = suc (used rest)
used (None ∷ rest) = used rest

same_stream : (number : StreamNo) → is_stream number number ≡ true
same_stream number =
    ap (λ b. b && (number.number == number.number)) (eq-eqb number.kernel number.kernel refl) ∙ eq-eqb number.number number.number refl

right_true : (a b : Bool) → b ≡ true → (a || b) ≡ true
right_true true b h = refl
right_true false b h = h

or_stays : (a b c : Bool) → (a || b) ≡ true → (b ≡ true → c ≡ true) → (a || c) ≡ true
or_stays true b c h f = refl
or_stays false b c h f = f h

moved_stays : (number : StreamNo) (new : MovedStream) (places : List (Option MovedStream)) → is_moved number places ≡ true → is_moved number (noted new places) ≡ true
moved_stays number new [] h = absurd (cc)
moved_stays number new (None ∷ rest) h = right_true (is_stream number new.number) (is_moved number rest) h
moved_stays number new (Some moved ∷ rest) h =
    or_stays (is_stream number moved.number) (is_moved number rest) (is_moved number (noted new rest)) h (moved_stays number new rest)

moved_now : (new : MovedStream) (places : List (Option MovedStream)) → list_any is_free places ≡ true → is_moved new.number (noted new places) ≡ true
moved_now new [] h = absurd (cc)
moved_now new (None ∷ rest) h = ap (λ b. b || is_moved new.number rest) (same_stream new.number)
moved_now new (Some moved ∷ rest) h = right_true (is_stream new.number moved.number) (is_moved new.number (noted new rest)) (moved_now new rest h)

fewer_by : (b c : Bool) (m n : ℕ) → (b ≡ true → c ≡ true) → m ≤ n → cond c m (suc m) ≤ cond b n (suc n)
fewer_by true true m n f h = h
fewer_by true false m n f h = absurd (differ (f refl))
  where
    differ : false ≡ true → ⊥
    differ e = cc
fewer_by false true m n f h = omega arith
fewer_by false false m n f h = omega arith

less_by : (b c : Bool) (m n : ℕ) → (b ≡ true → c ≡ true) → m < n → cond c m (suc m) < cond b n (suc n)
less_by true true m n f h = h
less_by true false m n f h = absurd (differ (f refl))
  where
    differ : false ≡ true → ⊥
    differ e = cc
less_by false true m n f h = omega arith
less_by false false m n f h = omega arith

less_here : (b c : Bool) (m n : ℕ) → b ≡ false → c ≡ true → m ≤ n → cond c m (suc m) < cond b n (suc n)
less_here false true m n e k h = omega arith
less_here true c m n e k h = absurd (cc)
less_here false false m n e k h = absurd (cc)

left_fewer : (new : MovedStream) (places : List (Option MovedStream)) (streams : List Carried) → left (noted new places) streams ≤ left places streams
left_fewer new places [] = omega arith
left_fewer new places (item ∷ rest) =
    fewer_by (is_moved item.number places) (is_moved item.number (noted new places)) (left (noted new places) rest) (left places rest) (moved_stays item.number new places) (left_fewer new places rest)

-- a move of a stream that has not moved leaves fewer
left_one : (new : MovedStream) (places : List (Option MovedStream)) (streams : List Carried) (item : Carried) → IsOneOf streams item → new.number ≡ item.number → is_moved item.number places ≡ false → list_any is_free places ≡ true → left (noted new places) streams < left places streams
left_one new places [] item k e u h = absurd k
left_one new places (first ∷ rest) item (inl is) e u h =
    less_here (is_moved first.number places) (is_moved first.number (noted new places)) (left (noted new places) rest) (left places rest)
    (ap (λ (other : Carried). is_moved other.number places) (sym is) ∙ u)
    (ap (λ (number : StreamNo). is_moved number (noted new places)) (sym (e ∙ ap (λ (other : Carried). other.number) is)) ∙ moved_now new places h)
    (left_fewer new places rest)
left_one new places (first ∷ rest) item (inr k) e u h =
    less_by (is_moved first.number places) (is_moved first.number (noted new places)) (left (noted new places) rest) (left places rest) (moved_stays first.number new places) (left_one new places rest item k e u h)

some_left : (places : List (Option MovedStream)) (streams : List Carried) (item : Carried) → IsOneOf streams item → is_moved item.number places ≡ false → 0 < left places streams
some_left places [] item k u = absurd k
some_left places (first ∷ rest) item (inl is) u = positive_here (is_moved first.number places) (left places rest) (ap (λ (other : Carried). is_moved other.number places) (sym is) ∙ u)
  where
    positive_here : (b : Bool) (n : ℕ) → b ≡ false → 0 < cond b n (suc n)
    positive_here false n e = omega arith
    positive_here true n e = absurd (cc)
some_left places (first ∷ rest) item (inr k) u = positive_by (is_moved first.number places) (left places rest) (some_left places rest item k u)
  where
    positive_by : (b : Bool) (n : ℕ) → 0 < n → 0 < cond b n (suc n)
    positive_by true n h = h
    positive_by false n h = omega arith

lower_unmoved : (moved : List (Option MovedStream)) (least : Option Carried) (first x : Carried) (lowest : Option Carried) → is_moved first.number moved ≡ false → ((y : Carried) → least ≡ Some y → is_moved y.number moved ≡ false) → (lowest ≡ least) ⊎ (lowest ≡ Some first) → lowest ≡ Some x → is_moved x.number moved ≡ false
lower_unmoved moved least first x lowest u ok (inl l) e = ok x (sym l ∙ e)
lower_unmoved moved least first x lowest u ok (inr l) e = ap (λ (y : Carried). is_moved y.number moved) (sym (some_is first x (sym l ∙ e))) ∙ u

better_unmoved : (moved : List (Option MovedStream)) (least : Option Carried) (first : Carried) → ((y : Carried) → least ≡ Some y → is_moved y.number moved ≡ false) → (b : Bool) → is_moved first.number moved ≡ b → (x : Carried) → lower b least first ≡ Some x → is_moved x.number moved ≡ false
better_unmoved moved least first ok true u x e = ok x e
better_unmoved moved least first ok false u x e = lower_unmoved moved least first x (lower false least first) u ok (lower_is false least first) e

-- the next stream has not moved
next_unmoved : (moved : List (Option MovedStream)) (least : Option Carried) (streams : List Carried) (item : Carried) → ((y : Carried) → least ≡ Some y → is_moved y.number moved ≡ false) → next_from moved least streams ≡ Some item → is_moved item.number moved ≡ false
next_unmoved moved least [] item ok e = ok item e
next_unmoved moved least (first ∷ rest) item ok e =
    next_unmoved moved (better moved least first) rest item (better_unmoved moved least first ok (is_moved first.number moved) refl) e

free_there : (places : List (Option MovedStream)) → used places < length places → list_any is_free places ≡ true
free_there [] h = absurd (omega arith)
free_there (None ∷ rest) h = refl
free_there (Some moved ∷ rest) h = free_there rest (omega arith)

used_more : (new : MovedStream) (places : List (Option MovedStream)) → used (noted new places) ≤ suc (used places)
used_more new [] = omega arith
used_more new (None ∷ rest) = omega arith
used_more new (Some moved ∷ rest) = let more = used_more new rest in omega arith

length_noted : (new : MovedStream) (places : List (Option MovedStream)) → length (noted new places) ≡ length places
length_noted new [] = refl
length_noted new (None ∷ rest) = refl
length_noted new (Some moved ∷ rest) = ap suc (length_noted new rest)

none_left : (moved : List (Option MovedStream)) (streams : List Carried) → AllByRecursion (HasMoved moved) streams → left moved streams ≡ 0
none_left moved [] h = refl
none_left moved (item ∷ rest) h = ap (λ b. cond b (left moved rest) (suc (left moved rest))) h.0 ∙ none_left moved rest h.1

left_most : (moved : List (Option MovedStream)) (streams : List Carried) → left moved streams ≤ length streams
left_most moved [] = omega arith
left_most moved (item ∷ rest) = most_by (is_moved item.number moved) (left moved rest) (length rest) (left_most moved rest)
  where
    most_by : (b : Bool) (m n : ℕ) → m ≤ n → cond b m (suc m) ≤ suc n
    most_by true m n h = omega arith
    most_by false m n h = omega arith

-- what bounds the moves that are left
record IsBound (freeze : Freeze) : Type 0 where
  places : length freeze.moved ≡ 16
  room : used freeze.moved + left freeze.moved freeze.process.streams ≤ 16

-- what the next stream tells
record IsNext (freeze : Freeze) (item : Carried) : Type 0 where
  one : IsOneOf freeze.process.streams item
  unmoved : is_moved item.number freeze.moved ≡ false
  some : 0 < left freeze.moved freeze.process.streams
  free : list_any is_free freeze.moved ≡ true

nothing_yet : (moved : List (Option MovedStream)) (y : Carried) → None ≡ Some y → is_moved y.number moved ≡ false
nothing_yet moved y e = absurd (cc)

next_is : (freeze : Freeze) (item : Carried) → IsBound freeze → next_of freeze ≡ Some item → IsNext freeze item
next_is freeze item bound e =
    let one = only_one item (next_one freeze.moved None freeze.process.streams item e) in
    let unmoved = next_unmoved freeze.moved None freeze.process.streams item (nothing_yet freeze.moved) e in
    let some = some_left freeze.moved freeze.process.streams item one unmoved in
    record { one = one; unmoved = unmoved; some = some; free = free_there freeze.moved (room_for (used freeze.moved) (left freeze.moved freeze.process.streams) (length freeze.moved) bound.places bound.room some) }
  where
    room_for : (m n k : ℕ) → k ≡ 16 → m + n ≤ 16 → 0 < n → m < k
    room_for m n k p r s = omega arith

ends_now : (freeze : Freeze) (next : Option Carried) → next_of freeze ≡ next → IsBound freeze → left freeze.moved freeze.process.streams ≤ 0 → next ≡ None
ends_now freeze None e bound h = refl
ends_now freeze (Some item) e bound h = absurd (none_of (left freeze.moved freeze.process.streams) (next_is freeze item bound e).some h)
  where
    none_of : (n : ℕ) → 0 < n → n ≤ 0 → ⊥
    none_of n a b = omega arith

still_bound : (freeze : Freeze) (took : Took) (item : Carried) → IsBound freeze → IsNext freeze item → IsBound (moved_once took freeze (Some item))
still_bound freeze took item bound is =
    let new = moved_stream item took.place took.grant took.grants in
    record {
      places = length_noted new freeze.moved ∙ bound.places;
      room = room_left (used freeze.moved) (left freeze.moved freeze.process.streams) (used (noted new freeze.moved)) (left (noted new freeze.moved) freeze.process.streams) (used_more new freeze.moved) (left_one new freeze.moved freeze.process.streams item is.one refl is.unmoved is.free) bound.room;
    }
  where
    room_left : (m n p q : ℕ) → p ≤ suc m → q < n → m + n ≤ 16 → p + q ≤ 16
    room_left m n p q a b c = omega arith

ends_by : (took : Took) (rest : List Took) (freeze : Freeze) (again : (other : Freeze) → IsBound other → left other.moved other.process.streams ≤ length rest → next_of (moved_all rest other) ≡ None) (next : Option Carried) → next_of freeze ≡ next → IsBound freeze → left freeze.moved freeze.process.streams ≤ suc (length rest) → next_of (moved_all rest (moved_once took freeze next)) ≡ None
ends_by took rest freeze again None e bound h =
    again freeze bound (none_more (left freeze.moved freeze.process.streams) (length rest) (none_left freeze.moved freeze.process.streams (all_moved freeze.moved freeze.process.streams e)))
  where
    none_more : (m n : ℕ) → m ≡ 0 → m ≤ n
    none_more m n e = omega arith
ends_by took rest freeze again (Some item) e bound h =
    let is = next_is freeze item bound e in
    let new = moved_stream item took.place took.grant took.grants in
    again (moved_once took freeze (Some item)) (still_bound freeze took item bound is) (one_less (left (noted new freeze.moved) freeze.process.streams) (left freeze.moved freeze.process.streams) (length rest) (left_one new freeze.moved freeze.process.streams item is.one refl is.unmoved is.free) h)
  where
    one_less : (m n k : ℕ) → m < n → n ≤ suc k → m ≤ k
    one_less m n k a b = omega arith

ends : (moves : List Took) (freeze : Freeze) → IsBound freeze → left freeze.moved freeze.process.streams ≤ length moves → next_of (moved_all moves freeze) ≡ None
ends [] freeze bound h = ends_now freeze (next_of freeze) refl bound h
ends (took ∷ rest) freeze bound h = ends_by took rest freeze (ends rest) (next_of freeze) refl bound h

pub moves_end : MovesEnd
moves_end process to program moves can enough =
    let few = leb-true (length process.streams) 16 (both (nat_le (length process.streams) 16) (list_all can_travel process.streams) can).0 in
    let most = left_most (replicate 16 None) process.streams in
    ends moves (frozen_for process to program) (record { places = refl; room = at_start (left (replicate 16 None) process.streams) (length process.streams) most few }) (enough_for (left (replicate 16 None) process.streams) (length process.streams) (length moves) most enough)
  where
    at_start : (m n : ℕ) → m ≤ n → n ≤ 16 → 0 + m ≤ 16
    at_start m n a b = omega arith

    enough_for : (m n k : ℕ) → m ≤ n → n ≤ k → m ≤ k
    enough_for m n k a b = omega arith
