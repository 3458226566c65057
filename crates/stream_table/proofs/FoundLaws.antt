-- What is found among the open streams after one was put or taken out, and which streams are referred to then.
use Rattle.std.proofs.Common.{rules, tests, ◌≡◌, ℕ, ◌≤◌, Bool, true, false, cond, List, [], ◌∷◌, Option, Some, None, refl, sym, ap, ◌∙◌, arith, true≢false, find, is_some}
use Rattle.std.specs.List.{AllByRecursion}
use Rattle.std.proofs.lemmas.Bool.{and_parts}
use Rattle.sprite_ids.specs.declared.StreamNo.{StreamNo}
use Rattle.stream_table.specs.Entries.{Entry}
use Rattle.stream_table.specs.declared.stream.Stream.{Stream}
use Rattle.sprite_ids.specs.Lists.{put, without}
use Rattle.stream_table.specs.Owners.{is_number}
use Rattle.stream_table.specs.Entries.{is_of, is_listed, is_open, is_roomy, has_room, is_placed_in, stream_in, holder_in, grants_in, stream_of, holder_of, left, leaving}
use Rattle.sprite_ids.proofs.OnceLaws.{dropped, stays, nothing_found}
use Rattle.stream_table.proofs.EntryLaws.{one_number}

-- the entry of a stream
abbrev pub entry : StreamNo → Option Stream → Option ℕ → Entry
entry number stream holder = record { number = number; stream = stream; holder = holder }

-- a test of one number is one of another that is the same
same_number : (m n x : StreamNo) → is_number n x ≡ true → is_number m x ≡ is_number m n
same_number m n x e = ap (is_number m) (sym (one_number n x e))

-- an entry of one of two different streams isn't of the other
other_number : (m n x : StreamNo) → is_number n x ≡ false → is_number m n ≡ true → is_number m x ≡ false
other_number m n x e same = ap (λ (k : StreamNo). is_number k x) (one_number m n same) ∙ e

put_found : (m n : StreamNo) (stream : Option Stream) (holder : Option ℕ) (x : Entry) (xs : List Entry) (b c : Bool) → is_of n x ≡ b → is_number m n ≡ c → find (is_of m) (put (is_of n) (entry n stream holder) xs) ≡ cond c (Some (entry n stream holder)) (find (is_of m) xs) → find (is_of m) (cond b (entry n stream holder ∷ xs) (x ∷ put (is_of n) (entry n stream holder) xs)) ≡ cond c (Some (entry n stream holder)) (cond (is_of m x) (Some x) (find (is_of m) xs))
put_found m n stream holder x xs true true e f h = ap (λ b. cond b (Some (entry n stream holder)) (find (is_of m) xs)) f
put_found m n stream holder x xs true false e f h =
    ap (λ b. cond b (Some (entry n stream holder)) (find (is_of m) xs)) f ∙ sym (ap (λ b. cond b (Some x) (find (is_of m) xs)) (same_number m n x.number e ∙ f))
put_found m n stream holder x xs false true e f h =
    ap (λ b. cond b (Some x) (find (is_of m) (put (is_of n) (entry n stream holder) xs))) (other_number m n x.number e f) ∙ h
put_found m n stream holder x xs false false e f h = ap (λ o. cond (is_of m x) (Some x) o) h

-- the entry that was put is found, and every other one as before
pub find_put : (m n : StreamNo) (stream : Option Stream) (holder : Option ℕ) (es : List Entry) → find (is_of m) (put (is_of n) (entry n stream holder) es) ≡ cond (is_number m n) (Some (entry n stream holder)) (find (is_of m) es)
find_put m n stream holder [] = refl
find_put m n stream holder (x ∷ xs) = put_found m n stream holder x xs (is_of n x) (is_number m n) refl refl (find_put m n stream holder xs)

without_found : (m n : StreamNo) (x : Entry) (xs : List Entry) (b c : Bool) → is_of n x ≡ b → is_number m n ≡ c → find (is_of m) (without (is_of n) xs) ≡ cond c None (find (is_of m) xs) → find (is_of m) (without (is_of n) (x ∷ xs)) ≡ cond c None (cond (is_of m x) (Some x) (find (is_of m) xs))
without_found m n x xs true true e f h = ap (find (is_of m)) (dropped (is_of n) x xs e) ∙ h
without_found m n x xs true false e f h =
    ap (find (is_of m)) (dropped (is_of n) x xs e) ∙ h ∙ sym (ap (λ b. cond b (Some x) (find (is_of m) xs)) (same_number m n x.number e ∙ f))
without_found m n x xs false true e f h =
    ap (find (is_of m)) (stays (is_of n) x xs e) ∙ ap (λ b. cond b (Some x) (find (is_of m) (without (is_of n) xs))) (other_number m n x.number e f) ∙ h
without_found m n x xs false false e f h = ap (find (is_of m)) (stays (is_of n) x xs e) ∙ ap (λ o. cond (is_of m x) (Some x) o) h

none_either : (b : Bool) → ◌≡◌ {A = Option Entry} None (cond b None None)
none_either true = refl
none_either false = refl

-- an entry that was taken out isn't found, and every other one as before
pub find_without : (m n : StreamNo) (es : List Entry) → find (is_of m) (without (is_of n) es) ≡ cond (is_number m n) None (find (is_of m) es)
find_without m n [] = none_either (is_number m n)
find_without m n (x ∷ xs) = without_found m n x xs (is_of n x) (is_number m n) refl refl (find_without m n xs)

opened_by : (b : Bool) (e : Entry) (o : Option Entry) → is_some (stream_in (cond b (Some e) o)) ≡ cond b (is_some e.stream) (is_some (stream_in o))
opened_by true e o = refl
opened_by false e o = refl

closed_by : (b : Bool) (o : Option Entry) → is_some (stream_in (cond b None o)) ≡ cond b false (is_some (stream_in o))
closed_by true o = refl
closed_by false o = refl

-- which streams are open after an entry was put
pub open_put : (m n : StreamNo) (stream : Option Stream) (holder : Option ℕ) (es : List Entry) → is_open (put (is_of n) (entry n stream holder) es) m ≡ cond (is_number m n) (is_some stream) (is_open es m)
open_put m n stream holder es = ap (λ o. is_some (stream_in o)) (find_put m n stream holder es) ∙ opened_by (is_number m n) (entry n stream holder) (find (is_of m) es)

-- and after one was taken out
pub open_without : (m n : StreamNo) (es : List Entry) → is_open (without (is_of n) es) m ≡ cond (is_number m n) false (is_open es m)
open_without m n es = ap (λ o. is_some (stream_in o)) (find_without m n es) ∙ closed_by (is_number m n) (find (is_of m) es)

left_by : (m n : StreamNo) (es : List Entry) (holder : Option ℕ) → is_open (leaving es n holder) m ≡ cond (is_number m n) false (is_open es m)
left_by m n es (Some holder) = open_put m n None (Some holder) es
left_by m n es None = open_without m n es

-- and after no descriptor leads to one any more
pub open_left : (m n : StreamNo) (es : List Entry) → is_open (left es n) m ≡ cond (is_number m n) false (is_open es m)
open_left m n es = left_by m n es (holder_of es n)

-- a fact of all numbers that holds of one holds of its equal
same_as : (m n : StreamNo) (f : StreamNo → Bool) (b : Bool) → is_number m n ≡ true → f n ≡ b → f m ≡ b
same_as m n f b e h = ap f (one_number m n e) ∙ h

kept_open : (m n : StreamNo) (f : StreamNo → Bool) (b c : Bool) → is_number m n ≡ c → f n ≡ b → cond c b (f m) ≡ f m
kept_open m n f b true e h = sym (same_as m n f b e h)
kept_open m n f b false e h = refl

-- an entry that is put in place of one, open where that one was, opens and closes nothing
pub open_same : (m n : StreamNo) (stream : Option Stream) (holder : Option ℕ) (es : List Entry) → is_open es n ≡ is_some stream → is_open (put (is_of n) (entry n stream holder) es) m ≡ is_open es m
open_same m n stream holder es h = open_put m n stream holder es ∙ kept_open m n (is_open es) (is_some stream) (is_number m n) refl h

-- nor does taking out one that isn't open
pub open_less : (m n : StreamNo) (es : List Entry) → is_open es n ≡ false → is_open (without (is_of n) es) m ≡ is_open es m
open_less m n es h = open_without m n es ∙ kept_open m n (is_open es) false (is_number m n) refl h

-- what is found is listed
unlisted_stream : (es : List Entry) (n : StreamNo) (s : Stream) (b : Bool) → is_listed es n ≡ b → stream_of es n ≡ Some s → b ≡ true
unlisted_stream es n s true e h = refl
unlisted_stream es n s false e h = let none = sym h ∙ ap stream_in (nothing_found (is_of n) es e) in absurd (cc)

pub listed_stream : (es : List Entry) (n : StreamNo) (s : Stream) → stream_of es n ≡ Some s → is_listed es n ≡ true
listed_stream es n s h = unlisted_stream es n s (is_listed es n) refl h

unlisted_holder : (es : List Entry) (n : StreamNo) (pid : ℕ) (b : Bool) → is_listed es n ≡ b → holder_of es n ≡ Some pid → b ≡ true
unlisted_holder es n pid true e h = refl
unlisted_holder es n pid false e h = let none = sym h ∙ ap holder_in (nothing_found (is_of n) es e) in absurd (cc)

pub listed_holder : (es : List Entry) (n : StreamNo) (pid : ℕ) → holder_of es n ≡ Some pid → is_listed es n ≡ true
listed_holder es n pid h = unlisted_holder es n pid (is_listed es n) refl h

unlisted_open : (es : List Entry) (n : StreamNo) (b : Bool) → is_listed es n ≡ b → is_open es n ≡ true → b ≡ true
unlisted_open es n true e h = refl
unlisted_open es n false e h = absurd (true≢false (sym h ∙ ap (λ o. is_some (stream_in o)) (nothing_found (is_of n) es e)))

pub listed_open : (es : List Entry) (n : StreamNo) → is_open es n ≡ true → is_listed es n ≡ true
listed_open es n h = unlisted_open es n (is_listed es n) refl h

-- a fact of each entry is one of the entry that is found
pub each_put : {X : Type 0} (P : X → Type 0) (p : X → Bool) (new : X) (xs : List X) → P new → AllByRecursion P xs → AllByRecursion P (put p new xs)
each_put P p new [] k h = (k, tt)
each_put P p new (x ∷ xs) k h = elim (p x) as (λ b. AllByRecursion P (cond b (new ∷ xs) (x ∷ put p new xs))) [ true ↦ (k, h.1) | false ↦ (h.0, each_put P p new xs k h.1) ]

pub placed_found : (p : Entry → Bool) (es : List Entry) → AllByRecursion (λ (e : Entry). is_placed_in e.stream ≡ true) es → is_placed_in (stream_in (find p es)) ≡ true
placed_found p [] h = refl
placed_found p (x ∷ xs) h = elim (p x) as (λ b. is_placed_in (stream_in (cond b (Some x) (find p xs))) ≡ true) [ true ↦ h.0 | false ↦ placed_found p xs h.1 ]

roomy_grants : (o : Option Stream) → is_roomy o ≡ true → grants_in o ≤ 2000000000
roomy_grants (Some s) h = search (rules, tests, h)
roomy_grants None h = omega arith

-- where there is room, a stream that is found has few grants
pub room_found : (p : Entry → Bool) (es : List Entry) → has_room es ≡ true → grants_in (stream_in (find p es)) ≤ 2000000000
room_found p [] h = omega arith
room_found p (x ∷ xs) h =
    let parts = and_parts (is_roomy x.stream) (has_room xs) h in
    elim (p x) as (λ b. grants_in (stream_in (cond b (Some x) (find p xs))) ≤ 2000000000) [ true ↦ roomy_grants x.stream parts.0 | false ↦ room_found p xs parts.1 ]
