-- What the test of arriving streams gives.
use Rattle.std.proofs.Common.{◌≡◌, ℕ, zero, suc, ◌≤◌, ◌<◌, nat_le, nat_lt, Bool, true, false, ◌&&◌, ◌||◌, not, if◌then◌else◌, List, [], ◌∷◌, drop, refl}
use Rattle.std.specs.List.{AllByRecursion, list_all, list_any}
use Rattle.std.proofs.lemmas.Bool.{and_parts, leb-true, ltb-true}
use Rattle.sprite_ids.specs.Lists.{EachOnce}
use Rattle.stream_table.specs.declared.Carried.{Carried}
use Rattle.stream_table.specs.Entries.{is_placed}
use Rattle.stream_table.specs.Streams.{same_fd}
use Rattle.client_files.specs.Arrivals.{are_apart, is_fit, is_repeated}

apart_by : (b : Bool) (items : List Carried) → (if b then false else are_apart items) ≡ true → (b ≡ false) × (are_apart items ≡ true)
apart_by true items h = absurd (cc)
apart_by false items h = (refl, h)

-- descriptors of which none stands twice differ
pub apart_once : (items : List Carried) → are_apart items ≡ true → EachOnce same_fd items
apart_once [] h = tt
apart_once (item ∷ items) h =
    let parts = apart_by (list_any (same_fd item) items) items h in
    (parts.0, apart_once items parts.1)

-- what the test of one item gives
pub few_of : (item : Carried) → is_fit item ≡ true → item.fd < 16
few_of item h = ltb-true item.fd 16 (and_parts (nat_lt item.fd 16) (nat_le item.stream.grants 2000000000) (and_parts (nat_lt item.fd 16 && nat_le item.stream.grants 2000000000) (is_placed item.stream) h).0).0

pub grants_of : (item : Carried) → is_fit item ≡ true → item.stream.grants ≤ 2000000000
grants_of item h = leb-true item.stream.grants 2000000000 (and_parts (nat_lt item.fd 16) (nat_le item.stream.grants 2000000000) (and_parts (nat_lt item.fd 16 && nat_le item.stream.grants 2000000000) (is_placed item.stream) h).0).1

pub placed_of : (item : Carried) → is_fit item ≡ true → is_placed item.stream ≡ true
placed_of item h = (and_parts (nat_lt item.fd 16 && nat_le item.stream.grants 2000000000) (is_placed item.stream) h).1

-- a fact of all items from the test of each
pub each_fit : (P : Carried → Type 0) (items : List Carried) → ((item : Carried) → is_fit item ≡ true → P item) → list_all is_fit items ≡ true → AllByRecursion P items
each_fit P [] gives h = tt
each_fit P (item ∷ items) gives h =
    let parts = and_parts (is_fit item) (list_all is_fit items) h in
    (gives item parts.0, each_fit P items gives parts.1)

repeated_by : (b : Bool) (items : List Carried) → b ≡ true → (if b then false else are_apart items) ≡ false
repeated_by true items h = refl
repeated_by false items h = absurd (cc)

-- the first item's descriptor stands once more: not all differ
pub repeated_once : (items : List Carried) → is_repeated items ≡ true → are_apart items ≡ false
repeated_once [] h = absurd (cc)
repeated_once (item ∷ items) h = repeated_by (list_any (same_fd item) items) items h

unrepeated_by : (b : Bool) (items : List Carried) → b ≡ false → (if b then false else are_apart items) ≡ are_apart items
unrepeated_by true items h = absurd (cc)
unrepeated_by false items h = refl

-- it doesn't: all differ where the others do
pub unrepeated : (items : List Carried) → is_repeated items ≡ false → are_apart items ≡ are_apart (drop 1 items)
unrepeated [] h = refl
unrepeated (item ∷ items) h = unrepeated_by (list_any (same_fd item) items) items h

-- what the test of all gives
pub test_parts : (used apart fit : Bool) → (if used || not apart then false else fit) ≡ true → (apart ≡ true) × (fit ≡ true)
test_parts true apart fit h = absurd (cc)
test_parts false true fit h = (refl, h)
test_parts false false fit h = absurd (cc)

-- the items behind the first of those behind a place
pub drop_next : {X : Type 0} (xs : List X) (at : ℕ) → drop (suc at) xs ≡ drop 1 (drop at xs)
drop_next xs zero = refl
drop_next [] (suc at) = refl
drop_next (x ∷ xs) (suc at) = drop_next xs at
