-- Where a call stands, and how many copies of each call are in flight.
use Rattle.std.proofs.Common.{arith, ◌≡◌, ℕ, zero, suc, ◌+◌, ◌-◌, ◌<◌, ◌≤◌, ◌==◌, nat_lt, Bool, true, false, ◌||◌, not, cond, List, [], ◌∷◌, ◌++◌, length, map, Some, None, refl, sym, ap, subst, ◌∙◌, get_or, slice_set, ltb, min, ◌^◌, length-append, ⊎_elim}
use Rattle.std.specs.List.{AllByRecursion, find, list_any, position, position_or_len, remove}
use Rattle.std.proofs.lemmas.Bool.Decides.{nat_tests}
use Rattle.std.proofs.lemmas.Bool.{cases_lt, eqb-true}
use Rattle.std.proofs.lemmas.List.{map-append}
use Rattle.std.proofs.lemmas.List.Quantifiers.{position-Some}
use Rattle.std.proofs.lemmas.List.Sums.{fails_before_first, passes_at_first}
use Rattle.sprite_ids.specs.declared.TxNo.{TxNo}
use Rattle.sprite_ids.specs.declared.Tries.TheVariants.{Eight}
use Rattle.sprite_ids.specs.Lists.{less}
use Rattle.sprite_ids.proofs.ListLaws.{some_is}
use Rattle.sprite_ids.proofs.OnceLaws.{or_false}
use Rattle.kernel_rpc.specs.declared.call.Call.{Call}
use Rattle.kernel_rpc.specs.declared.call.PacketCopy.{PacketCopy}
use Rattle.kernel_rpc.specs.Machine.{is_call, is_copy, is_of_call}
use Rattle.kernel_rpc.specs.Sound.{HasBegun, IsNumbered}
use Rattle.kernel_rpc.specs.declared.table.CallTable.{CallTable}
use Rattle.kernel_rpc.specs.Table.{Ascend, Kept, Stands, counts_of, flying_of}
use Rattle.kernel_rpc.proofs.NumberLaws.{none_after}
use Rattle.kernel_rpc.proofs.SoundLaws.{each_within, other_copy}

below : (first last : ℕ) (calls : List Call) → IsNumbered first calls last → (j : ℕ) (d : Call) → j < length calls → first < (get_or calls j d).tx.0
below first last [] h j d inside = absurd (omega arith)
below first last (call ∷ calls) h zero d inside = h.0
below first last (call ∷ calls) h (suc j) d inside =
    let here = h.0 in
    let rest = below call.tx.0 last calls h.1 j d (omega arith) in
    omega arith

-- calls whose numbers ascend stand in their order
pub ascend : (first last : ℕ) (calls : List Call) → IsNumbered first calls last → Ascend calls
ascend first last [] h i j d le inside = absurd (omega arith)
ascend first last (call ∷ calls) h zero zero d le inside = omega arith
ascend first last (call ∷ calls) h zero (suc j) d le inside = (let rest = below call.tx.0 last calls h.1 j d (omega arith) in omega arith)
ascend first last (call ∷ calls) h (suc i) zero d le inside = absurd (omega arith)
ascend first last (call ∷ calls) h (suc i) (suc j) d le inside = ascend call.tx.0 last calls h.1 i j d (omega arith) (omega arith)

clash : (b : Bool) → b ≡ true → b ≡ false → ⊥
clash b e k = cc

first_is : {X : Type 0} (p : X → Bool) (xs : List X) (i : ℕ) (d : X) → i < length xs → p (get_or xs i d) ≡ true → ((k : ℕ) → k < i → p (get_or xs k d) ≡ false) → position_or_len p xs ≡ i
first_is p xs i d inside passes before =
    ⊎_elim
    (λ low. absurd (clash (p (get_or xs (position_or_len p xs) d)) (passes_at_first p xs d (omega arith)) (before (position_or_len p xs) low)))
    (λ least. ⊎_elim
    (λ high. absurd (clash (p (get_or xs i d)) passes (fails_before_first p xs i d high)))
    (λ most. omega arith)
    (cases_lt i (position_or_len p xs)))
    (cases_lt (position_or_len p xs) i)

-- the place of the first that passes
pub position_is : {X : Type 0} (p : X → Bool) (xs : List X) (i : ℕ) (d : X) → i < length xs → p (get_or xs i d) ≡ true → ((k : ℕ) → k < i → p (get_or xs k d) ≡ false) → position p xs ≡ Some i
position_is p xs i d inside passes before =
    let low : nat_lt i (length xs) ≡ true = grind (arith, nat_tests) in
    subst (λ n. cond (nat_lt n (length xs)) (Some n) None ≡ Some i) (sym (first_is p xs i d inside passes before)) (ap (λ b. cond b (Some i) None) low)

-- no place where none passes
pub position_none : {X : Type 0} (p : X → Bool) (xs : List X) (d : X) → ((k : ℕ) → k < length xs → p (get_or xs k d) ≡ false) → position p xs ≡ None
position_none p xs d none =
    ⊎_elim
    (λ low. absurd (clash (p (get_or xs (position_or_len p xs) d)) (passes_at_first p xs d low) (none (position_or_len p xs) low)))
    (λ least. (let past : nat_lt (position_or_len p xs) (length xs) ≡ false = grind (arith, nat_tests) in ap (λ b. cond b (Some (position_or_len p xs)) None) past))
    (cases_lt (position_or_len p xs) (length xs))

mapped_none : (f g : Call → ℕ) (p : Call → Bool) (calls : List Call) → list_any p calls ≡ false → ((call : Call) → p call ≡ false → g call ≡ f call) → map g calls ≡ map f calls
mapped_none f g p [] none other = refl
mapped_none f g p (call ∷ calls) none other =
    let parts = or_false (p call) (list_any p calls) none in
    ap (λ n. n ∷ map g calls) (other call parts.0) ∙ ap (λ ns. f call ∷ ns) (mapped_none f g p calls parts.1 other)

mapped_there : (f g : Call → ℕ) (h : ℕ → ℕ) (tx : TxNo) (first last : ℕ) (calls : List Call) (at : ℕ) (d : Call) → IsNumbered first calls last → at < length calls → is_call tx (get_or calls at d) ≡ true → ((k : ℕ) → k < at → is_call tx (get_or calls k d) ≡ false) → ((call : Call) → is_call tx call ≡ false → g call ≡ f call) → ((call : Call) → is_call tx call ≡ true → g call ≡ h (f call)) → (n : ℕ) → n ≡ get_or (map f calls) at n → map g calls ≡ slice_set (map f calls) at (h n)
mapped_there f g h tx first last [] at d num inside t k other this n is = absurd (omega arith)
mapped_there f g h tx first last (call ∷ calls) zero d num inside t k other this n is = ap (λ m. m ∷ map g calls) (this call t ∙ ap h (sym is)) ∙ ap (λ ns. h n ∷ ns) (mapped_none f g (is_call tx) calls (none_after tx first last call calls t num) other)
mapped_there f g h tx first last (call ∷ calls) (suc at) d num inside t k other this n is = ap (λ m. m ∷ map g calls) (other call (k 0 (omega arith))) ∙ ap (λ ns. f call ∷ ns) (mapped_there f g h tx call.tx.0 last calls at d num.1 (omega arith) t (λ j under. k (suc j) (omega arith)) other this n is)

flying_append : (tx : TxNo) (xs ys : List PacketCopy) → flying_of tx (xs ++ ys) ≡ flying_of tx xs + flying_of tx ys
flying_append tx [] ys = omega arith
flying_append tx (x ∷ xs) ys =
    let rest = flying_append tx xs ys in
    elim (is_of_call tx x) as (λ b. cond b (1 + flying_of tx (xs ++ ys)) (flying_of tx (xs ++ ys)) ≡ cond b (1 + flying_of tx xs) (flying_of tx xs) + flying_of tx ys) [ true ↦ omega arith | false ↦ rest ]

flying_none : (tx : TxNo) (xs : List PacketCopy) → AllByRecursion (λ (copy : PacketCopy). is_of_call tx copy ≡ false) xs → flying_of tx xs ≡ 0
flying_none tx [] h = refl
flying_none tx (x ∷ xs) h = ap (λ b. cond b (1 + flying_of tx xs) (flying_of tx xs)) h.0 ∙ flying_none tx xs h.1

flying_all : (tx : TxNo) (xs : List PacketCopy) → AllByRecursion (λ (copy : PacketCopy). is_of_call tx copy ≡ true) xs → flying_of tx xs ≡ length xs
flying_all tx [] h = refl
flying_all tx (x ∷ xs) h =
    let rest = flying_all tx xs h.1 in
    let here : flying_of tx (x ∷ xs) ≡ 1 + flying_of tx xs = ap (λ b. cond b (1 + flying_of tx xs) (flying_of tx xs)) h.0 in
    omega arith

one_more : (b : Bool) (n : ℕ) → cond b (1 + n) n ≡ cond b 1 0 + n
one_more true n = omega arith
one_more false n = omega arith

less_by : (tx : TxNo) (p : PacketCopy → Bool) (x y : PacketCopy) (ys : List PacketCopy) → (find p ys ≡ Some x → flying_of tx ys ≡ cond (is_of_call tx x) 1 0 + flying_of tx (less p ys)) → (b : Bool) → cond b (Some y) (find p ys) ≡ Some x → flying_of tx (y ∷ ys) ≡ cond (is_of_call tx x) 1 0 + flying_of tx (cond b ys (y ∷ less p ys))
less_by tx p x y ys rest true found = subst (λ z. cond (is_of_call tx z) (1 + flying_of tx ys) (flying_of tx ys) ≡ cond (is_of_call tx x) 1 0 + flying_of tx ys) (sym (some_is y x found)) (one_more (is_of_call tx x) (flying_of tx ys))
less_by tx p x y ys rest false found =
    let later = rest found in
    elim (is_of_call tx y) as (λ b. cond b (1 + flying_of tx ys) (flying_of tx ys) ≡ cond (is_of_call tx x) 1 0 + cond b (1 + flying_of tx (less p ys)) (flying_of tx (less p ys))) [ true ↦ omega arith | false ↦ later ]

-- one copy less is in flight
flying_less : (tx : TxNo) (p : PacketCopy → Bool) (x : PacketCopy) (xs : List PacketCopy) → find p xs ≡ Some x → flying_of tx xs ≡ cond (is_of_call tx x) 1 0 + flying_of tx (less p xs)
flying_less tx p x [] found = absurd (cc)
flying_less tx p x (y ∷ ys) found = less_by tx p x y ys (flying_less tx p x ys) (p y) found

-- no copy is in flight exactly where the count is 0
pub none_flying : (tx : TxNo) (copies : List PacketCopy) → (flying_of tx copies == 0) ≡ not (list_any (is_of_call tx) copies)
none_flying tx [] = refl
none_flying tx (x ∷ xs) = elim (is_of_call tx x) as (λ b. (cond b (1 + flying_of tx xs) (flying_of tx xs) == 0) ≡ not (b || list_any (is_of_call tx) xs)) [ true ↦ grind (arith, nat_tests) | false ↦ none_flying tx xs ]

-- some call
abbrev pub some_call : Call
some_call = record { tx = record { 0 = 0 }; from = 1; port = 0; owner = 1; tries = Eight; lost = 0; before = 0; about = None; receivers = []; body = []; reply = None }

same_call : (tx : TxNo) (call : Call) → is_call tx call ≡ true → (tx.0 == call.tx.0) ≡ true
same_call tx call e = grind (arith, nat_tests)

-- the counts after a copy landed
pub counted_landed : (last : ℕ) (calls : List Call) (copies : List PacketCopy) (copy : PacketCopy) (at n : ℕ) → IsNumbered 0 calls last → position (is_call copy.tx) calls ≡ Some at → find (is_copy copy.number) copies ≡ Some copy → n ≡ get_or (counts_of copies calls) at n → counts_of (less (is_copy copy.number) copies) calls ≡ slice_set (counts_of copies calls) at (n - 1)
counted_landed last calls copies copy at n num place flying is =
    let found = position-Some (is_call copy.tx) calls at some_call place in
    let after = less (is_copy copy.number) copies in
    let one : (tx : TxNo) → flying_of tx copies ≡ cond (is_of_call tx copy) 1 0 + flying_of tx after = λ tx. flying_less tx (is_copy copy.number) copy copies flying in
    mapped_there (λ call. flying_of call.tx copies) (λ call. flying_of call.tx after) (λ n. n - 1) copy.tx 0 last calls at some_call num found.0 found.1 found.2 (λ call e. (let same : flying_of call.tx copies ≡ 0 + flying_of call.tx after = one call.tx ∙ ap (λ b. cond b 1 0 + flying_of call.tx after) (other_copy copy.tx call e) in omega arith)) (λ call e. (let same : flying_of call.tx copies ≡ 1 + flying_of call.tx after = one call.tx ∙ ap (λ b. cond b 1 0 + flying_of call.tx after) (same_call copy.tx call e) in omega arith)) n is

-- the counts stay where a copy landed that is of none of the calls
pub counted_stray : (calls : List Call) (copies : List PacketCopy) (copy : PacketCopy) → list_any (is_call copy.tx) calls ≡ false → find (is_copy copy.number) copies ≡ Some copy → counts_of (less (is_copy copy.number) copies) calls ≡ counts_of copies calls
counted_stray calls copies copy none flying =
    let after = less (is_copy copy.number) copies in
    mapped_none (λ call. flying_of call.tx copies) (λ call. flying_of call.tx after) (is_call copy.tx) calls none (λ call e. (let same : flying_of call.tx copies ≡ 0 + flying_of call.tx after = flying_less call.tx (is_copy copy.number) copy copies flying ∙ ap (λ b. cond b 1 0 + flying_of call.tx after) (other_copy copy.tx call e) in omega arith))

none_of : (key tx : TxNo) (more : List PacketCopy) → (tx.0 == key.0) ≡ false → AllByRecursion (λ (copy : PacketCopy). copy.tx ≡ tx) more → flying_of key more ≡ 0
none_of key tx [] e all = refl
none_of key tx (copy ∷ more) e all = ap (λ b. cond b (1 + flying_of key more) (flying_of key more)) (ap (λ (tx : TxNo). tx.0 == key.0) all.0 ∙ e) ∙ none_of key tx more e all.1

all_of : (key tx : TxNo) (more : List PacketCopy) → (tx.0 == key.0) ≡ true → AllByRecursion (λ (copy : PacketCopy). copy.tx ≡ tx) more → flying_of key more ≡ length more
all_of key tx [] e all = refl
all_of key tx (copy ∷ more) e all =
    let rest = all_of key tx more e all.1 in
    let here : flying_of key (copy ∷ more) ≡ 1 + flying_of key more = ap (λ b. cond b (1 + flying_of key more) (flying_of key more)) (ap (λ (tx : TxNo). tx.0 == key.0) all.0 ∙ e) in
    omega arith

-- the counts after copies of one call went in flight
pub counted_sent : (last : ℕ) (calls : List Call) (copies more : List PacketCopy) (tx : TxNo) (at n : ℕ) → AllByRecursion (λ (copy : PacketCopy). copy.tx ≡ tx) more → IsNumbered 0 calls last → position (is_call tx) calls ≡ Some at → n ≡ get_or (counts_of copies calls) at n → counts_of (copies ++ more) calls ≡ slice_set (counts_of copies calls) at (n + length more)
counted_sent last calls copies more tx at n all num place is =
    let found = position-Some (is_call tx) calls at some_call place in
    mapped_there (λ call. flying_of call.tx copies) (λ call. flying_of call.tx (copies ++ more)) (λ n. n + length more) tx 0 last calls at some_call num found.0 found.1 found.2 (λ call e. (let none = none_of call.tx tx more (other_copy tx call e) all in let both = flying_append call.tx copies more in omega arith)) (λ call e. (let each = all_of call.tx tx more (same_call tx call e) all in let both = flying_append call.tx copies more in omega arith)) n is

none_before : (call : Call) (begun : ℕ) (copies : List PacketCopy) → call.tx.0 ≡ begun + 1 → AllByRecursion (HasBegun begun) copies → flying_of call.tx copies ≡ 0
none_before call begun [] next h = refl
none_before call begun (copy ∷ copies) next h =
    let there = h.0 in
    let other : is_of_call call.tx copy ≡ false = grind (arith, nat_tests) in
    ap (λ b. cond b (1 + flying_of call.tx copies) (flying_of call.tx copies)) other ∙ none_before call begun copies next h.1

none_new : (call : Call) (begun : ℕ) (calls : List Call) → call.tx.0 ≡ begun + 1 → AllByRecursion (λ (call : Call). call.tx.0 ≤ begun) calls → list_any (is_call call.tx) calls ≡ false
none_new call begun [] next h = refl
none_new call begun (old ∷ calls) next h =
    let there = h.0 in
    let other : is_call call.tx old ≡ false = grind (arith, nat_tests) in
    ap (λ b. b || list_any (is_call call.tx) calls) other ∙ none_new call begun calls next h.1

-- the counts after a call was begun
pub counted_begun : (begun : ℕ) (calls : List Call) (copies more : List PacketCopy) (call : Call) → AllByRecursion (λ (copy : PacketCopy). copy.tx ≡ call.tx) more → IsNumbered 0 calls begun → AllByRecursion (HasBegun begun) copies → call.tx.0 ≡ begun + 1 → counts_of (copies ++ more) (calls ++ call ∷ []) ≡ counts_of copies calls ++ length more ∷ []
counted_begun begun calls copies more call all num flying next =
    let count : Call → ℕ = λ call. flying_of call.tx (copies ++ more) in
    let none = none_before call begun copies next flying in
    let both = flying_append call.tx copies more in
    let same : (call.tx.0 == call.tx.0) ≡ true = grind (arith, nat_tests) in
    let each = all_of call.tx call.tx more same all in
    let new : count call ≡ length more = omega arith in
    let old : map count calls ≡ counts_of copies calls = mapped_none (λ call. flying_of call.tx copies) count (is_call call.tx) calls (none_new call begun calls next (each_within 0 begun calls num)) (λ other e. (let none = none_of other.tx call.tx more (other_copy call.tx other e) all in let both = flying_append other.tx copies more in omega arith)) in
    map-append count calls (call ∷ []) ∙ ap (λ ns. ns ++ count call ∷ []) old ∙ ap (λ n. counts_of copies calls ++ n ∷ []) new

-- the counts stay where a call is changed and keeps its number
pub counted_set : (copies : List PacketCopy) (calls : List Call) (at : ℕ) (old new : Call) → old ≡ get_or calls at old → new.tx ≡ old.tx → counts_of copies (slice_set calls at new) ≡ counts_of copies calls
counted_set copies [] at old new is same = refl
counted_set copies (call ∷ calls) zero old new is same = ap (λ tx. flying_of tx copies ∷ counts_of copies calls) (same ∙ ap (λ (call : Call). call.tx) is)
counted_set copies (call ∷ calls) (suc at) old new is same = ap (λ ns. flying_of call.tx copies ∷ ns) (counted_set copies calls at old new is same)

-- the counts after a call is finished
pub counted_less : (copies : List PacketCopy) (calls : List Call) (at : ℕ) → remove (counts_of copies calls) at ≡ counts_of copies (remove calls at)
counted_less copies [] zero = refl
counted_less copies [] (suc at) = refl
counted_less copies (call ∷ calls) zero = refl
counted_less copies (call ∷ calls) (suc at) = ap (λ ns. flying_of call.tx copies ∷ ns) (counted_less copies calls at)

-- a count is at most the number of the copies
pub flying_most : (tx : TxNo) (copies : List PacketCopy) → flying_of tx copies ≤ length copies
flying_most tx [] = omega arith
flying_most tx (x ∷ xs) =
    let rest = flying_most tx xs in
    elim (is_of_call tx x) as (λ b. cond b (1 + flying_of tx xs) (flying_of tx xs) ≤ suc (length xs)) [ true ↦ omega arith | false ↦ omega arith ]

-- and so is a kept one
pub counts_most : (copies : List PacketCopy) (calls : List Call) (at n : ℕ) → at < length calls → n ≡ get_or (counts_of copies calls) at n → n ≤ length copies
counts_most copies [] at n inside is = absurd (omega arith)
counts_most copies (call ∷ calls) zero n inside is = (let most = flying_most call.tx copies in omega arith)
counts_most copies (call ∷ calls) (suc at) n inside is = counts_most copies calls at n (omega arith) is

-- a call with a smaller number is another one
pub apart_below : (tx : TxNo) (call : Call) → ltb call.tx.0 tx.0 ≡ true → is_call tx call ≡ false
apart_below tx call less = grind (arith, nat_tests)

-- a call of another number at the first place whose number isn't smaller: none has the number
pub none_there : (tx : TxNo) (calls : List Call) (at : ℕ) (d : Call) → Ascend calls → at < length calls → is_call tx (get_or calls at d) ≡ false → ((k : ℕ) → k < at → ltb (get_or calls k d).tx.0 tx.0 ≡ true) → ltb (get_or calls at d).tx.0 tx.0 ≡ false → position (is_call tx) calls ≡ None
none_there tx calls at d order inside other before least =
    position_none (is_call tx) calls d (λ k under. ⊎_elim (λ low. apart_below tx (get_or calls k d) (before k low)) (λ high. (let more = order at k d high under in apart_above tx (get_or calls at d) (get_or calls k d) other least more)) (cases_lt k at))
  where
    apart_above : (tx : TxNo) (first later : Call) → is_call tx first ≡ false → ltb first.tx.0 tx.0 ≡ false → first.tx.0 ≤ later.tx.0 → is_call tx later ≡ false
    apart_above tx first later other least more = grind (arith, nat_tests)

count_at : (copies : List PacketCopy) (calls : List Call) (at n : ℕ) (d : Call) → at < length calls → n ≡ get_or (counts_of copies calls) at n → n ≡ flying_of (get_or calls at d).tx copies
count_at copies [] at n d inside is = absurd (omega arith)
count_at copies (call ∷ calls) zero n d inside is = is
count_at copies (call ∷ calls) (suc at) n d inside is = count_at copies calls at n d (omega arith) is

-- whether a kept count is 0 says whether no copy of the call is in flight
pub due_there : (copies : List PacketCopy) (calls : List Call) (counts : List ℕ) (at n : ℕ) (call : Call) → at < length calls → counts ≡ counts_of copies calls → call ≡ get_or calls at call → n ≡ get_or counts at n → (n == 0) ≡ not (list_any (is_of_call call.tx) copies)
due_there copies calls counts at n call inside counted there is =
    let kept : n ≡ get_or (counts_of copies calls) at n = subst (λ ns. n ≡ get_or ns at n) counted is in
    let same : n ≡ flying_of call.tx copies = count_at copies calls at n call inside kept ∙ ap (λ (call : Call). flying_of call.tx copies) (sym there) in
    ap (λ n. n == 0) same ∙ none_flying call.tx copies

pub not_zero : (n : ℕ) → (n ≡ 0 → ⊥) → (n == 0) ≡ false
not_zero n away = grind (arith, nat_tests)

abbrev number_of : ℕ → TxNo
number_of n = record { 0 = n }

-- the call at the place of a number has it
pub placed_is : (tx : TxNo) (calls : List Call) (at : ℕ) (call : Call) → position (is_call tx) calls ≡ Some at → call ≡ get_or calls at call → call.tx ≡ tx
placed_is tx calls at call place is =
    let passes : is_call tx call ≡ true = ap (is_call tx) is ∙ (position-Some (is_call tx) calls at call place).1 in
    ap number_of (eqb-true call.tx.0 tx.0 passes)

-- the counts after copies of one call went in flight, by the lengths of the list of copies
pub raised_counts : (last : ℕ) (calls : List Call) (copies more : List PacketCopy) (counts : List ℕ) (tx : TxNo) (at n sum before after : ℕ) → AllByRecursion (λ (copy : PacketCopy). copy.tx ≡ tx) more → IsNumbered 0 calls last → position (is_call tx) calls ≡ Some at → counts ≡ counts_of copies calls → n ≡ get_or counts at n → before ≡ length copies → after ≡ length (copies ++ more) → after < 2 ^ 64 → sum ≡ min (n + (after - before)) (2 ^ 64 - 1) → slice_set counts at sum ≡ counts_of (copies ++ more) calls
raised_counts last calls copies more counts tx at n sum before after all num place counted is first then_ small summed =
    let inside = (position-Some (is_call tx) calls at some_call place).0 in
    let kept : n ≡ get_or (counts_of copies calls) at n = subst (λ ns. n ≡ get_or ns at n) counted is in
    let most = counts_most copies calls at n inside kept in
    let long = length-append copies more in
    let exact : sum ≡ n + length more = grind arith in
    ap (slice_set counts at) exact ∙ ap (λ ns. slice_set ns at (n + length more)) counted ∙ sym (counted_sent last calls copies more tx at n all num place kept)

-- what holds of the table of a wire is what holds of a table
pub stands_of : (reads : List ℕ → Type 0) (faults : ℕ → ℕ → ℕ) (table : CallTable) → Kept reads faults table → Stands table
stands_of reads faults table h = record { numbered = h.sound.numbered; begun = h.sound.flying; counted = h.counted; rising = h.rising }
