-- An image of which some pages are away runs as the whole image does, for as long as it wants none of them.
use Rattle.std.proofs.Common.{◌≡◌, ℕ, zero, suc, ◌+◌, ◌*◌, ◌/◌, ◌%◌, ◌<◌, ◌≤◌, List, [], ◌∷◌, length, Option, Some, None, IsSome, is_some, option_map, Bool, true, false, ◌&&◌, ◌||◌, nat_lt, refl, ap, sym, subst, ◌∙◌, arith, slice_get, slice_set, if◌then◌else◌, inl, inr, add-zero, zero-add}
use Rattle.std.proofs.lemmas.Bool.{cases_lt, ltb-false, lt-ltb, and_from}
use Rattle.sprite_ids.specs.declared.errno.Errno.TheVariants.{Invalid, BadName, BadAddress}
use Rattle.process_machine.specs.declared.parts.Part.{Part}
use Rattle.process_machine.specs.declared.parts.Parts.{Parts}
use Rattle.process_machine.specs.declared.memory.Access.{Access}
use Rattle.process_machine.specs.declared.memory.Access.TheVariants.{Present, Outside}
use Rattle.process_machine.specs.Memory.{page_of, leaves, byte_in, byte_at, bytes_at, put_in, with_byte, with_bytes, in_page, byte_access, word_access}
use Rattle.process_machine.specs.Parts.{too_long, misnamed, leaves_pages, refusal, touches, first_away}
use Rattle.process_machine.specs.Facts.{IsPart, AllPresent}
use Rattle.sprite_ids.proofs.ListLaws.{some_is}

pub part_count : (part whole : List (Option (List ℕ))) → IsPart part whole → length whole ≡ length part
part_count [] [] h = refl
part_count [] (page ∷ whole) h = absurd h
part_count (page ∷ part) [] h = absurd h
part_count (None ∷ part) (page ∷ whole) h = ap suc (part_count part whole h)
part_count (Some bytes ∷ part) (page ∷ whole) h = ap suc (part_count part whole h.1)

pub part_page : (part whole : List (Option (List ℕ))) (k : ℕ) (bytes : List ℕ) → IsPart part whole → page_of part k ≡ Some bytes → page_of whole k ≡ Some bytes
part_page [] whole k bytes h e = cc
part_page (page ∷ part) [] k bytes h e = absurd h
part_page (None ∷ part) (page ∷ whole) zero bytes h e = cc
part_page (None ∷ part) (page ∷ whole) (suc k) bytes h e = part_page part whole k bytes h e
part_page (Some here ∷ part) (page ∷ whole) zero bytes h e = h.0 ∙ e
part_page (Some here ∷ part) (page ∷ whole) (suc k) bytes h e = part_page part whole k bytes h.1 e

later_at : (page : Option (List ℕ)) (pages : List (Option (List ℕ))) (k offset byte : ℕ) (found : Option (Option (List ℕ))) → put_in found (page ∷ pages) (suc k) offset byte ≡ page ∷ put_in found pages k offset byte
later_at page pages k offset byte None = refl
later_at page pages k offset byte (Some here) = refl

put_later : (page : Option (List ℕ)) (pages : List (Option (List ℕ))) (k offset byte : ℕ) → put_in (slice_get (page ∷ pages) (suc k)) (page ∷ pages) (suc k) offset byte ≡ page ∷ put_in (slice_get pages k) pages k offset byte
put_later page pages k offset byte = later_at page pages k offset byte (slice_get pages k)

-- a byte that is put into both leaves one a part of the other
put_part : (part whole : List (Option (List ℕ))) (k offset byte : ℕ) → IsPart part whole → IsPart (put_in (slice_get part k) part k offset byte) (put_in (slice_get whole k) whole k offset byte)
put_part [] [] k offset byte h = tt
put_part [] (page ∷ whole) k offset byte h = absurd h
put_part (page ∷ part) [] k offset byte h = absurd h
put_part (None ∷ part) (page ∷ whole) zero offset byte h = h
put_part (Some bytes ∷ part) (page ∷ whole) zero offset byte h =
    (ap (option_map (λ bs. slice_set bs offset byte)) h.0, h.1)
put_part (None ∷ part) (page ∷ whole) (suc k) offset byte h =
    let rest = put_part part whole k offset byte h in
    rw (put_later None part k offset byte, put_later page whole k offset byte) rest
put_part (Some bytes ∷ part) (page ∷ whole) (suc k) offset byte h =
    let rest = put_part part whole k offset byte h.1 in
    rw (put_later (Some bytes) part k offset byte, put_later page whole k offset byte) (h.0, rest)

pub byte_part : (part whole : List (Option (List ℕ))) (address byte : ℕ) → IsPart part whole → IsPart (with_byte part address byte) (with_byte whole address byte)
byte_part part whole address byte h = put_part part whole (address / 4096) (address % 4096) byte h

pub bytes_part : (part whole : List (Option (List ℕ))) (address : ℕ) (bytes : List ℕ) → IsPart part whole → IsPart (with_bytes part address bytes) (with_bytes whole address bytes)
bytes_part part whole address [] h = h
bytes_part part whole address (byte ∷ bytes) h =
    bytes_part (with_byte part address byte) (with_byte whole address byte) (address + 1) bytes (byte_part part whole address byte h)

-- bytes whose pages are there
pub record AreShown (pages : List (Option (List ℕ))) (address count : ℕ) : Type 0 where
  pub at : (i : ℕ) → i < count → IsSome (page_of pages ((address + i) / 4096))

same_byte : (part whole : List (Option (List ℕ))) (k offset : ℕ) (page : Option (List ℕ)) → page_of part k ≡ page → IsSome page → IsPart part whole → byte_in (page_of whole k) offset ≡ byte_in (page_of part k) offset
same_byte part whole k offset None e s h = cc s
same_byte part whole k offset (Some bytes) e s h = ap (λ p. byte_in p offset) (part_page part whole k bytes h e ∙ sym e)

pub shown_byte : (part whole : List (Option (List ℕ))) (address : ℕ) → IsPart part whole → IsSome (page_of part (address / 4096)) → byte_at whole address ≡ byte_at part address
shown_byte part whole address h s = same_byte part whole (address / 4096) (address % 4096) (page_of part (address / 4096)) refl s h

pub shown_bytes : (part whole : List (Option (List ℕ))) (address count : ℕ) → IsPart part whole → AreShown part address count → bytes_at whole address count ≡ bytes_at part address count
shown_bytes part whole address zero h s = refl
shown_bytes part whole address (suc count) h s =
    let here : IsSome (page_of part (address / 4096)) = subst (λ (n : ℕ). IsSome (page_of part (n / 4096))) (add-zero address) (s.at 0 (omega arith)) in
    let rest : AreShown part (address + 1) count =
    record { at = λ i. λ within. (let e : address + suc i ≡ address + 1 + i = omega arith in subst (λ (n : ℕ). IsSome (page_of part (n / 4096))) e (s.at (suc i) (omega arith))) } in
    let head = shown_byte part whole address h here in
    let tail = shown_bytes part whole (address + 1) count h rest in
    rw (head, tail) refl

same_leaves : (part whole : List (Option (List ℕ))) (address count : ℕ) → IsPart part whole → leaves whole address count ≡ leaves part address count
same_leaves part whole address count h = ap (λ n. nat_lt (4096 * n) (address + count)) (part_count part whole h)

-- what an access finds in a part it finds in the whole
one_present : (b : Bool) (page : Option (List ℕ)) (k : ℕ) → b ≡ false → IsSome page → (if b then Outside else in_page k page Present) ≡ Present
one_present true page k e s = cc
one_present false None k e s = cc s
one_present false (Some bytes) k e s = refl

found_outside : (b : Bool) (page : Option (List ℕ)) (k : ℕ) → (if b then Outside else in_page k page Present) ≡ Outside → b ≡ true
found_outside true page k e = refl
found_outside false None k e = cc
found_outside false (Some bytes) k e = cc

found_both : (b : Bool) (page other : Option (List ℕ)) (k j : ℕ) → (if b then Outside else in_page k page (in_page j other Present)) ≡ Present → (b ≡ false) × IsSome page × IsSome other
found_both true page other k j e = cc
found_both false None other k j e = cc
found_both false (Some bytes) None k j e = cc
found_both false (Some bytes) (Some more) k j e = (refl, refl, refl)

found_one : (b : Bool) (page : Option (List ℕ)) (k : ℕ) → (if b then Outside else in_page k page Present) ≡ Present → (b ≡ false) × IsSome page
found_one true page k e = cc
found_one false None k e = cc
found_one false (Some bytes) k e = (refl, refl)

none_outside : (b : Bool) (page other : Option (List ℕ)) (k j : ℕ) → (if b then Outside else in_page k page (in_page j other Present)) ≡ Outside → b ≡ true
none_outside true page other k j e = refl
none_outside false None other k j e = cc
none_outside false (Some bytes) None k j e = cc
none_outside false (Some bytes) (Some more) k j e = cc

both_present : (b : Bool) (page other : Option (List ℕ)) (k j : ℕ) → b ≡ false → IsSome page → IsSome other → (if b then Outside else in_page k page (in_page j other Present)) ≡ Present
both_present true page other k j e s t = cc
both_present false None other k j e s t = cc s
both_present false (Some bytes) None k j e s t = cc t
both_present false (Some bytes) (Some more) k j e s t = refl

is_outside : (b : Bool) (next : Access) → b ≡ true → (if b then Outside else next) ≡ Outside
is_outside true next e = refl
is_outside false next e = cc

whole_page : (part whole : List (Option (List ℕ))) (k : ℕ) (page : Option (List ℕ)) → page_of part k ≡ page → IsSome page → IsPart part whole → IsSome (page_of whole k)
whole_page part whole k None e s h = cc s
whole_page part whole k (Some bytes) e s h = ap is_some (part_page part whole k bytes h e)

pub byte_present : (part whole : List (Option (List ℕ))) (address : ℕ) → IsPart part whole → byte_access part address ≡ Present → byte_access whole address ≡ Present
byte_present part whole address h e =
    let found = found_one (leaves part address 1) (page_of part (address / 4096)) (address / 4096) e in
    let inside : leaves whole address 1 ≡ false = same_leaves part whole address 1 h ∙ found.0 in
    one_present (leaves whole address 1) (page_of whole (address / 4096)) (address / 4096) inside (whole_page part whole (address / 4096) _ refl found.1 h)

pub byte_outside : (part whole : List (Option (List ℕ))) (address : ℕ) → IsPart part whole → byte_access part address ≡ Outside → byte_access whole address ≡ Outside
byte_outside part whole address h e =
    is_outside (leaves whole address 1) _ (same_leaves part whole address 1 h ∙ found_outside (leaves part address 1) (page_of part (address / 4096)) (address / 4096) e)

pub word_present : (part whole : List (Option (List ℕ))) (address : ℕ) → IsPart part whole → word_access part address ≡ Present → word_access whole address ≡ Present
word_present part whole address h e =
    let found = found_both (leaves part address 8) (page_of part (address / 4096)) (page_of part ((address + 7) / 4096)) (address / 4096) ((address + 7) / 4096) e in
    let inside : leaves whole address 8 ≡ false = same_leaves part whole address 8 h ∙ found.0 in
    both_present (leaves whole address 8) (page_of whole (address / 4096)) (page_of whole ((address + 7) / 4096)) (address / 4096) ((address + 7) / 4096) inside
    (whole_page part whole (address / 4096) _ refl found.1 h) (whole_page part whole ((address + 7) / 4096) _ refl found.2 h)

pub word_outside : (part whole : List (Option (List ℕ))) (address : ℕ) → IsPart part whole → word_access part address ≡ Outside → word_access whole address ≡ Outside
word_outside part whole address h e =
    is_outside (leaves whole address 8) _ (same_leaves part whole address 8 h ∙ none_outside (leaves part address 8) (page_of part (address / 4096)) (page_of part ((address + 7) / 4096)) (address / 4096) ((address + 7) / 4096) e)

pub byte_shown : (part : List (Option (List ℕ))) (address : ℕ) → byte_access part address ≡ Present → IsSome (page_of part (address / 4096))
byte_shown part address e = (found_one (leaves part address 1) (page_of part (address / 4096)) (address / 4096) e).1

-- eight bytes lie in the page of the first and in that of the last
pub word_shown : (part : List (Option (List ℕ))) (address : ℕ) → word_access part address ≡ Present → AreShown part address 8
word_shown part address e =
    let found = found_both (leaves part address 8) (page_of part (address / 4096)) (page_of part ((address + 7) / 4096)) (address / 4096) ((address + 7) / 4096) e in
    record {
      at = λ i. λ within. elim (cases_lt (address % 4096 + i) 4096) [
        | inl low ↦ (let k : address / 4096 ≡ (address + i) / 4096 = omega arith in subst (λ (n : ℕ). IsSome (page_of part n)) k found.1)
        | inr high ↦ (let k : (address + 7) / 4096 ≡ (address + i) / 4096 = omega arith in subst (λ (n : ℕ). IsSome (page_of part n)) k found.2)
      ];
    }

-- the parts that a call names
same_leaving : (part whole : List (Option (List ℕ))) (p : Option Part) → IsPart part whole → leaves_pages whole p ≡ leaves_pages part p
same_leaving part whole None h = refl
same_leaving part whole (Some p) h = ap (λ b. nat_lt 0 p.length && b) (same_leaves part whole p.address p.length h)

pub same_refusal : (part whole : List (Option (List ℕ))) (parts : Parts) → IsPart part whole → refusal whole parts ≡ refusal part parts
same_refusal part whole parts h =
    let first = same_leaving part whole parts.first h in
    let second = same_leaving part whole parts.second h in
    rw (first, second) refl

none_wanted : (k : ℕ) (part whole : List (Option (List ℕ))) (parts : Parts) (b : Bool) → b ≡ (touches k parts.first || touches k parts.second) → ((first_away (k + 1) part parts ≡ None) → first_away (k + 1) whole parts ≡ None) → (page : Option (List ℕ)) → (if b then Some k else first_away (k + 1) part parts) ≡ None → first_away k (page ∷ whole) parts ≡ None
none_wanted k part whole parts true t rest page e = cc
none_wanted k part whole parts false t rest None e = rw (← t) (rest e)
none_wanted k part whole parts false t rest (Some bytes) e = rest e

pub none_lacking : (k : ℕ) (part whole : List (Option (List ℕ))) (parts : Parts) → IsPart part whole → first_away k part parts ≡ None → first_away k whole parts ≡ None
none_lacking k [] [] parts h e = refl
none_lacking k [] (page ∷ whole) parts h e = absurd h
none_lacking k (page ∷ part) [] parts h e = absurd h
none_lacking k (None ∷ part) (page ∷ whole) parts h e =
    none_wanted k part whole parts (touches k parts.first || touches k parts.second) refl (none_lacking (k + 1) part whole parts h) page e
none_lacking k (Some bytes ∷ part) (page ∷ whole) parts h e =
    let rest : first_away (k + 1) whole parts ≡ None = none_lacking (k + 1) part whole parts h.1 e in
    rw (h.0) rest

-- where a call that is not refused wants no page, its parts are shown
some_not_away : (k : ℕ) (pages : List (Option (List ℕ))) (parts : Parts) (b : Bool) → (if b then Some k else first_away (k + 1) pages parts) ≡ None → (b ≡ false) × (first_away (k + 1) pages parts ≡ None)
some_not_away k pages parts true e = cc
some_not_away k pages parts false e = (refl, e)

touched_there : (k : ℕ) (pages : List (Option (List ℕ))) (parts : Parts) (j : ℕ) → first_away k pages parts ≡ None → j < length pages → (touches (k + j) parts.first || touches (k + j) parts.second) ≡ true → IsSome (page_of pages j)
touched_there k [] parts j e within t = absurd (omega arith)
touched_there k (None ∷ pages) parts zero e within t =
    let here = (some_not_away k pages parts (touches k parts.first || touches k parts.second) e).0 in
    let same : (touches k parts.first || touches k parts.second) ≡ true = rw (add-zero) at t in
    cc here
touched_there k (None ∷ pages) parts (suc j) e within t =
    let rest = (some_not_away k pages parts (touches k parts.first || touches k parts.second) e).1 in
    let n : k + suc j ≡ k + 1 + j = omega arith in
    touched_there (k + 1) pages parts j rest (omega arith) (subst (λ (x : ℕ). (touches x parts.first || touches x parts.second) ≡ true) n t)
touched_there k (Some bytes ∷ pages) parts zero e within t = refl
touched_there k (Some bytes ∷ pages) parts (suc j) e within t =
    let n : k + suc j ≡ k + 1 + j = omega arith in
    touched_there (k + 1) pages parts j e (omega arith) (subst (λ (x : ℕ). (touches x parts.first || touches x parts.second) ≡ true) n t)

abbrev pub IsShown : List (Option (List ℕ)) → Option Part → Type 0
IsShown pages None = Unit {0}
IsShown pages (Some p) = AreShown pages p.address p.length

part_touches : (p : Part) (i : ℕ) → i < p.length → touches ((p.address + i) / 4096) (Some p) ≡ true
part_touches p i within =
    and_from _ _ (lt-ltb 0 p.length (omega arith)) (and_from _ _ (lt-ltb p.address _ (omega arith)) (lt-ltb _ (p.address + p.length) (omega arith)))

not_leaving : (pages : List (Option (List ℕ))) (p : Part) → 0 < p.length → leaves_pages pages (Some p) ≡ false → p.address + p.length ≤ 4096 * length pages
not_leaving pages p some e =
    let t : nat_lt 0 p.length ≡ true = lt-ltb 0 p.length some in
    let l : leaves pages p.address p.length ≡ false = rw t at e in
    ltb-false _ _ l

is_shown : (pages : List (Option (List ℕ))) (o : Option Part) → leaves_pages pages o ≡ false → ((j : ℕ) → j < length pages → touches j o ≡ true → IsSome (page_of pages j)) → IsShown pages o
is_shown pages None e f = tt
is_shown pages (Some p) e f =
    record {
      at = λ i. λ within. (let end = not_leaving pages p (omega arith) e in f ((p.address + i) / 4096) (omega (arith, end)) (part_touches p i within));
    }

or_none : (x y : Bool) → (x || y) ≡ false → (x ≡ false) × (y ≡ false)
or_none true y e = cc
or_none false y e = (refl, e)

or_left : (x y : Bool) → x ≡ true → (x || y) ≡ true
or_left true y e = refl
or_left false y e = cc

or_right : (x y : Bool) → y ≡ true → (x || y) ≡ true
or_right true y e = refl
or_right false y e = e

refused_none : (a b c : Bool) → (if a then Some Invalid else if b then Some BadName else if c then Some BadAddress else None) ≡ None → c ≡ false
refused_none true b c e = cc
refused_none false true c e = cc
refused_none false false true e = cc
refused_none false false false e = refl

pub parts_shown : (pages : List (Option (List ℕ))) (parts : Parts) → refusal pages parts ≡ None → first_away 0 pages parts ≡ None → IsShown pages parts.first × IsShown pages parts.second
parts_shown pages parts e f =
    let ends = or_none (leaves_pages pages parts.first) (leaves_pages pages parts.second) (refused_none (too_long parts.first || too_long parts.second) (misnamed parts.first || misnamed parts.second) _ e) in
    let first = is_shown pages parts.first ends.0 (λ j. λ within. λ t. touched_there 0 pages parts j f within (subst (λ (n : ℕ). (touches n parts.first || touches n parts.second) ≡ true) (sym (zero-add j)) (or_left _ _ t))) in
    let second = is_shown pages parts.second ends.1 (λ j. λ within. λ t. touched_there 0 pages parts j f within (subst (λ (n : ℕ). (touches n parts.first || touches n parts.second) ≡ true) (sym (zero-add j)) (or_right _ _ t))) in
    (first, second)

-- pages are a part of themselves, and stay one of the whole where a page is fetched or taken away
pub part_same : (pages : List (Option (List ℕ))) → IsPart pages pages
part_same [] = tt
part_same (None ∷ pages) = part_same pages
part_same (Some bytes ∷ pages) = (refl, part_same pages)

pub part_fetched : (part whole : List (Option (List ℕ))) (k : ℕ) (page : Option (List ℕ)) → IsPart part whole → slice_get whole k ≡ Some page → IsPart (slice_set part k page) whole
part_fetched [] [] k page h e = tt
part_fetched [] (first ∷ whole) k page h e = absurd h
part_fetched (here ∷ part) [] k page h e = absurd h
part_fetched (None ∷ part) (first ∷ whole) zero None h e = h
part_fetched (Some bytes ∷ part) (first ∷ whole) zero None h e = h.1
part_fetched (None ∷ part) (first ∷ whole) zero (Some bytes) h e = (some_is first (Some bytes) e, h)
part_fetched (Some more ∷ part) (first ∷ whole) zero (Some bytes) h e = (some_is first (Some bytes) e, h.1)
part_fetched (None ∷ part) (first ∷ whole) (suc k) page h e = part_fetched part whole k page h e
part_fetched (Some bytes ∷ part) (first ∷ whole) (suc k) page h e = (h.0, part_fetched part whole k page h.1 e)

pub part_taken : (part whole : List (Option (List ℕ))) (k : ℕ) → IsPart part whole → IsPart (slice_set part k None) whole
part_taken [] [] k h = tt
part_taken [] (first ∷ whole) k h = absurd h
part_taken (here ∷ part) [] k h = absurd h
part_taken (None ∷ part) (first ∷ whole) zero h = h
part_taken (Some bytes ∷ part) (first ∷ whole) zero h = h.1
part_taken (None ∷ part) (first ∷ whole) (suc k) h = part_taken part whole k h
part_taken (Some bytes ∷ part) (first ∷ whole) (suc k) h = (h.0, part_taken part whole k h.1)

-- pages that are all there are the whole
pub part_is_whole : (part whole : List (Option (List ℕ))) → IsPart part whole → AllPresent part → whole ≡ part
part_is_whole [] [] h s = refl
part_is_whole [] (first ∷ whole) h s = absurd h
part_is_whole (here ∷ part) [] h s = absurd h
part_is_whole (None ∷ part) (first ∷ whole) h s = cc (s.0)
part_is_whole (Some bytes ∷ part) (first ∷ whole) h s =
    let rest = part_is_whole part whole h.1 s.1 in
    rw (h.0, rest) refl
