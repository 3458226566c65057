-- Laws on the bytes of an image's pages.
use Rattle.std.proofs.Common.{◌≡◌, ℕ, zero, suc, ◌+◌, ◌*◌, ◌/◌, ◌%◌, ◌<◌, ◌≤◌, List, [], ◌∷◌, ◌++◌, length, Option, Some, None, refl, ap, sym, subst, ap₂, ◌∙◌, arith, slice_get, slice_set, slice_index, add-one, add-zero, option_map, min, ◌-◌, ◌^◌, inl, inr, replicate, IsSome}
use Rattle.sprite_ids.proofs.ListLaws.{set_same, get_within, get_set_same, some_is, each_set, each_get}
use Rattle.std.specs.List.{AllByRecursion}
use Rattle.process_machine.specs.Facts.{shape, AllPresent, AreBytes, HasBytes}
use Rattle.process_machine.specs.declared.parts.Parts.{Parts}
use Rattle.process_machine.specs.Parts.{first_away}
use Rattle.std.proofs.Math.ListN.{length-set}
use Rattle.std.proofs.lemmas.Bool.{cases_lt}
use Rattle.std.proofs.lemmas.List.{drop_more, take-replicate}
use Rattle.std.proofs.lemmas.List.Edits.{sets, sets-eq}
use Rattle.std.proofs.lemmas.List.Folds.{drop_split}
use Rattle.std.proofs.Common.{take, drop, length-take, length-drop}
use Rattle.std.specs.List.{slice_range}
use Rattle.process_machine.specs.Machine.{IsPage}
use Rattle.process_machine.specs.Memory.{there, page_of, byte_in, byte_at, bytes_at, put_in, with_byte, with_bytes, bytes_in}

-- past the end a look-up finds nothing
pub get_past : {X : Type 0} (xs : List X) (i : ℕ) → length xs ≤ i → slice_get xs i ≡ None
get_past [] i h = refl
get_past (x ∷ xs) zero h = absurd (omega arith)
get_past (x ∷ xs) (suc i) h = get_past xs i (omega arith)

-- the pages lie below address 32,768
pub byte_outside : (pages : List (Option (List ℕ))) (address : ℕ) → length pages ≤ 8 → 32768 ≤ address → byte_at pages address ≡ 0
byte_outside pages address few far =
    let past : length pages ≤ address / 4096 = omega arith in
    ap (λ o. byte_in (there o) (address % 4096)) (get_past pages (address / 4096) past)

bytes_outside : (pages : List (Option (List ℕ))) (address count : ℕ) → length pages ≤ 8 → 32768 ≤ address → bytes_at pages address count ≡ replicate count 0
bytes_outside pages address zero few far = refl
bytes_outside pages address (suc count) few far =
    ap₂ (λ b bs. b ∷ bs) (byte_outside pages address few far) (bytes_outside pages (address + 1) count few (omega arith))

-- an address that would pass 2^64 is as far outside as the highest
bytes_stopped : (pages : List (Option (List ℕ))) (address place stopped count : ℕ) → length pages ≤ 8 → stopped ≡ min (address + place) (2 ^ 64 - 1) → bytes_at pages stopped count ≡ bytes_at pages (address + place) count
bytes_stopped pages address place stopped count few e =
    elim (cases_lt (address + place) (2 ^ 64)) [
      | inl near ↦ (let same : stopped ≡ address + place = omega arith in ap (λ a. bytes_at pages a count) same)
      | inr far ↦ bytes_outside pages stopped count few (omega arith) ∙ sym (bytes_outside pages (address + place) count few (omega arith))
    ]

-- the bytes of two parts, one behind the other
bytes_of_parts : (pages : List (Option (List ℕ))) (address first second : ℕ) → bytes_at pages address (first + second) ≡ bytes_at pages address first ++ bytes_at pages (address + first) second
bytes_of_parts pages address zero second =
    let none : 0 + second ≡ second = omega arith in
    rw (none, add-zero) refl
bytes_of_parts pages address (suc first) second =
    let e : address + 1 + first ≡ address + suc first = omega arith in
    let count : suc first + second ≡ suc (first + second) = omega arith in
    ap (bytes_at pages address) count ∙ ap (λ xs. byte_at pages address ∷ xs) (bytes_of_parts pages (address + 1) first second ∙ ap (λ a. bytes_at pages (address + 1) first ++ bytes_at pages a second) e)

-- the step of the loop that gathers bytes, a page's part at a time
pub gathered : (pages : List (Option (List ℕ))) (bytes more : List ℕ) (address done stopped count : ℕ) → length pages ≤ 8 → bytes ≡ bytes_at pages address done → stopped ≡ min (address + done) (2 ^ 64 - 1) → more ≡ bytes ++ bytes_at pages (4096 * (stopped / 4096) + stopped % 4096) count → more ≡ bytes_at pages address (done + count)
gathered pages bytes more address done stopped count few so_far e is =
    let at : 4096 * (stopped / 4096) + stopped % 4096 ≡ stopped = omega arith in
    let part = ap (λ a. bytes_at pages a count) at ∙ bytes_stopped pages address done stopped count few e in
    is ∙ (ap₂ (λ xs ys. xs ++ ys) so_far part ∙ sym (bytes_of_parts pages address done count))

-- the bytes of a part of one page
in_the_page : (pages : List (Option (List ℕ))) (k offset address count : ℕ) (page : List ℕ) → address ≡ 4096 * k + offset → offset + count ≤ 4096 → length page ≡ 4096 → page_of pages k ≡ Some page → bytes_at pages address count ≡ take count (drop offset page)
in_the_page pages k offset address zero page at fits whole found = refl
in_the_page pages k offset address (suc count) page at fits whole found =
    let number : address / 4096 ≡ k = omega arith in
    let place : address % 4096 ≡ offset = omega arith in
    let byte : byte_at pages address ≡ slice_index page offset = rw (number, place, found) refl in
    let rest = in_the_page pages k (offset + 1) (address + 1) count page (omega arith) (omega arith) whole found in
    ap₂ (λ b bs. b ∷ bs) byte rest ∙ ap (take (suc count)) (sym (drop_more page offset 0 (omega arith)))

-- the bytes of a part of a page that isn't there
in_no_page : (pages : List (Option (List ℕ))) (k offset address count : ℕ) → address ≡ 4096 * k + offset → offset + count ≤ 4096 → page_of pages k ≡ None → bytes_at pages address count ≡ replicate count 0
in_no_page pages k offset address zero at fits found = refl
in_no_page pages k offset address (suc count) at fits found =
    let number : address / 4096 ≡ k = omega arith in
    let byte : byte_at pages address ≡ 0 = rw (number, found) refl in
    ap₂ (λ b bs. b ∷ bs) byte (in_no_page pages k (offset + 1) (address + 1) count (omega arith) (omega arith) found)

-- and as the code takes them
pub page_part : (pages : List (Option (List ℕ))) (k offset count : ℕ) (page : List ℕ) → offset + count ≤ 4096 → length page ≡ 4096 → page_of pages k ≡ Some page → bytes_at pages (4096 * k + offset) count ≡ slice_range page offset (offset + count)
page_part pages k offset count page fits whole found =
    let long : offset + count - offset ≡ count = omega arith in
    in_the_page pages k offset (4096 * k + offset) count page refl fits whole found ∙ ap (λ n. take n (drop offset page)) (sym long)

pub zeros_part : (pages : List (Option (List ℕ))) (k offset count : ℕ) → offset + count ≤ 4096 → page_of pages k ≡ None → bytes_at pages (4096 * k + offset) count ≡ take count (replicate 4096 0)
zeros_part pages k offset count fits found =
    in_no_page pages k offset (4096 * k + offset) count refl fits found ∙ sym (take-replicate count 4096 0 (omega arith))

-- one more copy at the end
pub replicate_more : {X : Type 0} (n : ℕ) (x : X) → replicate n x ++ x ∷ [] ≡ replicate (suc n) x
replicate_more zero x = refl
replicate_more (suc n) x = ap (λ xs. x ∷ xs) (replicate_more n x)

pub copies_more : {X : Type 0} (xs : List X) (n : ℕ) (x y : X) → xs ≡ replicate n x → y ≡ x → xs ++ y ∷ [] ≡ replicate (n + 1) x
copies_more xs n x y e f = rw (e, f, add-one) (replicate_more n x)

pub length_bytes_in : (page : List ℕ) (offset : ℕ) (bytes : List ℕ) → length (bytes_in page offset bytes) ≡ length page
length_bytes_in page offset [] = refl
length_bytes_in page offset (byte ∷ bytes) = length_bytes_in (slice_set page offset byte) (offset + 1) bytes ∙ length-set page offset byte

-- bytes put in one after another stand in the place of as many
in_turn : (page : List ℕ) (offset : ℕ) (bytes : List ℕ) → bytes_in page offset bytes ≡ sets page offset bytes
in_turn page offset [] = refl
in_turn page offset (byte ∷ bytes) =
    let next : offset + 1 ≡ suc offset = omega arith in
    ap (λ i. bytes_in (slice_set page offset byte) i bytes) next ∙ in_turn (slice_set page offset byte) (suc offset) bytes

pub overwritten : (old new : Option (List ℕ)) (page now : List ℕ) (offset : ℕ) (bytes : List ℕ) → IsPage old → offset + length bytes ≤ 4096 → old ≡ Some page → new ≡ Some now → now ≡ take offset page ++ bytes ++ drop (offset + length bytes) page → new ≡ option_map (λ p. bytes_in p offset bytes) old
overwritten old new page now offset bytes is_page fits was is put =
    let whole : length page ≡ 4096 = subst IsPage was is_page in
    let within : offset + length bytes ≤ length page = omega (arith, whole, fits) in
    is ∙ ap Some (put ∙ sym (sets-eq bytes page offset within) ∙ sym (in_turn page offset bytes)) ∙ ap (option_map (λ p. bytes_in p offset bytes)) (sym was)

pub set_set : {X : Type 0} (xs : List X) (i : ℕ) (x y : X) → slice_set (slice_set xs i x) i y ≡ slice_set xs i y
set_set [] i x y = refl
set_set (z ∷ zs) zero x y = refl
set_set (z ∷ zs) (suc i) x y = ap (λ ws. z ∷ ws) (set_set zs i x y)

kept : (page : Option (List ℕ)) (offset : ℕ) → option_map (λ p. bytes_in p offset []) page ≡ page
kept None offset = refl
kept (Some p) offset = refl

then_more : (page : Option (List ℕ)) (offset byte : ℕ) (bytes : List ℕ) → option_map (λ p. bytes_in p (offset + 1) bytes) (option_map (λ p. slice_set p offset byte) page) ≡ option_map (λ p. bytes_in p offset (byte ∷ bytes)) page
then_more None offset byte bytes = refl
then_more (Some p) offset byte bytes = refl

-- bytes that lie in one page are put into that page
pub in_one_page : (pages : List (Option (List ℕ))) (k offset address : ℕ) (page : Option (List ℕ)) (bytes : List ℕ) → address ≡ 4096 * k + offset → offset + length bytes ≤ 4096 → slice_get pages k ≡ Some page → with_bytes pages address bytes ≡ slice_set pages k (option_map (λ p. bytes_in p offset bytes) page)
in_one_page pages k offset address page [] at fits found =
    sym (ap (slice_set pages k) (kept page offset) ∙ set_same pages k page found)
in_one_page pages k offset address page (byte ∷ bytes) at fits found =
    let number : address / 4096 ≡ k = omega arith in
    let place : address % 4096 ≡ offset = omega arith in
    let next = option_map (λ p. slice_set p offset byte) page in
    let put : with_byte pages address byte ≡ slice_set pages k next = rw (number, place, found) refl in
    let within : k < length pages = get_within pages k page found in
    let rest = in_one_page (slice_set pages k next) k (offset + 1) (address + 1) next bytes (omega arith) (omega arith) (get_set_same pages k next within) in
    rw (put, rest, set_set pages k next (option_map (λ p. bytes_in p (offset + 1) bytes) next)) (ap (slice_set pages k) (then_more page offset byte bytes))

pub put_once : (pages : List (Option (List ℕ))) (address : ℕ) (held bytes : List ℕ) (page new : Option (List ℕ)) → held ≡ bytes → length bytes ≡ 8 → address % 4096 ≤ 4096 - 8 → slice_get pages (address / 4096) ≡ Some page → new ≡ option_map (λ p. bytes_in p (address % 4096) held) page → slice_set pages (address / 4096) new ≡ with_bytes pages address bytes
put_once pages address held bytes page new same eight low found is =
    let once = in_one_page pages (address / 4096) (address % 4096) address page bytes (omega arith) (omega arith) found in
    let whole : new ≡ option_map (λ p. bytes_in p (address % 4096) bytes) page = is ∙ ap (λ bs. option_map (λ p. bytes_in p (address % 4096) bs) page) same in
    ap (slice_set pages (address / 4096)) whole ∙ sym once

-- a page that takes the place of one as long leaves the shape as it is
pub shape_set : (pages : List (Option (List ℕ))) (k : ℕ) (page new : Option (List ℕ)) → slice_get pages k ≡ Some page → option_map length new ≡ option_map length page → shape (slice_set pages k new) ≡ shape pages
shape_set [] k page new found same = refl
shape_set (first ∷ pages) zero page new found same =
    ap (λ l. l ∷ shape pages) (same ∙ ap (option_map length) (sym (some_is first page found)))
shape_set (first ∷ pages) (suc k) page new found same = ap (λ ls. option_map length first ∷ ls) (shape_set pages k page new found same)

as_long : (page : Option (List ℕ)) (offset byte : ℕ) → option_map length (option_map (λ bytes. slice_set bytes offset byte) page) ≡ option_map length page
as_long None offset byte = refl
as_long (Some bytes) offset byte = ap Some (length-set bytes offset byte)

put_shape : (pages : List (Option (List ℕ))) (k offset byte : ℕ) (page : Option (Option (List ℕ))) → slice_get pages k ≡ page → shape (put_in page pages k offset byte) ≡ shape pages
put_shape pages k offset byte None found = refl
put_shape pages k offset byte (Some page) found = shape_set pages k page _ found (as_long page offset byte)

-- bytes that are put into the pages leave their shape as it is
pub shape_byte : (pages : List (Option (List ℕ))) (address byte : ℕ) → shape (with_byte pages address byte) ≡ shape pages
shape_byte pages address byte = put_shape pages (address / 4096) (address % 4096) byte (slice_get pages (address / 4096)) refl

pub shape_bytes : (pages : List (Option (List ℕ))) (address : ℕ) (bytes : List ℕ) → shape (with_bytes pages address bytes) ≡ shape pages
shape_bytes pages address [] = refl
shape_bytes pages address (byte ∷ bytes) = shape_bytes (with_byte pages address byte) (address + 1) bytes ∙ shape_byte pages address byte

-- pages of one shape are as many, and as present
pub same_count : (old new : List (Option (List ℕ))) → shape new ≡ shape old → length new ≡ length old
same_count [] [] e = refl
same_count [] (page ∷ new) e = cc
same_count (page ∷ old) [] e = cc
same_count (first ∷ old) (page ∷ new) e =
    let rest : shape new ≡ shape old = cc in
    ap suc (same_count old new rest)

present_here : (page : Option (List ℕ)) (n : Option (List ℕ)) → option_map length page ≡ option_map length n → IsSome n → IsSome page
present_here (Some bytes) n e h = refl
present_here None None e h = h
present_here None (Some bytes) e h = cc

pub same_present : (old new : List (Option (List ℕ))) → shape new ≡ shape old → AllPresent old → AllPresent new
same_present [] [] e h = tt
same_present [] (page ∷ new) e h = cc
same_present (page ∷ old) [] e h = tt
same_present (first ∷ old) (page ∷ new) e h =
    let head : option_map length page ≡ option_map length first = cc in
    let rest : shape new ≡ shape old = cc in
    (present_here page first head h.0, same_present old new rest h.1)

-- pages of bytes
page_bytes : (page : Option (List ℕ)) (offset byte : ℕ) → HasBytes page → byte < 256 → HasBytes (option_map (λ bytes. slice_set bytes offset byte) page)
page_bytes None offset byte h k = tt
page_bytes (Some bytes) offset byte h k = each_set (λ b. b < 256) bytes offset byte k h

put_bytes : (pages : List (Option (List ℕ))) (k offset byte : ℕ) (page : Option (Option (List ℕ))) → slice_get pages k ≡ page → AllByRecursion HasBytes pages → byte < 256 → AllByRecursion HasBytes (put_in page pages k offset byte)
put_bytes pages k offset byte None found h b = h
put_bytes pages k offset byte (Some page) found h b =
    each_set HasBytes pages k _ (page_bytes page offset byte (each_get HasBytes pages k page h found) b) h

pub bytes_byte : (pages : List (Option (List ℕ))) (address byte : ℕ) → AllByRecursion HasBytes pages → byte < 256 → AllByRecursion HasBytes (with_byte pages address byte)
bytes_byte pages address byte h b = put_bytes pages (address / 4096) (address % 4096) byte (slice_get pages (address / 4096)) refl h b

pub bytes_bytes : (pages : List (Option (List ℕ))) (address : ℕ) (bytes : List ℕ) → AllByRecursion HasBytes pages → AreBytes bytes → AllByRecursion HasBytes (with_bytes pages address bytes)
bytes_bytes pages address [] h bs = h
bytes_bytes pages address (byte ∷ bytes) h bs = bytes_bytes (with_byte pages address byte) (address + 1) bytes (bytes_byte pages address byte h bs.0) bs.1

-- each item of a list, and 0 past its end
pub index_below : (P : ℕ → Type 0) (xs : List ℕ) (i : ℕ) → P 0 → AllByRecursion P xs → P (slice_index xs i)
index_below P [] i z h = z
index_below P (x ∷ xs) zero z h = h.0
index_below P (x ∷ xs) (suc i) z h = index_below P xs i z h.1

byte_of : (pages : List (Option (List ℕ))) (k offset : ℕ) (page : Option (Option (List ℕ))) → slice_get pages k ≡ page → AllByRecursion HasBytes pages → byte_in (there page) offset < 256
byte_of pages k offset None found h = omega arith
byte_of pages k offset (Some None) found h = omega arith
byte_of pages k offset (Some (Some bytes)) found h = index_below (λ b. b < 256) bytes offset (omega arith) (each_get HasBytes pages k (Some bytes) h found)

-- each byte of such pages is one
pub byte_below : (pages : List (Option (List ℕ))) (address : ℕ) → AllByRecursion HasBytes pages → byte_at pages address < 256
byte_below pages address h = byte_of pages (address / 4096) (address % 4096) (slice_get pages (address / 4096)) refl h

pub each_below : (pages : List (Option (List ℕ))) (address count : ℕ) → AllByRecursion HasBytes pages → AreBytes (bytes_at pages address count)
each_below pages address zero h = tt
each_below pages address (suc count) h = (byte_below pages address h, each_below pages (address + 1) count h)

-- where each page is there, a page of the image is found
pub present_found : (pages : List (Option (List ℕ))) (k : ℕ) → AllPresent pages → k < length pages → (page : List ℕ) × (page_of pages k ≡ Some page)
present_found [] k h within = absurd (omega arith)
present_found (None ∷ pages) zero h within = cc (h.0)
present_found (Some page ∷ pages) zero h within = (page, refl)
present_found (page ∷ pages) (suc k) h within = present_found pages k h.1 (omega arith)

-- and no part of them is away
pub none_away : (k : ℕ) (pages : List (Option (List ℕ))) (parts : Parts) → AllPresent pages → first_away k pages parts ≡ None
none_away k [] parts h = refl
none_away k (None ∷ pages) parts h = cc (h.0)
none_away k (Some page ∷ pages) parts h = none_away (k + 1) pages parts h.1

-- bytes outside the pages are left out
put_past : (pages : List (Option (List ℕ))) (address byte : ℕ) → 4096 * length pages ≤ address → with_byte pages address byte ≡ pages
put_past pages address byte far =
    let past : length pages ≤ address / 4096 = omega arith in
    ap (λ o. put_in o pages (address / 4096) (address % 4096) byte) (get_past pages (address / 4096) past)

pub bytes_past : (pages : List (Option (List ℕ))) (address : ℕ) (bytes : List ℕ) → 4096 * length pages ≤ address → with_bytes pages address bytes ≡ pages
bytes_past pages address [] far = refl
bytes_past pages address (byte ∷ bytes) far =
    ap (λ ps. with_bytes ps (address + 1) bytes) (put_past pages address byte far) ∙ bytes_past pages (address + 1) bytes (omega arith)

-- bytes after bytes
pub put_append : (pages : List (Option (List ℕ))) (address : ℕ) (xs ys : List ℕ) → with_bytes pages address (xs ++ ys) ≡ with_bytes (with_bytes pages address xs) (address + length xs) ys
put_append pages address [] ys = rw add-zero refl
put_append pages address (x ∷ xs) ys =
    let e : address + 1 + length xs ≡ address + suc (length xs) = omega arith in
    put_append (with_byte pages address x) (address + 1) xs ys ∙ ap (λ n. with_bytes (with_bytes (with_byte pages address x) (address + 1) xs) n ys) e

-- an address that would pass 2^64 is as far outside as the highest
put_all_stopped : (pages : List (Option (List ℕ))) (address place stopped : ℕ) (bytes : List ℕ) → length pages ≤ 8 → stopped ≡ min (address + place) (2 ^ 64 - 1) → with_bytes pages stopped bytes ≡ with_bytes pages (address + place) bytes
put_all_stopped pages address place stopped bytes few e =
    elim (cases_lt (address + place) (2 ^ 64)) [
      | inl near ↦ (let same : stopped ≡ address + place = omega arith in ap (λ a. with_bytes pages a bytes) same)
      | inr far ↦ bytes_past pages stopped bytes (omega arith) ∙ sym (bytes_past pages (address + place) bytes (omega arith))
    ]

-- the step of the loop that puts bytes, a page's part at a time
pub put_more : (pages new old : List (Option (List ℕ))) (bytes : List ℕ) (address done stopped count : ℕ) → length pages ≤ 8 → done + count ≤ length bytes → stopped ≡ min (address + done) (2 ^ 64 - 1) → new ≡ with_bytes pages (4096 * (stopped / 4096) + stopped % 4096) (slice_range bytes done (done + count)) → with_bytes pages (address + done) (drop done bytes) ≡ with_bytes old address bytes → with_bytes new (address + (done + count)) (drop (done + count) bytes) ≡ with_bytes old address bytes
put_more pages new old bytes address done stopped count few within e is so_far =
    let at : 4096 * (stopped / 4096) + stopped % 4096 ≡ stopped = omega arith in
    let piece = slice_range bytes done (done + count) in
    let put : new ≡ with_bytes pages (address + done) piece =
    is ∙ (ap (λ a. with_bytes pages a piece) at ∙ put_all_stopped pages address done stopped piece few e) in
    let long : length piece ≡ count = simp (length-take, length-drop) (omega arith) in
    let split = drop_split bytes done (done + count) (omega arith) in
    let place : address + done + length piece ≡ address + (done + count) = omega arith in
    ap (λ ps. with_bytes ps (address + (done + count)) (drop (done + count) bytes)) put
    ∙ (ap (λ n. with_bytes (with_bytes pages (address + done) piece) n (drop (done + count) bytes)) (sym place)
    ∙ (sym (put_append pages (address + done) piece (drop (done + count) bytes))
    ∙ (ap (with_bytes pages (address + done)) (sym split) ∙ so_far)))

-- bytes in one page, by its number
pub put_piece_in : (pages : List (Option (List ℕ))) (k offset : ℕ) (page new : Option (List ℕ)) (bytes : List ℕ) → offset + length bytes ≤ 4096 → slice_get pages k ≡ Some page → new ≡ option_map (λ p. bytes_in p offset bytes) page → slice_set pages k new ≡ with_bytes pages (4096 * k + offset) bytes
put_piece_in pages k offset page new bytes fits found is =
    ap (slice_set pages k) is ∙ sym (in_one_page pages k offset (4096 * k + offset) page bytes refl fits found)
