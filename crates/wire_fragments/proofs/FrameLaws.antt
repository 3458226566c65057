-- A cut message's frames are read as they were spelled.
use Rattle.std.proofs.Common.{◌≡◌, ◌≢◌, ◌≤◌, ◌<◌, ℕ, zero, suc, ◌+◌, ◌-◌, ◌*◌, ◌/◌, ◌^◌, ◌==◌, Bool, true, false, ◌||◌, not, cond, if◌then◌else◌, nat_lt, List, length, drop, min, slice_get, Option, Some, None, refl, sym, ap, ◌∙◌, arith, le-leb, le-ltb, lt-ltb, eq-eqb, eqb-true}
use Rattle.std.proofs.lemmas.Bool.{and_from, ltb-true, eqb-false}
use Rattle.std.proofs.lemmas.List.{length-take, length-drop}
use Rattle.std.proofs.lemmas.Nat.{from_le_bytes-to_le_bytes_2, from_le_bytes-to_le_bytes_4}
use Rattle.sprite_ids.proofs.ListLaws.{some_is}
use Rattle.wire_fragments.specs.declared.head.Head.{Head}
use Rattle.wire_fragments.specs.declared.head.MessageId.{MessageId}
use Rattle.wire_fragments.specs.Frames.{count_of, piece, frame, frames_from, cut, number16_at, number32_at, is_kernel, is_sized, is_spelled, head_of}
use Rattle.wire_fragments.specs.Runs.{Cut, IsCut}

-- ---- how many frames there are

pub record Counted (length : ℕ) (count : ℕ) : Type 0 where
  pub some : 1 ≤ count
  pub enough : length ≤ 1488 * count
  pub full : (length ≢ 0) → 1488 * count < length + 1488
  pub none : length ≡ 0 → count ≡ 1

counted_by : (length : ℕ) (b : Bool) → (length == 0) ≡ b → Counted length (if b then 1 else (length + 1487) / 1488)
counted_by length true e =
    let is : length ≡ 0 = eqb-true length 0 e in
    record { some = omega arith; enough = omega (arith, is); full = λ other. absurd (other is); none = λ it. refl }
counted_by length false e =
    let other : length ≢ 0 = eqb-false length 0 e in
    record { some = omega (arith, other); enough = omega arith; full = λ it. omega (arith, other); none = λ is. absurd (other is) }

pub counted : (length : ℕ) → Counted length (count_of length)
counted length = counted_by length (length == 0) refl

-- ---- the frame of a place

frame_from : (name : MessageId) (message : List ℕ) (index left j : ℕ) (bytes : List ℕ) → slice_get (frames_from name message index left) j ≡ Some bytes
    → (j < left) × (bytes ≡ frame (record { message = name; index = index + j; count = count_of (length message) }) (piece message (index + j)))
frame_from name message index zero j bytes e = absurd (cc)
frame_from name message index (suc left) zero bytes e =
    let same : index ≡ index + 0 = omega arith in
    (omega arith, sym (some_is _ bytes e) ∙ ap (λ (i : ℕ). frame (record { message = name; index = i; count = count_of (length message) }) (piece message i)) same)
frame_from name message index (suc left) (suc j) bytes e =
    let rest = frame_from name message (index + 1) left j bytes e in
    let less = rest.0 in
    let same : index + 1 + j ≡ index + suc j = omega arith in
    (omega (arith, less), rest.1 ∙ ap (λ (i : ℕ). frame (record { message = name; index = i; count = count_of (length message) }) (piece message i)) same)

pub frame_at : (name : MessageId) (message : List ℕ) (j : ℕ) (bytes : List ℕ) → slice_get (cut name message) j ≡ Some bytes
    → (j < count_of (length message)) × (bytes ≡ frame (record { message = name; index = j; count = count_of (length message) }) (piece message j))
frame_at name message j bytes e =
    let found = frame_from name message 0 (count_of (length message)) j bytes e in
    let same : 0 + j ≡ j = omega arith in
    (found.0, found.1 ∙ ap (λ (i : ℕ). frame (record { message = name; index = i; count = count_of (length message) }) (piece message i)) same)

frames_long : (name : MessageId) (message : List ℕ) (index left : ℕ) → length (frames_from name message index left) ≡ left
frames_long name message index zero = refl
frames_long name message index (suc left) = ap suc (frames_long name message (index + 1) left)

pub cut_long : (name : MessageId) (message : List ℕ) → length (cut name message) ≡ count_of (length message)
cut_long name message = frames_long name message 0 (count_of (length message))

-- ---- reading

-- a frame's numbers are in their ranges, and its piece has a length that may be there
pub record IsFitting (head : Head) (bytes : List ℕ) : Type 0 where
  pub from_is : is_kernel head.message.from ≡ true
  pub to_is : is_kernel head.message.to ≡ true
  pub id_is : head.message.id < 2 ^ 32
  pub index_is : head.index < 2 ^ 16
  pub count_is : head.count < 2 ^ 16
  pub short : length bytes < 2 ^ 16
  pub sized : is_sized head.index head.count (length bytes) ≡ true

-- a fitting frame is read as it was spelled
pub read_again : (head : Head) (bytes : List ℕ) → IsFitting head bytes → head_of (frame head bytes) ≡ Some head
read_again head bytes fits =
    let id : number32_at (frame head bytes) 2 ≡ head.message.id = from_le_bytes-to_le_bytes_4 head.message.id fits.id_is in
    let index : number16_at (frame head bytes) 6 ≡ head.index = from_le_bytes-to_le_bytes_2 head.index fits.index_is in
    let count : number16_at (frame head bytes) 8 ≡ head.count = from_le_bytes-to_le_bytes_2 head.count fits.count_is in
    let len : number16_at (frame head bytes) 10 ≡ length bytes = from_le_bytes-to_le_bytes_2 (length bytes) fits.short in
    let all : length (frame head bytes) ≡ 12 + length bytes = omega arith in
    let long : nat_lt (length (frame head bytes)) 12 ≡ false = le-ltb (length (frame head bytes)) 12 (omega (arith, all)) in
    let told : (number16_at (frame head bytes) 10 == length (frame head bytes) - 12) ≡ true = eq-eqb _ _ (omega (arith, len, all)) in
    let size : is_sized (number16_at (frame head bytes) 6) (number16_at (frame head bytes) 8) (number16_at (frame head bytes) 10) ≡ true =
    ap (λ n. is_sized n (number16_at (frame head bytes) 8) (number16_at (frame head bytes) 10)) index
    ∙ ap (λ n. is_sized head.index n (number16_at (frame head bytes) 10)) count ∙ ap (is_sized head.index head.count) len ∙ fits.sized in
    let spelled : is_spelled (frame head bytes) ≡ true = and_from _ _ (and_from _ _ (and_from _ _ fits.from_is fits.to_is) told) size in
    let told_head : ℕ → ℕ → ℕ → Option Head =
    λ i j k. Some (record { message = record { from = head.message.from; to = head.message.to; id = i }; index = j; count = k }) in
    let found = told_head (number32_at (frame head bytes) 2) (number16_at (frame head bytes) 6) (number16_at (frame head bytes) 8) in
    ap (λ b. cond b None (cond (is_spelled (frame head bytes)) found None)) long ∙ ap (λ b. cond b found None) spelled
    ∙ ap (λ i. told_head i (number16_at (frame head bytes) 6) (number16_at (frame head bytes) 8)) id
    ∙ ap (λ j. told_head head.message.id j (number16_at (frame head bytes) 8)) index ∙ ap (told_head head.message.id head.index) count

implied : (b x : Bool) → (b ≡ true → x ≡ true) → (not b || x) ≡ true
implied true x h = h refl
implied false x h = refl

-- the frames of a message that can be cut are fitting
pub cut_fits : (c : Cut) (j : ℕ) → IsCut c → j < count_of (length c.message) → IsFitting (record { message = c.name; index = j; count = count_of (length c.message) }) (piece c.message j)
cut_fits c j is less =
    let n = count_of (length c.message) in
    let size = length (piece c.message j) in
    let facts = counted (length c.message) in
    let some = facts.some in
    let enough = facts.enough in
    let part : size ≡ min 1488 (length c.message - 1488 * j) = length-take 1488 (drop (1488 * j) c.message) ∙ ap (min 1488) (length-drop (1488 * j) c.message) in
    let short = is.short in
    let filled : (length c.message ≢ 0) → 1488 * n < length c.message + 1488 = facts.full in
    let few : n < 65536 = fewer (length c.message) n facts short in
    record {
      from_is = and_from _ _ (le-leb 1 c.name.from is.from_is.0) (le-leb c.name.from 16 is.from_is.1);
      to_is = and_from _ _ (le-leb 1 c.name.to is.to_is.0) (le-leb c.name.to 16 is.to_is.1);
      id_is = (let number = is.id_is in omega (arith, number));
      index_is = omega (arith, less, few);
      count_is = omega (arith, few);
      short = omega (arith, part);
      sized = and_from _ _ (and_from _ _ (and_from _ _ (lt-ltb j n less) (le-leb size 1488 (omega (arith, part))))
          (implied (nat_lt (j + 1) n) (size == 1488) (λ e. eq-eqb size 1488 (whole_piece (length c.message) n j size facts part (ltb-true (j + 1) n e)))))
          (implied (size == 0) (n == 1) (λ e. eq-eqb n 1 (no_piece (length c.message) n j size facts part less (eqb-true size 0 e))));
    }
  where
    fewer_by : (long n : ℕ) (b : Bool) → (long == 0) ≡ b → Counted long n → long ≤ 97516080 → n < 65536
    fewer_by long n true e facts most = let one = facts.none (eqb-true long 0 e) in omega (arith, one)
    fewer_by long n false e facts most = let filled = facts.full (eqb-false long 0 e) in omega (arith, filled, most)

    fewer : (long n : ℕ) → Counted long n → long ≤ 97516080 → n < 65536
    fewer long n facts most = fewer_by long n (long == 0) refl facts most

    whole_by : (long n j size : ℕ) (b : Bool) → (long == 0) ≡ b → Counted long n → size ≡ min 1488 (long - 1488 * j) → j + 1 < n → size ≡ 1488
    whole_by long n j size true e facts part less = let one = facts.none (eqb-true long 0 e) in absurd (omega (arith, one, less))
    whole_by long n j size false e facts part less = let filled = facts.full (eqb-false long 0 e) in omega (arith, filled, part, less)

    whole_piece : (long n j size : ℕ) → Counted long n → size ≡ min 1488 (long - 1488 * j) → j + 1 < n → size ≡ 1488
    whole_piece long n j size facts part less = whole_by long n j size (long == 0) refl facts part less

    no_by : (long n j size : ℕ) (b : Bool) → (long == 0) ≡ b → Counted long n → size ≡ min 1488 (long - 1488 * j) → j < n → size ≡ 0 → n ≡ 1
    no_by long n j size true e facts part less none = facts.none (eqb-true long 0 e)
    no_by long n j size false e facts part less none = let filled = facts.full (eqb-false long 0 e) in omega (arith, filled, part, less, none)

    no_piece : (long n j size : ℕ) → Counted long n → size ≡ min 1488 (long - 1488 * j) → j < n → size ≡ 0 → n ≡ 1
    no_piece long n j size facts part less none = no_by long n j size (long == 0) refl facts part less none
