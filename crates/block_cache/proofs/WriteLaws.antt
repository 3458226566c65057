-- A read of the range of a write.
use Rattle.std.proofs.Common.{◌≡◌, ℕ, zero, suc, ◌+◌, ◌-◌, ◌*◌, ◌<◌, ◌≤◌, ◌==◌, min, Bool, true, false, ◌&&◌, List, ◌++◌, length, take, drop, Option, Some, None, is_some, option_map, refl, sym, ap, subst, ◌∙◌, arith, length-append, length-take, length-drop}
use Rattle.std.proofs.lemmas.List.{take_min, drop-take, drop-append-le}
use Rattle.std.proofs.lemmas.Bool.{eqb-true}
use Rattle.std.proofs.Math.Seq.{take-add, take-append_seam, drop-append_seam}
use Rattle.sprite_ids.specs.declared.FileId.{FileId}
use Rattle.block_cache.specs.declared.block.Block.{Block}
use Rattle.block_cache.specs.Files.{Files, is_file}
use Rattle.block_cache.specs.Ranges.{part, piece, over}
use Rattle.block_cache.specs.Blocks.{Blocks, is_at, is_held, block_at, bytes_at, bytes_of, parts, written, written_block}
use Rattle.block_cache.proofs.KeptLaws.{AreKept, held_whole}
use Rattle.block_cache.proofs.LookupLaws.{written_other, written_same}

-- what is taken first, and the rest of what is taken in all
joined_by : {X : Type 0} (xs : List X) (a b m : ℕ) → b ≡ a + m → take a xs ++ drop a (take b xs) ≡ take b xs
joined_by xs a b m e =
    ap (λ n. take a xs ++ drop a (take n xs)) e ∙ ap (λ ys. take a xs ++ ys) (drop-take a m xs) ∙ sym (take-add a m xs) ∙ sym (ap (λ n. take n xs) e)

joined : {X : Type 0} (xs : List X) (a b : ℕ) → a ≤ b → take a xs ++ drop a (take b xs) ≡ take b xs
joined xs a b h = joined_by xs a b (b - a) (omega (arith, h))

-- the part of a block that was written
front : (bytes new rest : List ℕ) (s : ℕ) → length (take s bytes) ≡ s → drop s (take (s + length new) ((take s bytes ++ new) ++ rest)) ≡ new
front bytes new rest s e =
    let long : length (take s bytes ++ new) ≡ s + length new = simp (length-append) (omega (arith, e)) in
    let under : s ≤ length (take s bytes ++ new) = omega (arith, long) in
    let middle : drop s (take s bytes ++ new) ≡ new = ap (λ n. drop n (take s bytes ++ new)) (sym e) ∙ drop-append_seam (take s bytes) new in
    drop-take s (length new) ((take s bytes ++ new) ++ rest)
    ∙ ap (take (length new)) (drop-append-le s (take s bytes ++ new) rest under ∙ ap (λ xs. xs ++ rest) middle)
    ∙ take-append_seam new rest

part_over : (bytes new : List ℕ) (s k : ℕ) → length bytes ≡ 4096 → s + length new ≤ 4096 → min k 4096 ≡ s + length new → drop s (take k (over bytes s new)) ≡ new
part_over bytes new s k whole fits is =
    let all : length (over bytes s new) ≡ 4096 = simp (length-append, length-take, length-drop) (omega (arith, whole, fits)) in
    let start : length (take s bytes) ≡ s = simp (length-take) (omega (arith, whole, fits)) in
    let taken : take k (over bytes s new) ≡ take (s + length new) (over bytes s new) = sym (take_min k (over bytes s new)) ∙ ap (λ n. take (min k n) (over bytes s new)) all ∙ ap (λ n. take n (over bytes s new)) is in
    ap (drop s) taken ∙ front bytes new (drop (s + length new) bytes) s start

piece_length : (new : List ℕ) (number from : ℕ) → length (piece new number from) ≡ min (4096 * number + 4096 - from) (length new) - (4096 * number - from)
piece_length new number from = simp (length-drop, length-take) refl

ends : (many number from : ℕ) → from ≤ 4096 * number + 4096 → min (from + many - 4096 * number) 4096 ≡ (from - 4096 * number) + (min (4096 * number + 4096 - from) many - (4096 * number - from))
ends many number from h = omega (arith, h)

fits : (many number from : ℕ) → from ≤ 4096 * number + 4096 → (from - 4096 * number) + (min (4096 * number + 4096 - from) many - (4096 * number - from)) ≤ 4096
fits many number from h = omega (arith, h)

-- the part of a written block is the piece of the bytes that it got
part_written : (block : Block) (number from : ℕ) (new : List ℕ) (dirty : ℕ) → length block.bytes ≡ 4096 → from ≤ 4096 * number + 4096 → part (written_block block number from new dirty).bytes number from (from + length new) ≡ piece new number from
part_written block number from new dirty whole touches =
    let long = piece_length new number from in
    part_over block.bytes (piece new number from) (from - 4096 * number) (from + length new - 4096 * number) whole (subst (λ (n : ℕ). (from - 4096 * number) + n ≤ 4096) (sym long) (fits (length new) number from touches)) (ends (length new) number from touches ∙ ap (λ n. (from - 4096 * number) + n) (sym long))

-- reads of blocks that have the same bytes
parts_same : (xs ys : Blocks) (file : FileId) (from end first n : ℕ) → ((m : ℕ) → m < n → bytes_at xs file (first + m) ≡ bytes_at ys file (first + m)) → parts xs file from end first n ≡ parts ys file from end first n
parts_same xs ys file from end first zero h = refl
parts_same xs ys file from end first (suc n) h =
    ap (λ bs. parts xs file from end first n ++ part bs (first + n) from end) (h n (omega arith))
    ∙ ap (λ bs. bs ++ part (bytes_at ys file (first + n)) (first + n) from end) (parts_same xs ys file from end first n (λ m under. h m (omega (arith, under))))

pub apart_number : (a b : ℕ) → (a ≡ b → ⊥) → (a == b) ≡ false
apart_number a b ne = by (a == b) refl
  where
    by : (c : Bool) → (a == b) ≡ c → c ≡ false
    by true e = absurd (ne (eqb-true a b e))
    by false e = refl

other_number : (file : FileId) (n : ℕ) (m : ℕ) → (n ≡ m → ⊥) → is_at file n (record { file = file; block = record { 0 = m } }) ≡ false
other_number file n m ne = ap (λ b. is_file file file && b) (apart_number n m ne) ∙ elim (is_file file file) as (λ b. (b && false) ≡ false) [ true ↦ refl | false ↦ refl ]

-- blocks after those that were written
later : (blocks : Blocks) (file : FileId) (from : ℕ) (new : List ℕ) (last first n m : ℕ) → n ≤ m → block_at (written blocks file from new last first n) file (first + m) ≡ block_at blocks file (first + m)
later blocks file from new last first zero m h = refl
later blocks file from new last first (suc n) m h =
    written_other (written blocks file from new last first n) file (first + n) from new (last + n + 1) (record { file = file; block = record { 0 = first + m } }) (other_number file (first + n) (first + m) (λ e. omega (arith, e, h)))
    ∙ later blocks file from new last first n m (omega (arith, h))

-- blocks before the one that is written
earlier : (blocks : Blocks) (file : FileId) (from : ℕ) (new : List ℕ) (last first n m : ℕ) → m < n → bytes_at (written blocks file from new last first (suc n)) file (first + m) ≡ bytes_at (written blocks file from new last first n) file (first + m)
earlier blocks file from new last first n m h =
    ap bytes_of (written_other (written blocks file from new last first n) file (first + n) from new (last + n + 1) (record { file = file; block = record { 0 = first + m } }) (other_number file (first + n) (first + m) (λ e. omega (arith, e, h))))

written_bytes : (files : Files) (last : ℕ) (blocks : Blocks) (file : FileId) (from : ℕ) (new : List ℕ) (given first n : ℕ) (o : Option Block) → block_at blocks file (first + n) ≡ o → is_some o ≡ true → AreKept files last blocks → from ≤ 4096 * (first + n) + 4096 → part (bytes_at (written blocks file from new given first (suc n)) file (first + n)) (first + n) from (from + length new) ≡ piece new (first + n) from
written_bytes files last blocks file from new given first n None is held kept touches = absurd (cc)
written_bytes files last blocks file from new given first n (Some block) is held kept touches =
    let before = written blocks file from new given first n in
    let there = later blocks file from new given first n n (omega arith) ∙ is in
    let now = written_same before file (first + n) from new (given + n + 1) ∙ ap (option_map (λ block. written_block block (first + n) from new (given + n + 1))) there in
    ap (λ (p : Option Block). part (bytes_of p) (first + n) from (from + length new)) now
    ∙ part_written block (first + n) from new (given + n + 1) (held_whole files last blocks file (first + n) block kept is) touches

-- the blocks that were written give the bytes up to their end
pub read_written : (files : Files) (last : ℕ) (blocks : Blocks) (file : FileId) (from : ℕ) (new : List ℕ) (given first n : ℕ) → 4096 * first ≤ from → from ≤ 4096 * first + 4096 → AreKept files last blocks → ((m : ℕ) → m < n → is_held blocks file (first + m) ≡ true) → parts (written blocks file from new given first n) file from (from + length new) first n ≡ take (4096 * (first + n) - from) new
read_written files last blocks file from new given first zero below touches kept held =
    let nothing : 4096 * (first + 0) - from ≡ 0 = omega (arith, below) in
    sym (ap (λ k. take k new) nothing)
read_written files last blocks file from new given first (suc n) below touches kept held =
    let end = from + length new in
    let front = parts_same (written blocks file from new given first (suc n)) (written blocks file from new given first n) file from end first n (λ m under. earlier blocks file from new given first n m under) ∙ read_written files last blocks file from new given first n below touches kept (λ m under. held m (omega (arith, under))) in
    let back = written_bytes files last blocks file from new given first n (block_at blocks file (first + n)) refl (held n (omega arith)) kept (omega (arith, touches)) in
    let up : 4096 * (first + n) + 4096 - from ≡ 4096 * (first + suc n) - from = omega arith in
    ap (λ bs. bs ++ part (bytes_at (written blocks file from new given first (suc n)) file (first + n)) (first + n) from end) front
    ∙ ap (λ bs. take (4096 * (first + n) - from) new ++ bs) back
    ∙ joined new (4096 * (first + n) - from) (4096 * (first + n) + 4096 - from) (omega arith)
    ∙ ap (λ k. take k new) up

part_length : (bytes : List ℕ) (number from end : ℕ) → length bytes ≡ 4096 → length (part bytes number from end) ≡ min (end - 4096 * number) 4096 - (from - 4096 * number)
part_length bytes number from end whole = simp (length-drop, length-take) (ap (λ n. min (end - 4096 * number) n - (from - 4096 * number)) whole)

bytes_whole : (files : Files) (last : ℕ) (blocks : Blocks) (file : FileId) (number : ℕ) (o : Option Block) → block_at blocks file number ≡ o → is_some o ≡ true → AreKept files last blocks → length (bytes_at blocks file number) ≡ 4096
bytes_whole files last blocks file number None is held kept = absurd (cc)
bytes_whole files last blocks file number (Some block) is held kept =
    ap (λ (p : Option Block). length (bytes_of p)) is ∙ held_whole files last blocks file number block kept is

added : (first n from end : ℕ) → from ≤ end → 4096 * first ≤ from → from ≤ 4096 * first + 4096 → (min (4096 * (first + n)) end - from) + (min (end - 4096 * (first + n)) 4096 - (from - 4096 * (first + n))) ≡ min (4096 * (first + suc n)) end - from
added first n from end order below touches = omega (arith, order, below, touches)

-- the blocks of a range give as many bytes as it has
pub parts_length : (files : Files) (last : ℕ) (blocks : Blocks) (file : FileId) (from end first n : ℕ) → from ≤ end → 4096 * first ≤ from → from ≤ 4096 * first + 4096 → AreKept files last blocks → ((m : ℕ) → m < n → is_held blocks file (first + m) ≡ true) → length (parts blocks file from end first n) ≡ min (4096 * (first + n)) end - from
parts_length files last blocks file from end first zero order below touches kept held = omega (arith, below)
parts_length files last blocks file from end first (suc n) order below touches kept held =
    let front = parts_length files last blocks file from end first n order below touches kept (λ m under. held m (omega (arith, under))) in
    let whole = bytes_whole files last blocks file (first + n) (block_at blocks file (first + n)) refl (held n (omega arith)) kept in
    let back = part_length (bytes_at blocks file (first + n)) (first + n) from end whole in
    length-append (parts blocks file from end first n) (part (bytes_at blocks file (first + n)) (first + n) from end)
    ∙ ap (λ k. k + length (part (bytes_at blocks file (first + n)) (first + n) from end)) front
    ∙ ap (λ k. (min (4096 * (first + n)) end - from) + k) back
    ∙ added first n from end order below touches
