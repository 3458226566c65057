-- A full cache with room for eight blocks or more has a clean block outside any range of five, or a dirty one.
use Rattle.std.proofs.Common.{arith, ◌≡◌, ℕ, zero, suc, ◌+◌, ◌-◌, ◌/◌, ◌≤◌, ◌<◌, ◌==◌, nat_le, Bool, true, false, ◌&&◌, not, cond, [], ◌∷◌, length, Option, Some, None, is_some, refl, sym, ◌∙◌}
use Rattle.std.proofs.lemmas.Bool.{and_parts, eq-eqb, leb-true}
use Rattle.std.specs.List.{AllByRecursion}
use Rattle.std.specs.Map.{remove_entry}
use Rattle.std.specs.Option.{option_or}
use Rattle.sprite_ids.specs.declared.BlockNo.{BlockNo}
use Rattle.sprite_ids.specs.declared.FileId.{FileId}
use Rattle.block_cache.specs.declared.BlockKey.{BlockKey}
use Rattle.block_cache.specs.declared.Block.{Block}
use Rattle.block_cache.specs.Blocks.{Blocks, is_at, is_clean_outside, is_dirty, is_dirty_of, is_within, oldest}
use Rattle.block_cache.specs.Files.{is_file}
use Rattle.block_cache.specs.Held.{Held, named_of}
use Rattle.block_cache.specs.Ranges.{block_count}
use Rattle.block_cache.proofs.EachLaws.{each_removed}
use Rattle.client_file_tables.specs.Extents.{first_of, last_of}
use Rattle.client_file_tables.specs.declared.works.DataCall.{DataCall}
use Rattle.file_walks.specs.Fits.{moved_by}
use Rattle.file_walks.proofs.DataWalks.{NoRoom}
use Rattle.fill_facts.proofs.Caches.{Apart, IsElsewhere, Roomy, removed_apart, removed_none}

-- Blocks of one file, whose numbers lie in a range

-- a block of the file, of so many from there on
abbrev IsInside : FileId → ℕ → ℕ → BlockKey × Block → Type 0
IsInside file low many entry = (is_file file entry.0.file ≡ true) × ((low ≤ entry.0.block.0) × (entry.0.block.0 < low + many))

longer_by : (entry : BlockKey × Block) (rest left : Blocks) (b : Bool) → length rest ≤ suc (length left) → length (entry ∷ rest) ≤ suc (length (cond b rest (entry ∷ left)))
longer_by entry rest left true h = omega arith
longer_by entry rest left false h = omega arith

one_longer : (test : BlockKey → Bool) (blocks : Blocks) → length blocks ≤ suc (length (remove_entry test blocks))
one_longer test [] = omega arith
one_longer test (entry ∷ rest) = longer_by entry rest (remove_entry test rest) (test entry.0) (one_longer test rest)

apart_number : (a b : ℕ) (c : Bool) → (a == b) ≡ c → (true && c) ≡ false → a ≡ b → ⊥
apart_number a b c e none same = (let is = eq-eqb a b same in let both = sym none ∙ sym e ∙ is in cc)

less_by : (file : FileId) (low many : ℕ) (entry : BlockKey × Block) (b : Bool) → is_file file entry.0.file ≡ b → b ≡ true → (b && (low + many == entry.0.block.0)) ≡ false → entry.0.block.0 < low + suc many → entry.0.block.0 < low + many
less_by file low many entry true e is none below = (let apart = apart_number (low + many) entry.0.block.0 (low + many == entry.0.block.0) refl none in omega (arith, apart))
less_by file low many entry false e is none below = absurd (cc)

-- one of which that isn't the last
less_inside : (file : FileId) (low many : ℕ) (entry : BlockKey × Block) → IsInside file low (suc many) entry → IsElsewhere file (low + many) entry → IsInside file low many entry
less_inside file low many entry h none = (h.0, (h.1.0, less_by file low many entry (is_file file entry.0.file) refl h.0 none h.1.1))

both_each : (P Q R : BlockKey × Block → Type 0) (blocks : Blocks) → ((entry : BlockKey × Block) → P entry → Q entry → R entry) → AllByRecursion P blocks → AllByRecursion Q blocks → AllByRecursion R blocks
both_each P Q R [] f h k = tt
both_each P Q R (entry ∷ rest) f h k = (f entry h.0 k.0, both_each P Q R rest f h.1 k.1)

-- there are no more of them than numbers
pub few_inside : (file : FileId) (low many : ℕ) (blocks : Blocks) → Apart blocks → AllByRecursion (IsInside file low many) blocks → length blocks ≤ many
few_inside file low zero [] apart h = omega arith
few_inside file low zero (entry ∷ rest) apart h = absurd (let least = h.0.1.0 in let most = h.0.1.1 in omega arith)
few_inside file low (suc many) blocks apart h =
    let left : Blocks = remove_entry (is_at file (low + many)) blocks in
    let so : AllByRecursion (IsInside file low many) left =
    both_each (IsInside file low (suc many)) (IsElsewhere file (low + many)) (IsInside file low many) left (less_inside file low many) (each_removed (is_at file (low + many)) (IsInside file low (suc many)) blocks h) (removed_none file (low + many) blocks apart) in
    let fewer = few_inside file low many left (removed_apart (is_at file (low + many)) blocks apart) so in
    let longer = one_longer (is_at file (low + many)) blocks in
    omega arith

-- What isn't found

none_both : (o : Option (BlockKey × Block)) (entry : BlockKey × Block) (b : Bool) → option_or o (cond b (Some entry) None) ≡ None → (o ≡ None) × (b ≡ false)
none_both None entry false e = (refl, refl)
none_both None entry true e = absurd (cc)
none_both (Some other) entry b e = absurd (cc)

oldest_none : (test : BlockKey × Block → Bool) (blocks : Blocks) → oldest test blocks ≡ None → AllByRecursion (λ (entry : BlockKey × Block). test entry ≡ false) blocks
oldest_none test [] e = tt
oldest_none test (entry ∷ rest) e = let both = none_both (oldest test rest) entry (test entry) e in (both.1, oldest_none test rest both.0)

-- whether a looked-up block passes, or there is none
abbrev passes : (BlockKey × Block → Bool) → Option (BlockKey × Block) → Bool
passes test (Some entry) = test entry
passes test None = true

passed_by : (test : BlockKey × Block → Bool) (o : Option (BlockKey × Block)) (entry : BlockKey × Block) (b : Bool) → test entry ≡ b → passes test o ≡ true → passes test (option_or o (cond b (Some entry) None)) ≡ true
passed_by test (Some other) entry b e h = h
passed_by test None entry true e h = e
passed_by test None entry false e h = refl

oldest_passes : (test : BlockKey × Block → Bool) (blocks : Blocks) → passes test (oldest test blocks) ≡ true
oldest_passes test [] = refl
oldest_passes test (entry ∷ rest) = passed_by test (oldest test rest) entry (test entry) refl (oldest_passes test rest)

dirty_by : (o : Option ℕ) (entry : BlockKey × Block) → entry.1.dirty ≡ o → (true && is_some o) ≡ true → named_of (Some (entry.0, record entry.1 { dirty = o })) ≡ None → ⊥
dirty_by (Some number) entry e is none = (cc)
dirty_by None entry e is none = (cc)

no_dirty : (o : Option (BlockKey × Block)) → passes (is_dirty_of None) o ≡ true → named_of o ≡ None → o ≡ None
no_dirty None h e = refl
no_dirty (Some entry) h e = absurd (dirty_by entry.1.dirty entry refl h e)

-- a block that is neither dirty nor clean outside these lies there
lies_by : (dirty within : Bool) → (true && dirty) ≡ false → (not dirty && not within) ≡ false → within ≡ true
lies_by true within e f = absurd (cc)
lies_by false true e f = refl
lies_by false false e f = absurd (cc)

-- Ranges

five : (from many : ℕ) → many ≤ 16384 → (from + many - 1) / 4096 + 1 - from / 4096 ≤ 5
five from many short = omega (arith, short)

five_by : (b : Bool) (from many : ℕ) → many ≤ 16384 → cond b 0 ((from + many - 1) / 4096 + 1 - from / 4096) ≤ 5
five_by true from many short = omega arith
five_by false from many short = five from many short

five_at_most : (from many : ℕ) → many ≤ 16384 → block_count from many ≤ 5
five_at_most from many short = five_by (many == 0) from many short

last_below : (first count : ℕ) → count ≤ 5 → first + count - 1 < first + 5
last_below first count h = omega arith

inside_of : (call : DataCall) (first last : BlockNo) (entry : BlockKey × Block) → last.0 < first.0 + 5 → is_within call.file first last entry.0 ≡ true → IsInside call.file first.0 5 entry
inside_of call first last entry below within =
    let upper = and_parts (is_file call.file entry.0.file && nat_le first.0 entry.0.block.0) (nat_le entry.0.block.0 last.0) within in
    let lower = and_parts (is_file call.file entry.0.file) (nat_le first.0 entry.0.block.0) upper.0 in
    (lower.0, (leb-true first.0 entry.0.block.0 lower.1, (let most = leb-true entry.0.block.0 last.0 upper.1 in omega arith)))

-- there is always a block that may go, where the operation moves no more than a call may
pub never_stuck : (call : DataCall) (cache : Held) → Roomy cache → moved_by call.kind ≤ 16384 → NoRoom call cache → ⊥
never_stuck call cache roomy short stuck =
    let first : BlockNo = first_of stuck.extent in
    let last : BlockNo = last_of stuck.extent in
    let clean = oldest_none (is_clean_outside call.file first last) cache.blocks stuck.no_clean in
    let dirty = oldest_none (is_dirty_of None) cache.blocks (no_dirty (oldest (is_dirty_of None) cache.blocks) (oldest_passes (is_dirty_of None) cache.blocks) stuck.no_dirty) in
    let below = last_below first.0 (block_count stuck.extent.from stuck.extent.length) (five_at_most stuck.extent.from stuck.extent.length (let less = stuck.short in omega arith)) in
    let inside : AllByRecursion (IsInside call.file first.0 5) cache.blocks =
    both_each (λ (entry : BlockKey × Block). is_dirty_of None entry ≡ false) (λ (entry : BlockKey × Block). is_clean_outside call.file first last entry ≡ false) (IsInside call.file first.0 5) cache.blocks
    (λ entry d c. inside_of call first last entry below (lies_by (is_dirty entry) (is_within call.file first last entry.0) d c)) dirty clean in
    let few = few_inside call.file first.0 5 cache.blocks roomy.apart inside in
    let full = leb-true cache.size (length cache.blocks) stuck.full in
    let eight = roomy.size in
    omega arith
