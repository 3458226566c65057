-- The blocks of a file dropped, one after another.
use Rattle.std.proofs.Common.{rules, tests, ◌≡◌, ℕ, zero, suc, ◌==◌, nat_lt, Bool, true, false, ◌&&◌, not, cond, List, [], ◌∷◌, refl, sym, ap, subst, ◌∙◌, arith}
use Rattle.std.specs.List.{AllByRecursion, IsDistinct, filter}
use Rattle.std.specs.Map.{keys_of, remove_entry}
use Rattle.std.proofs.lemmas.Bool.{lt-ltb, le-ltb}
use Rattle.std.proofs.lemmas.Bool.Decides.{eqb_tells}
use Rattle.sprite_ids.specs.declared.FileId.{FileId}
use Rattle.block_cache.specs.declared.key.BlockKey.{BlockKey}
use Rattle.block_cache.specs.declared.block.Block.{Block}
use Rattle.block_cache.specs.Files.{is_file}
use Rattle.block_cache.specs.Blocks.{Blocks, is_at, is_key, without, dropped_under}
use Rattle.block_cache.specs.Reach.{IsUnder}
use Rattle.block_cache.proofs.KeyLaws.{one_block, same_file}

-- whether it is no block of the file under that one
abbrev stays : FileId → ℕ → BlockKey × Block → Bool
stays file n entry = not (is_file file entry.0.file && nat_lt entry.0.block.0 n)

-- a filter that keeps all keeps the list
filter_all : {X : Type 0} (p : X → Bool) (xs : List X) → ((x : X) → p x ≡ true) → filter p xs ≡ xs
filter_all p [] h = refl
filter_all p (x ∷ xs) h = ap (λ b. cond b (x ∷ filter p xs) (filter p xs)) (h x) ∙ ap (λ ys. x ∷ ys) (filter_all p xs h)

-- two filters that agree on all items
abbrev Agree : {X : Type 0} → (X → Bool) → (X → Bool) → List X → Type 0
Agree p q xs = AllByRecursion (λ x. p x ≡ q x) xs

filter_same : {X : Type 0} (p q : X → Bool) (xs : List X) → Agree p q xs → filter p xs ≡ filter q xs
filter_same p q [] h = refl
filter_same p q (x ∷ xs) h =
    ap (λ b. cond b (x ∷ filter p xs) (filter p xs)) h.0 ∙ ap (λ ys. cond (q x) (x ∷ ys) ys) (filter_same p q xs h.1)

kept : {X : Type 0} (p : X → Bool) (x : X) (xs : List X) → p x ≡ true → filter p (x ∷ xs) ≡ x ∷ filter p xs
kept p x xs e = ap (λ b. cond b (x ∷ filter p xs) (filter p xs)) e

left_out : {X : Type 0} (p : X → Bool) (x : X) (xs : List X) → p x ≡ false → filter p (x ∷ xs) ≡ filter p xs
left_out p x xs e = ap (λ b. cond b (x ∷ filter p xs) (filter p xs)) e

next_under : (n x : ℕ) → (n == x) ≡ false → nat_lt x n ≡ nat_lt x (suc n)
next_under n x h = search (rules, tests, h, eqb_tells n x)

stays_by : (file : FileId) (n : ℕ) (entry : BlockKey × Block) (b : Bool) → is_file file entry.0.file ≡ b → (b && (n == entry.0.block.0)) ≡ false → not (b && nat_lt entry.0.block.0 n) ≡ not (b && nat_lt entry.0.block.0 (suc n))
stays_by file n entry true e h = ap not (next_under n entry.0.block.0 h)
stays_by file n entry false e h = refl

-- another block stays where it stayed
stays_on : (file : FileId) (n : ℕ) (entry : BlockKey × Block) → is_at file n entry.0 ≡ false → stays file n entry ≡ stays file (suc n) entry
stays_on file n entry h = stays_by file n entry (is_file file entry.0.file) refl h

stays_all : (file : FileId) (n : ℕ) (entries : Blocks) → AllByRecursion (λ key. is_at file n key ≡ false) (keys_of entries) → Agree (stays file n) (stays file (suc n)) entries
stays_all file n [] h = tt
stays_all file n (entry ∷ rest) h = (stays_on file n entry h.0, stays_all file n rest h.1)

-- the block itself stayed, and goes
stayed : (key : BlockKey) (block : Block) → stays key.file key.block.0 (key, block) ≡ true
stayed key block =
    ap (λ b. not (b && nat_lt key.block.0 key.block.0)) (same_file key.file) ∙ ap not (le-ltb key.block.0 key.block.0 (omega arith))

goes : (key : BlockKey) (block : Block) → stays key.file (suc key.block.0) (key, block) ≡ false
goes key block =
    ap (λ b. not (b && nat_lt key.block.0 (suc key.block.0))) (same_file key.file) ∙ ap not (lt-ltb key.block.0 (suc key.block.0) (omega arith))

-- the block at the head goes
head_goes : (entry : BlockKey × Block) (rest : Blocks) → is_at entry.0.file entry.0.block.0 entry.0 ≡ true → AllByRecursion (λ key. is_key entry.0 key ≡ false) (keys_of rest) → remove_entry (is_at entry.0.file entry.0.block.0) (filter (stays entry.0.file entry.0.block.0) (entry ∷ rest)) ≡ filter (stays entry.0.file (suc entry.0.block.0)) (entry ∷ rest)
head_goes entry rest is others =
    let file = entry.0.file in
    let n = entry.0.block.0 in
    ap (remove_entry (is_at file n)) (kept (stays file n) entry rest (stayed entry.0 entry.1))
    ∙ ap (λ b. cond b (filter (stays file n) rest) (entry ∷ remove_entry (is_at file n) (filter (stays file n) rest))) is
    ∙ filter_same (stays file n) (stays file (suc n)) rest (stays_all file n rest others)
    ∙ sym (left_out (stays file (suc n)) entry rest (goes entry.0 entry.1))

moved_head : (file : FileId) (n : ℕ) (entry : BlockKey × Block) (rest : Blocks) → is_at file n entry.0 ≡ true → AllByRecursion (λ key. is_key entry.0 key ≡ false) (keys_of rest) → remove_entry (is_at file n) (filter (stays file n) (entry ∷ rest)) ≡ filter (stays file (suc n)) (entry ∷ rest)
moved_head file n entry rest is others =
    let same = one_block file n entry.0 is in
    let at = subst (λ (f : FileId). is_at f n entry.0 ≡ true) same.0 is in
    let here = subst (λ (m : ℕ). is_at entry.0.file m entry.0 ≡ true) same.1 at in
    let there = head_goes entry rest here others in
    let back = subst (λ (m : ℕ). remove_entry (is_at entry.0.file m) (filter (stays entry.0.file m) (entry ∷ rest)) ≡ filter (stays entry.0.file (suc m)) (entry ∷ rest)) (sym same.1) there in
    subst (λ (f : FileId). remove_entry (is_at f n) (filter (stays f n) (entry ∷ rest)) ≡ filter (stays f (suc n)) (entry ∷ rest)) (sym same.0) back

other_head : (file : FileId) (n : ℕ) (entry : BlockKey × Block) (rest : Blocks) (b : Bool) → stays file n entry ≡ b → is_at file n entry.0 ≡ false → remove_entry (is_at file n) (filter (stays file n) rest) ≡ filter (stays file (suc n)) rest → remove_entry (is_at file n) (filter (stays file n) (entry ∷ rest)) ≡ filter (stays file (suc n)) (entry ∷ rest)
other_head file n entry rest true e away h =
    ap (remove_entry (is_at file n)) (kept (stays file n) entry rest e)
    ∙ ap (λ b. cond b (filter (stays file n) rest) (entry ∷ remove_entry (is_at file n) (filter (stays file n) rest))) away
    ∙ ap (λ xs. entry ∷ xs) h
    ∙ sym (kept (stays file (suc n)) entry rest (sym (stays_on file n entry away) ∙ e))
other_head file n entry rest false e away h =
    ap (remove_entry (is_at file n)) (left_out (stays file n) entry rest e)
    ∙ h
    ∙ sym (left_out (stays file (suc n)) entry rest (sym (stays_on file n entry away) ∙ e))

step_by : (file : FileId) (n : ℕ) (entry : BlockKey × Block) (rest : Blocks) (b : Bool) → is_at file n entry.0 ≡ b → AllByRecursion (λ key. is_key entry.0 key ≡ false) (keys_of rest) → remove_entry (is_at file n) (filter (stays file n) rest) ≡ filter (stays file (suc n)) rest → remove_entry (is_at file n) (filter (stays file n) (entry ∷ rest)) ≡ filter (stays file (suc n)) (entry ∷ rest)
step_by file n entry rest true e others h = moved_head file n entry rest e others
step_by file n entry rest false e others h = other_head file n entry rest (stays file n entry) refl e h

-- one more block dropped
dropped_step : (file : FileId) (n : ℕ) (blocks : Blocks) → IsDistinct is_key (keys_of blocks) → remove_entry (is_at file n) (filter (stays file n) blocks) ≡ filter (stays file (suc n)) blocks
unfolding IsDistinct
dropped_step file n [] h = refl
dropped_step file n (entry ∷ rest) h = step_by file n entry rest (is_at file n entry.0) refl h.0 (dropped_step file n rest h.1)

none_under : (file : FileId) (entry : BlockKey × Block) → stays file 0 entry ≡ true
none_under file entry = elim (is_file file entry.0.file) as (λ b. not (b && nat_lt entry.0.block.0 0) ≡ true) [ true ↦ ap not (le-ltb entry.0.block.0 0 (omega arith)) | false ↦ refl ]

dropped_filter : (file : FileId) (n : ℕ) (blocks : Blocks) → IsDistinct is_key (keys_of blocks) → dropped_under blocks file n ≡ filter (stays file n) blocks
dropped_filter file zero blocks h = sym (filter_all (stays file 0) blocks (none_under file))
dropped_filter file (suc n) blocks h = ap (remove_entry (is_at file n)) (dropped_filter file n blocks h) ∙ dropped_step file n blocks h

under_by : (file : FileId) (n : ℕ) (entry : BlockKey × Block) (b : Bool) → is_file file entry.0.file ≡ b → IsUnder file n entry → not (b && nat_lt entry.0.block.0 n) ≡ not b
under_by file n entry true is h = ap not (lt-ltb entry.0.block.0 n (h is))
under_by file n entry false is h = refl

under_all : (file : FileId) (n : ℕ) (blocks : Blocks) → AllByRecursion (IsUnder file n) blocks → Agree (stays file n) (λ entry. not (is_file file entry.0.file)) blocks
under_all file n [] h = tt
under_all file n (entry ∷ rest) h = (under_by file n entry (is_file file entry.0.file) refl h.0, under_all file n rest h.1)

-- with all blocks of the file dropped up to a number that they are under, those of the others are left
pub dropped_without : (file : FileId) (n : ℕ) (blocks : Blocks) → IsDistinct is_key (keys_of blocks) → AllByRecursion (IsUnder file n) blocks → dropped_under blocks file n ≡ without blocks file
dropped_without file n blocks h r =
    dropped_filter file n blocks h ∙ filter_same (stays file n) (λ entry. not (is_file file entry.0.file)) blocks (under_all file n blocks r)
