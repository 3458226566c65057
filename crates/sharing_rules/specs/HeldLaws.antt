-- Whether a kernel holds a block is told record by record.
use Rattle.std.proofs.Common.{◌≡◌, ◌∙◌, ℕ, ◌==◌, Bool, true, false, cond, not, ◌&&◌, ◌||◌, List, [], ◌∷◌, ◌++◌, map, filter, refl, sym, ap, ap₂}
use Rattle.std.specs.List.{list_any}
use Rattle.sprite_ids.specs.declared.names.FileId.{FileId}
use Rattle.sprite_ids.specs.declared.names.BlockNo.{BlockNo}
use Rattle.unix_calls.specs.declared.event.Event.{Event}
use Rattle.unix_calls.specs.declared.event.Event.TheVariants as event
use Rattle.unix_calls.specs.declared.event.Rec.{Rec}
use Rattle.call_journal.specs.Matching.{same_file, same_block, has_event}
use Rattle.call_journal.specs.Files.{HeldBlock, is_block, without_block, marked, all_clean, is_recall_to, blocks_by, held_of, holds_block}
use Rattle.call_journal.proofs.GrowthLaws.{look_backs_grow}
use Rattle.trace_rules.specs.PlaceLaws.{same_of}
use Rattle.sharing_rules.specs.declared.keys.HeldAt.{HeldAt}
use Rattle.sharing_rules.specs.Cached.{held_behind}

-- ---- whether some item passes a test

any_alike : {A : Type 0} (p q : A → Bool) (xs : List A) → ((x : A) → p x ≡ q x) → list_any p xs ≡ list_any q xs
any_alike p q [] same = refl
any_alike p q (x ∷ xs) same = ap₂ (λ a b. a || b) (same x) (any_alike p q xs same)

any_none : {A : Type 0} (p : A → Bool) (xs : List A) → ((x : A) → p x ≡ false) → list_any p xs ≡ false
any_none p [] none = refl
any_none p (x ∷ xs) none = ap₂ (λ a b. a || b) (none x) (any_none p xs none)

any_mapped : {A : Type 0} (p : A → Bool) (f : A → A) (xs : List A) → ((x : A) → p (f x) ≡ p x) → list_any p (map f xs) ≡ list_any p xs
any_mapped p f [] same = refl
any_mapped p f (x ∷ xs) same = ap₂ (λ a b. a || b) (same x) (any_mapped p f xs same)

any_kept : {A : Type 0} (p q : A → Bool) (xs : List A) → list_any p (filter q xs) ≡ list_any (λ x. q x && p x) xs
any_kept p q [] = refl
any_kept p q (x ∷ xs) = by (q x) (any_kept p q xs)
  where
    by : (keeps : Bool) → list_any p (filter q xs) ≡ list_any (λ y. q y && p y) xs → list_any p (cond keeps (x ∷ filter q xs) (filter q xs)) ≡ (keeps && p x || list_any (λ y. q y && p y) xs)
    by true more = ap (λ b. p x || b) more
    by false more = more

-- ---- names of blocks

not_and : (b : Bool) → (not b && b) ≡ false
not_and true = refl
not_and false = refl

-- an item that is a block isn't another one
other_item : (f g : FileId) (b c : BlockNo) (x : HeldBlock) (p q : Bool) → is_block f b x ≡ p → is_block g c x ≡ q → same_block f b g c ≡ false → (not p && q) ≡ q
other_item f g b c x false q one two apart = refl
other_item f g b c x true false one two apart = refl
other_item f g b c x true true one two apart =
    let h = same_of x.file f x.block b one in
    let k = same_of x.file g x.block c two in
    let same : same_block f b g c ≡ same_block x.file x.block g c = ap₂ (λ h k. same_block h k g c) (sym h.files) (sym h.blocks) in
    absurd (cc (same, two, apart))

-- whether a block is there where one is taken out
without_any : (f g : FileId) (b c : BlockNo) (xs : List HeldBlock) (here : Bool) → same_block f b g c ≡ here → list_any (is_block g c) (without_block f b xs) ≡ cond here false (list_any (is_block g c) xs)
without_any f g b c xs true is =
    let h = same_of f g b c is in
    any_kept (is_block g c) (λ x. not (is_block f b x)) xs
    ∙ ap₂ (λ k n. list_any (λ x. not (is_block k n x) && is_block g c x) xs) h.files h.blocks
    ∙ any_none (λ x. not (is_block g c x) && is_block g c x) xs (λ x. not_and (is_block g c x))
without_any f g b c xs false is =
    any_kept (is_block g c) (λ x. not (is_block f b x)) xs
    ∙ any_alike (λ x. not (is_block f b x) && is_block g c x) (is_block g c) xs (λ x. other_item f g b c x (is_block f b x) (is_block g c x) refl refl is)

-- and where one is put first
filled_any : (f g : FileId) (b c : BlockNo) (xs : List HeldBlock) (here : Bool) → same_block f b g c ≡ here → (same_block f b g c || list_any (is_block g c) (without_block f b xs)) ≡ cond here true (list_any (is_block g c) xs)
filled_any f g b c xs true is = ap (λ t. t || list_any (is_block g c) (without_block f b xs)) is
filled_any f g b c xs false is = ap (λ t. t || list_any (is_block g c) (without_block f b xs)) is ∙ without_any f g b c xs false is

-- the mark of a block doesn't tell whether it is there
mark_by : (g : FileId) (c : BlockNo) (dirty here : Bool) (x : HeldBlock) → is_block g c (cond here (record x { is_dirty = dirty }) x) ≡ is_block g c x
mark_by g c dirty true x = refl
mark_by g c dirty false x = refl

recalled_any : (f g : FileId) (c : BlockNo) (xs : List HeldBlock) (b : Bool) → list_any (is_block g c) (cond b (all_clean f xs) xs) ≡ list_any (is_block g c) xs
recalled_any f g c xs true =
    any_mapped (is_block g c) (λ (x : HeldBlock). cond (same_file x.file f) (record x { is_dirty = false }) x) xs (λ x. mark_by g c false (same_file x.file f) x)
recalled_any f g c xs false = refl

marked_any : (f g : FileId) (b c : BlockNo) (dirty : Bool) (xs : List HeldBlock) → list_any (is_block g c) (marked f b dirty xs) ≡ list_any (is_block g c) xs
marked_any f g b c dirty xs =
    any_mapped (is_block g c) (λ (x : HeldBlock). cond (is_block f b x) (record x { is_dirty = dirty }) x) xs (λ x. mark_by g c dirty (is_block f b x) x)

-- ---- one record more

-- the name of a block
abbrev block_of : HeldAt → BlockNo
block_of at = record { 0 = at.block }

-- of another kernel
elsewhere : (kernel : ℕ) (e : Event) (at : HeldAt) (before : Bool) → (kernel == at.kernel) ≡ false → before ≡ held_behind kernel e at before
elsewhere kernel (event.Filled f b) at before apart = sym (ap (λ t. cond (t && same_block f b at.file (block_of at)) true before) apart)
elsewhere kernel (event.Dropped f b cause) at before apart = sym (ap (λ t. cond (t && same_block f b at.file (block_of at)) false before) apart)
elsewhere kernel _ at before apart = refl

-- of the kernel itself
here : (kernel : ℕ) (e : Event) (at : HeldAt) (records : List Rec) (bs : List HeldBlock) → (kernel == at.kernel) ≡ true → list_any (is_block at.file (block_of at)) (blocks_by at.kernel records e bs) ≡ held_behind kernel e at (list_any (is_block at.file (block_of at)) bs)
here kernel (event.Filled f b) at records bs is =
    filled_any f at.file b (block_of at) bs (same_block f b at.file (block_of at)) refl
    ∙ sym (ap (λ t. cond (t && same_block f b at.file (block_of at)) true (list_any (is_block at.file (block_of at)) bs)) is)
here kernel (event.Dropped f b cause) at records bs is =
    without_any f at.file b (block_of at) bs (same_block f b at.file (block_of at)) refl
    ∙ sym (ap (λ t. cond (t && same_block f b at.file (block_of at)) false (list_any (is_block at.file (block_of at)) bs)) is)
here kernel (event.Dirtied f b) at records bs is = marked_any f at.file b (block_of at) true bs
here kernel (event.WroteBack f b) at records bs is = marked_any f at.file b (block_of at) false bs
here kernel (event.Mode f stamp mode) at records bs is =
    recalled_any f at.file (block_of at) bs (list_any (has_event (is_recall_to at.kernel f stamp)) records)
here kernel _ at records bs is = refl

step_at : (kernel : ℕ) (e : Event) (at : HeldAt) (records : List Rec) (bs : List HeldBlock) (b : Bool) → (kernel == at.kernel) ≡ b → list_any (is_block at.file (block_of at)) (cond b (blocks_by at.kernel records e bs) bs) ≡ held_behind kernel e at (list_any (is_block at.file (block_of at)) bs)
step_at kernel e at records bs true is = here kernel e at records bs is
step_at kernel e at records bs false is = elsewhere kernel e at (list_any (is_block at.file (block_of at)) bs) is

pub held_more : (at : HeldAt) (records : List Rec) (rec : Rec) → holds_block at.kernel at.file (record { 0 = at.block }) (records ++ rec ∷ []) ≡ held_behind rec.kernel rec.event at (holds_block at.kernel at.file (record { 0 = at.block }) records)
held_more at records rec =
    ap (list_any (is_block at.file (block_of at))) (look_backs_grow.blocks at.kernel records rec)
    ∙ step_at rec.kernel rec.event at records (held_of at.kernel records) (rec.kernel == at.kernel) refl
