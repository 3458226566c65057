-- What kernels hold is told record by record.
use Rattle.std.proofs.Common.{◌≡◌, ◌∙◌, ℕ, ◌==◌, Bool, true, false, cond, not, ◌&&◌, ◌||◌, List, [], ◌∷◌, ◌++◌, refl, sym, ap, ap₂}
use Rattle.std.specs.List.{list_any}
use Rattle.std.proofs.lemmas.Bool.{and_parts, eqb-true}
use Rattle.sprite_ids.specs.declared.names.FileId.{FileId}
use Rattle.sprite_ids.specs.declared.names.BlockNo.{BlockNo}
use Rattle.unix_calls.specs.declared.description.Description.{Description}
use Rattle.unix_calls.specs.declared.event.SendKind.TheVariants as send
use Rattle.unix_calls.specs.declared.event.Event.{Event}
use Rattle.unix_calls.specs.declared.event.Event.TheVariants as event
use Rattle.unix_calls.specs.declared.event.Rec.{Rec}
use Rattle.call_journal.specs.Past.{Past, past_with}
use Rattle.call_journal.specs.Matching.{same_file, same_block, has_event}
use Rattle.call_journal.specs.Files.{HeldBlock, is_block, without_block, marked, all_clean, is_recall_to, blocks_by, held_of}
use Rattle.call_journal.specs.Fetches.{fetches_well}
use Rattle.call_journal.proofs.GrowthLaws.{look_backs_grow}
use Rattle.trace_rules.specs.declared.fetches.Fetches.{Fetches}
use Rattle.trace_rules.specs.declared.place.BlockAt.{BlockAt}
use Rattle.trace_rules.specs.declared.place.FileAt.{FileAt}
use Rattle.trace_rules.specs.Places.{same_place, same_use, is_due_fetch, held_behind, HoldsOn, TellsHeld}

told_of : (held : List BlockAt) (past : Past) (kernel : ℕ) (e : Event) → TellsHeld held past.records → fetches_well past kernel e ≡ is_due_fetch held kernel e
told_of held past kernel (event.Send tx to about (send.Fetch file block)) told = sym (ap not (told (record { kernel = kernel; file = file; block = block })))
told_of held past kernel (event.Send tx to about (send.Op file)) told = refl
told_of held past kernel _ told = refl

-- a fetch is judged by what is held
pub fetches_told : (c : Description) (judge : Fetches) (past : Past) (rec : Rec) → TellsHeld judge.held.keys past.records → fetches_well past rec.kernel rec.event ≡ is_due_fetch judge.held.keys rec.kernel rec.event
fetches_told c judge past rec told = told_of judge.held.keys past rec.kernel rec.event told

-- ---- names that are equal

pub file_is : (f g : FileId) → same_file f g ≡ true → f ≡ g
file_is f g h =
    let parts = and_parts (f.server == g.server) (f.number == g.number) h in
    ap₂ (λ s n. record { server = s; number = n }) (eqb-true f.server g.server parts.0) (eqb-true f.number g.number parts.1)

pub block_is : (b c : BlockNo) → (b.0 == c.0) ≡ true → b ≡ c
block_is b c h = ap (λ n. record { 0 = n }) (eqb-true b.0 c.0 h)

-- what two names of a block have in common
pub record Same (f g : FileId) (b c : BlockNo) : Type 0 where
  pub files : f ≡ g
  pub blocks : b ≡ c

pub same_of : (f g : FileId) (b c : BlockNo) → same_block f b g c ≡ true → Same f g b c
same_of f g b c h =
    let parts = and_parts (same_file f g) (b.0 == c.0) h in
    record { files = file_is f g parts.0; blocks = block_is b c parts.1 }

-- a file and a block of a kernel
pub use_is : (a b : FileAt) → same_use a b ≡ true → a ≡ b
use_is a b same =
    let parts = and_parts (a.kernel == b.kernel) (same_file a.file b.file) same in
    ap₂ (λ k f. record { kernel = k; file = f }) (eqb-true a.kernel b.kernel parts.0) (file_is a.file b.file parts.1)

pub place_is : (a b : BlockAt) → same_place a b ≡ true → a ≡ b
place_is a b same =
    let parts = and_parts (a.kernel == b.kernel) (same_block a.file a.block b.file b.block) same in
    let more = and_parts (same_file a.file b.file) (a.block.0 == b.block.0) parts.1 in
    ap₂ (λ k (x : FileId × BlockNo). record { kernel = k; file = x.0; block = x.1 }) (eqb-true a.kernel b.kernel parts.0) (ap₂ (λ f b. (f, b)) (file_is a.file b.file more.0) (block_is a.block b.block more.1))

-- ---- the blocks of one kernel

-- an item that is a block isn't another one
other_item : (f g : FileId) (b c : BlockNo) (x : HeldBlock) (p q : Bool) → is_block f b x ≡ p → is_block g c x ≡ q → same_block f b g c ≡ false → (not p && q) ≡ q
other_item f g b c x false q one two apart = refl
other_item f g b c x true false one two apart = refl
other_item f g b c x true true one two apart =
    let h = same_of x.file f x.block b one in
    let k = same_of x.file g x.block c two in
    let same : same_block f b g c ≡ same_block x.file x.block g c = ap₂ (λ h k. same_block h k g c) (sym h.files) (sym h.blocks) in
    absurd (cc (same, two, apart))

any_filtered : (f g : FileId) (b c : BlockNo) (x : HeldBlock) (xs : List HeldBlock) (keep : Bool) → not (is_block f b x) ≡ keep → (not (is_block f b x) && is_block g c x) ≡ is_block g c x → list_any (is_block g c) (without_block f b xs) ≡ list_any (is_block g c) xs → list_any (is_block g c) (cond keep (x ∷ without_block f b xs) (without_block f b xs)) ≡ (is_block g c x || list_any (is_block g c) xs)
any_filtered f g b c x xs true kept stays more = ap (λ t. is_block g c x || t) more
any_filtered f g b c x xs false kept stays more =
    let none : is_block g c x ≡ false = sym stays ∙ ap (λ t. t && is_block g c x) kept in
    more ∙ sym (ap (λ t. t || list_any (is_block g c) xs) none)

-- the others stay where one is taken out
others_stay : (f g : FileId) (b c : BlockNo) (xs : List HeldBlock) → same_block f b g c ≡ false → list_any (is_block g c) (without_block f b xs) ≡ list_any (is_block g c) xs
others_stay f g b c [] apart = refl
others_stay f g b c (x ∷ xs) apart =
    any_filtered f g b c x xs (not (is_block f b x)) refl (other_item f g b c x (is_block f b x) (is_block g c x) refl refl apart) (others_stay f g b c xs apart)

gone_at : (f : FileId) (b : BlockNo) (x : HeldBlock) (xs : List HeldBlock) (here : Bool) → is_block f b x ≡ here → list_any (is_block f b) (without_block f b xs) ≡ false → list_any (is_block f b) (cond (not here) (x ∷ without_block f b xs) (without_block f b xs)) ≡ false
gone_at f b x xs true is more = more
gone_at f b x xs false is more = ap (λ t. t || list_any (is_block f b) (without_block f b xs)) is ∙ more

-- and that one is gone
gone : (f : FileId) (b : BlockNo) (xs : List HeldBlock) → list_any (is_block f b) (without_block f b xs) ≡ false
gone f b [] = refl
gone f b (x ∷ xs) = ap (λ t. list_any (is_block f b) (cond (not t) (x ∷ without_block f b xs) (without_block f b xs))) refl ∙ gone_at f b x xs (is_block f b x) refl (gone f b xs)

-- whether one is there where one is taken out
without_any : (f g : FileId) (b c : BlockNo) (xs : List HeldBlock) (here : Bool) → same_block f b g c ≡ here → list_any (is_block g c) (without_block f b xs) ≡ cond here false (list_any (is_block g c) xs)
without_any f g b c xs true is =
    let h = same_of f g b c is in
    ap₂ (λ h k. list_any (is_block g c) (without_block h k xs)) h.files h.blocks ∙ gone g c xs
without_any f g b c xs false is = others_stay f g b c xs is

-- and where one is put first
filled_by : (f g : FileId) (b c : BlockNo) (bs : List HeldBlock) (here : Bool) → same_block f b g c ≡ here → (same_block f b g c || list_any (is_block g c) (without_block f b bs)) ≡ cond here true (list_any (is_block g c) bs)
filled_by f g b c bs true is = ap (λ t. t || list_any (is_block g c) (without_block f b bs)) is
filled_by f g b c bs false is = ap (λ t. t || list_any (is_block g c) (without_block f b bs)) is ∙ others_stay f g b c bs is

-- the mark of a block doesn't tell whether it is there
marked_any : (f g : FileId) (b c : BlockNo) (dirty : Bool) (xs : List HeldBlock) → list_any (is_block g c) (marked f b dirty xs) ≡ list_any (is_block g c) xs
marked_any f g b c dirty [] = refl
marked_any f g b c dirty (x ∷ xs) = ap₂ (λ t u. t || u) (by (is_block f b x)) (marked_any f g b c dirty xs)
  where
    by : (here : Bool) → is_block g c (cond here (record x { is_dirty = dirty }) x) ≡ is_block g c x
    by true = refl
    by false = refl

clean_any : (f g : FileId) (c : BlockNo) (xs : List HeldBlock) → list_any (is_block g c) (all_clean f xs) ≡ list_any (is_block g c) xs
clean_any f g c [] = refl
clean_any f g c (x ∷ xs) = ap₂ (λ t u. t || u) (by (same_file x.file f)) (clean_any f g c xs)
  where
    by : (here : Bool) → is_block g c (cond here (record x { is_dirty = false }) x) ≡ is_block g c x
    by true = refl
    by false = refl

recalled_any : (f g : FileId) (c : BlockNo) (xs : List HeldBlock) (b : Bool) → list_any (is_block g c) (cond b (all_clean f xs) xs) ≡ list_any (is_block g c) xs
recalled_any f g c xs true = clean_any f g c xs
recalled_any f g c xs false = refl

-- ---- one record more

-- of another kernel
elsewhere : (kernel : ℕ) (e : Event) (at : BlockAt) (before : Bool) → (kernel == at.kernel) ≡ false → before ≡ held_behind kernel e at before
elsewhere kernel (event.Filled f b) at before apart = sym (ap (λ t. cond (t && same_block f b at.file at.block) true before) apart)
elsewhere kernel (event.Dropped f b cause) at before apart = sym (ap (λ t. cond (t && same_block f b at.file at.block) false before) apart)
elsewhere kernel _ at before apart = refl

-- of the kernel itself
here : (kernel : ℕ) (e : Event) (at : BlockAt) (records : List Rec) (bs : List HeldBlock) → (kernel == at.kernel) ≡ true → list_any (is_block at.file at.block) (blocks_by at.kernel records e bs) ≡ held_behind kernel e at (list_any (is_block at.file at.block) bs)
here kernel (event.Filled f b) at records bs is =
    filled_by f at.file b at.block bs (same_block f b at.file at.block) refl
    ∙ sym (ap (λ t. cond (t && same_block f b at.file at.block) true (list_any (is_block at.file at.block) bs)) is)
here kernel (event.Dropped f b cause) at records bs is =
    without_any f at.file b at.block bs (same_block f b at.file at.block) refl
    ∙ sym (ap (λ t. cond (t && same_block f b at.file at.block) false (list_any (is_block at.file at.block) bs)) is)
here kernel (event.Dirtied f b) at records bs is = marked_any f at.file b at.block true bs
here kernel (event.WroteBack f b) at records bs is = marked_any f at.file b at.block false bs
here kernel (event.Mode f stamp mode) at records bs is =
    recalled_any f at.file at.block bs (list_any (has_event (is_recall_to at.kernel f stamp)) records)
here kernel _ at records bs is = refl

step_at : (kernel : ℕ) (e : Event) (at : BlockAt) (records : List Rec) (bs : List HeldBlock) (b : Bool) → (kernel == at.kernel) ≡ b → list_any (is_block at.file at.block) (cond b (blocks_by at.kernel records e bs) bs) ≡ held_behind kernel e at (list_any (is_block at.file at.block) bs)
step_at kernel e at records bs true is = here kernel e at records bs is
step_at kernel e at records bs false is = elsewhere kernel e at (list_any (is_block at.file at.block) bs) is

pub holds_more : (rec : Rec) (before after : List BlockAt) (records : List Rec) → TellsHeld before records → HoldsOn rec before after → TellsHeld after (records ++ rec ∷ [])
holds_more rec before after records told more at =
    more at
    ∙ ap (λ b. held_behind rec.kernel rec.event at b) (told at)
    ∙ sym (ap (list_any (is_block at.file at.block)) (look_backs_grow.blocks at.kernel records rec) ∙ step_at rec.kernel rec.event at records (held_of at.kernel records) (rec.kernel == at.kernel) refl)

pub holds_on : (c : Description) (old new : Fetches) (past : Past) (rec : Rec) → TellsHeld old.held.keys past.records → HoldsOn rec old.held.keys new.held.keys → TellsHeld new.held.keys (past_with c rec past).records
holds_on c old new past rec told more = holds_more rec old.held.keys new.held.keys past.records told more
