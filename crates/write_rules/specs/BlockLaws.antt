-- How many blocks of a scope are held, and how many are dirty, where one is put, taken out or marked.
use Rattle.std.proofs.Common.{◌≡◌, ◌∙◌, ℕ, ◌+◌, ◌==◌, Bool, true, false, cond, not, ◌&&◌, List, [], ◌∷◌, refl, sym, ap, ap₂, arith}
use Rattle.std.proofs.lemmas.Bool.{and_parts}
use Rattle.sprite_ids.specs.Lists.{one_if}
use Rattle.sprite_ids.specs.declared.names.FileId.{FileId}
use Rattle.sprite_ids.specs.declared.names.BlockNo.{BlockNo}
use Rattle.call_journal.specs.Matching.{same_file}
use Rattle.call_journal.specs.Files.{HeldBlock, is_block, without_block, marked, all_clean}
use Rattle.trace_rules.specs.PlaceLaws.{file_is, block_is}
use Rattle.write_rules.specs.declared.held.State.{State}
use Rattle.write_rules.specs.declared.held.State.TheVariants as state
use Rattle.write_rules.specs.Held.{held_in, dirty_in, any_block, of_file, of_block, held_one, dirty_one, dirtied, cleaned}

-- so many, where a test is met
abbrev pub where_so : Bool → ℕ → ℕ
where_so true n = n
where_so false n = 0

where_none : (s : Bool) → 0 ≡ where_so s 0
where_none true = refl
where_none false = refl

none_out : (s : Bool) → 0 + where_so s 0 ≡ 0
none_out true = refl
none_out false = refl

-- ---- names that are the same

-- what is told of a scope at a block that is this one
scope_at : (scope : FileId → BlockNo → Bool) (f : FileId) (b : BlockNo) (x : HeldBlock) → is_block f b x ≡ true → scope x.file x.block ≡ scope f b
scope_at scope f b x here =
    let parts = and_parts (same_file x.file f) (x.block.0 == b.0) here in
    ap₂ scope (file_is x.file f parts.0) (block_is x.block b parts.1)

-- ---- one is taken out

held_out : (s t : Bool) (w n h : ℕ) → t ≡ s → w + where_so s n ≡ h → w + where_so s (1 + n) ≡ one_if t + h
held_out true t w n h is more = let m = more in (omega (arith, m)) ∙ ap (λ b. one_if b + h) (sym is)
held_out false t w n h is more = let m = more in (omega (arith, m)) ∙ ap (λ b. one_if b + h) (sym is)

dirty_out : (s t d : Bool) (w n h : ℕ) → t ≡ s → w + where_so s n ≡ h → w + where_so s (one_if d + n) ≡ one_if (t && d) + h
dirty_out true t d w n h is more = let m = more in (omega (arith, m)) ∙ ap (λ b. one_if (b && d) + h) (sym is)
dirty_out false t d w n h is more = let m = more in (omega (arith, m)) ∙ ap (λ b. one_if (b && d) + h) (sym is)

goes_by : (s : Bool) (o w n h : ℕ) → w + where_so s n ≡ h → (o + w) + where_so s (0 + n) ≡ o + h
goes_by true o w n h more = omega (arith, more)
goes_by false o w n h more = omega (arith, more)

held_at : (scope : FileId → BlockNo → Bool) (f : FileId) (b : BlockNo) (x : HeldBlock) (xs : List HeldBlock) (here : Bool) → is_block f b x ≡ here → held_in scope (without_block f b xs) + where_so (scope f b) (held_in (of_block f b) xs) ≡ held_in scope xs → held_in scope (cond (not here) (x ∷ without_block f b xs) (without_block f b xs)) + where_so (scope f b) (one_if here + held_in (of_block f b) xs) ≡ one_if (scope x.file x.block) + held_in scope xs
held_at scope f b x xs true is more = held_out (scope f b) (scope x.file x.block) (held_in scope (without_block f b xs)) (held_in (of_block f b) xs) (held_in scope xs) (scope_at scope f b x is) more
held_at scope f b x xs false is more = goes_by (scope f b) (one_if (scope x.file x.block)) (held_in scope (without_block f b xs)) (held_in (of_block f b) xs) (held_in scope xs) more

held_without : (scope : FileId → BlockNo → Bool) (f : FileId) (b : BlockNo) (hs : List HeldBlock) → held_in scope (without_block f b hs) + where_so (scope f b) (held_in (of_block f b) hs) ≡ held_in scope hs
held_without scope f b [] = none_out (scope f b)
held_without scope f b (x ∷ xs) = held_at scope f b x xs (is_block f b x) refl (held_without scope f b xs)

dirty_at : (scope : FileId → BlockNo → Bool) (f : FileId) (b : BlockNo) (x : HeldBlock) (xs : List HeldBlock) (here : Bool) → is_block f b x ≡ here → dirty_in scope (without_block f b xs) + where_so (scope f b) (dirty_in (of_block f b) xs) ≡ dirty_in scope xs → dirty_in scope (cond (not here) (x ∷ without_block f b xs) (without_block f b xs)) + where_so (scope f b) (one_if (here && x.is_dirty) + dirty_in (of_block f b) xs) ≡ one_if (scope x.file x.block && x.is_dirty) + dirty_in scope xs
dirty_at scope f b x xs true is more = dirty_out (scope f b) (scope x.file x.block) x.is_dirty (dirty_in scope (without_block f b xs)) (dirty_in (of_block f b) xs) (dirty_in scope xs) (scope_at scope f b x is) more
dirty_at scope f b x xs false is more = goes_by (scope f b) (one_if (scope x.file x.block && x.is_dirty)) (dirty_in scope (without_block f b xs)) (dirty_in (of_block f b) xs) (dirty_in scope xs) more

dirty_without : (scope : FileId → BlockNo → Bool) (f : FileId) (b : BlockNo) (hs : List HeldBlock) → dirty_in scope (without_block f b hs) + where_so (scope f b) (dirty_in (of_block f b) hs) ≡ dirty_in scope hs
dirty_without scope f b [] = none_out (scope f b)
dirty_without scope f b (x ∷ xs) = dirty_at scope f b x xs (is_block f b x) refl (dirty_without scope f b xs)

-- ---- one is marked

held_marked : (scope : FileId → BlockNo → Bool) (f : FileId) (b : BlockNo) (dirty : Bool) (hs : List HeldBlock) → held_in scope (marked f b dirty hs) ≡ held_in scope hs
held_marked scope f b dirty [] = refl
held_marked scope f b dirty (x ∷ xs) = ap₂ (λ o n. o + n) (by (is_block f b x)) (held_marked scope f b dirty xs)
  where
    by : (here : Bool) → one_if (scope (cond here (record x { is_dirty = dirty }) x).file (cond here (record x { is_dirty = dirty }) x).block) ≡ one_if (scope x.file x.block)
    by true = refl
    by false = refl

-- dirty: those that were dirty before, and that one, if it is held
made_out : (s t d : Bool) (w n m h : ℕ) → t ≡ s → w + where_so s n ≡ h + where_so s m → (one_if (t && true) + w) + where_so s (one_if d + n) ≡ (one_if (t && d) + h) + where_so s (1 + m)
made_out true t d w n m h is more =
    let e = more in
    ap (λ b. (one_if (b && true) + w) + (one_if d + n)) is
    ∙ omega (arith, e)
    ∙ ap (λ b. (one_if (b && d) + h) + (1 + m)) (sym is)
made_out false t d w n m h is more =
    let e = more in
    ap (λ b. (one_if (b && true) + w) + 0) is
    ∙ omega (arith, e)
    ∙ ap (λ b. (one_if (b && d) + h) + 0) (sym is)

made_by : (s : Bool) (o w n m h : ℕ) → w + where_so s n ≡ h + where_so s m → (o + w) + where_so s (0 + n) ≡ (o + h) + where_so s (0 + m)
made_by true o w n m h more = omega (arith, more)
made_by false o w n m h more = omega (arith, more)

made_at : (scope : FileId → BlockNo → Bool) (f : FileId) (b : BlockNo) (x y : HeldBlock) (xs : List HeldBlock) (here : Bool) → is_block f b x ≡ here → y ≡ cond here (record x { is_dirty = true }) x → dirty_in scope (marked f b true xs) + where_so (scope f b) (dirty_in (of_block f b) xs) ≡ dirty_in scope xs + where_so (scope f b) (held_in (of_block f b) xs) → (one_if (scope y.file y.block && y.is_dirty) + dirty_in scope (marked f b true xs)) + where_so (scope f b) (one_if (here && x.is_dirty) + dirty_in (of_block f b) xs) ≡ (one_if (scope x.file x.block && x.is_dirty) + dirty_in scope xs) + where_so (scope f b) (one_if here + held_in (of_block f b) xs)
made_at scope f b x y xs true is new more =
    ap (λ (z : HeldBlock). (one_if (scope z.file z.block && z.is_dirty) + dirty_in scope (marked f b true xs)) + where_so (scope f b) (one_if x.is_dirty + dirty_in (of_block f b) xs)) new
    ∙ made_out (scope f b) (scope x.file x.block) x.is_dirty (dirty_in scope (marked f b true xs)) (dirty_in (of_block f b) xs) (held_in (of_block f b) xs) (dirty_in scope xs) (scope_at scope f b x is) more
made_at scope f b x y xs false is new more =
    ap (λ (z : HeldBlock). (one_if (scope z.file z.block && z.is_dirty) + dirty_in scope (marked f b true xs)) + where_so (scope f b) (0 + dirty_in (of_block f b) xs)) new
    ∙ made_by (scope f b) (one_if (scope x.file x.block && x.is_dirty)) (dirty_in scope (marked f b true xs)) (dirty_in (of_block f b) xs) (held_in (of_block f b) xs) (dirty_in scope xs) more

dirty_marked : (scope : FileId → BlockNo → Bool) (f : FileId) (b : BlockNo) (hs : List HeldBlock) → dirty_in scope (marked f b true hs) + where_so (scope f b) (dirty_in (of_block f b) hs) ≡ dirty_in scope hs + where_so (scope f b) (held_in (of_block f b) hs)
dirty_marked scope f b [] = refl
dirty_marked scope f b (x ∷ xs) = made_at scope f b x (cond (is_block f b x) (record x { is_dirty = true }) x) xs (is_block f b x) refl refl (dirty_marked scope f b xs)

-- clean: those that were dirty before, but for that one
washed_out : (s t d : Bool) (w n h : ℕ) → t ≡ s → w + where_so s n ≡ h → (one_if (t && false) + w) + where_so s (one_if d + n) ≡ one_if (t && d) + h
washed_out true t d w n h is more =
    let e = more in
    ap (λ b. (one_if (b && false) + w) + (one_if d + n)) is
    ∙ omega (arith, e)
    ∙ ap (λ b. one_if (b && d) + h) (sym is)
washed_out false t d w n h is more =
    let e = more in
    ap (λ b. (one_if (b && false) + w) + 0) is
    ∙ omega (arith, e)
    ∙ ap (λ b. one_if (b && d) + h) (sym is)

washed_at : (scope : FileId → BlockNo → Bool) (f : FileId) (b : BlockNo) (x y : HeldBlock) (xs : List HeldBlock) (here : Bool) → is_block f b x ≡ here → y ≡ cond here (record x { is_dirty = false }) x → dirty_in scope (marked f b false xs) + where_so (scope f b) (dirty_in (of_block f b) xs) ≡ dirty_in scope xs → (one_if (scope y.file y.block && y.is_dirty) + dirty_in scope (marked f b false xs)) + where_so (scope f b) (one_if (here && x.is_dirty) + dirty_in (of_block f b) xs) ≡ one_if (scope x.file x.block && x.is_dirty) + dirty_in scope xs
washed_at scope f b x y xs true is new more =
    ap (λ (z : HeldBlock). (one_if (scope z.file z.block && z.is_dirty) + dirty_in scope (marked f b false xs)) + where_so (scope f b) (one_if x.is_dirty + dirty_in (of_block f b) xs)) new
    ∙ washed_out (scope f b) (scope x.file x.block) x.is_dirty (dirty_in scope (marked f b false xs)) (dirty_in (of_block f b) xs) (dirty_in scope xs) (scope_at scope f b x is) more
washed_at scope f b x y xs false is new more =
    ap (λ (z : HeldBlock). (one_if (scope z.file z.block && z.is_dirty) + dirty_in scope (marked f b false xs)) + where_so (scope f b) (0 + dirty_in (of_block f b) xs)) new
    ∙ goes_by (scope f b) (one_if (scope x.file x.block && x.is_dirty)) (dirty_in scope (marked f b false xs)) (dirty_in (of_block f b) xs) (dirty_in scope xs) more

dirty_washed : (scope : FileId → BlockNo → Bool) (f : FileId) (b : BlockNo) (hs : List HeldBlock) → dirty_in scope (marked f b false hs) + where_so (scope f b) (dirty_in (of_block f b) hs) ≡ dirty_in scope hs
dirty_washed scope f b [] = none_out (scope f b)
dirty_washed scope f b (x ∷ xs) = washed_at scope f b x (cond (is_block f b x) (record x { is_dirty = false }) x) xs (is_block f b x) refl refl (dirty_washed scope f b xs)

-- ---- all of a file are clean

pub held_clean : (scope : FileId → BlockNo → Bool) (f : FileId) (hs : List HeldBlock) → held_in scope (all_clean f hs) ≡ held_in scope hs
held_clean scope f [] = refl
held_clean scope f (x ∷ xs) = ap₂ (λ o n. o + n) (by (same_file x.file f)) (held_clean scope f xs)
  where
    by : (here : Bool) → one_if (scope (cond here (record x { is_dirty = false }) x).file (cond here (record x { is_dirty = false }) x).block) ≡ one_if (scope x.file x.block)
    by true = refl
    by false = refl

-- of all blocks
pub dirty_clean : (f : FileId) (hs : List HeldBlock) → dirty_in any_block (all_clean f hs) + dirty_in (of_file f) hs ≡ dirty_in any_block hs
dirty_clean f [] = refl
dirty_clean f (x ∷ xs) = by (same_file x.file f) (dirty_clean f xs)
  where
    by : (here : Bool) → dirty_in any_block (all_clean f xs) + dirty_in (of_file f) xs ≡ dirty_in any_block xs → (one_if (cond here (record x { is_dirty = false }) x).is_dirty + dirty_in any_block (all_clean f xs)) + (one_if (here && x.is_dirty) + dirty_in (of_file f) xs) ≡ one_if x.is_dirty + dirty_in any_block xs
    by true more = omega (arith, more)
    by false more = omega (arith, more)

-- of a scope that lies in the file, or beside it
clean_at : (scope : FileId → BlockNo → Bool) (f : FileId) (inside : Bool) (x y : HeldBlock) (xs : List HeldBlock) (here t : Bool) → same_file x.file f ≡ here → scope x.file x.block ≡ t → (t ≡ true → here ≡ inside) → y ≡ cond here (record x { is_dirty = false }) x → dirty_in scope (all_clean f xs) ≡ where_so (not inside) (dirty_in scope xs) → one_if (scope y.file y.block && y.is_dirty) + dirty_in scope (all_clean f xs) ≡ where_so (not inside) (one_if (scope x.file x.block && x.is_dirty) + dirty_in scope xs)
clean_at scope f inside x y xs true false is at lies new more =
    ap (λ (z : HeldBlock). one_if (scope z.file z.block && z.is_dirty) + dirty_in scope (all_clean f xs)) new
    ∙ ap (λ b. one_if (b && false) + dirty_in scope (all_clean f xs)) at
    ∙ by inside more
    ∙ ap (λ b. where_so (not inside) (one_if (b && x.is_dirty) + dirty_in scope xs)) (sym at)
  where
    by : (b : Bool) → dirty_in scope (all_clean f xs) ≡ where_so (not b) (dirty_in scope xs) → 0 + dirty_in scope (all_clean f xs) ≡ where_so (not b) (0 + dirty_in scope xs)
    by true more = omega (arith, more)
    by false more = omega (arith, more)
clean_at scope f inside x y xs false false is at lies new more =
    ap (λ (z : HeldBlock). one_if (scope z.file z.block && z.is_dirty) + dirty_in scope (all_clean f xs)) new
    ∙ ap (λ b. one_if (b && x.is_dirty) + dirty_in scope (all_clean f xs)) at
    ∙ by inside more
    ∙ ap (λ b. where_so (not inside) (one_if (b && x.is_dirty) + dirty_in scope xs)) (sym at)
  where
    by : (b : Bool) → dirty_in scope (all_clean f xs) ≡ where_so (not b) (dirty_in scope xs) → 0 + dirty_in scope (all_clean f xs) ≡ where_so (not b) (0 + dirty_in scope xs)
    by true more = omega (arith, more)
    by false more = omega (arith, more)
clean_at scope f true x y xs true true is at lies new more =
    ap (λ (z : HeldBlock). one_if (scope z.file z.block && z.is_dirty) + dirty_in scope (all_clean f xs)) new
    ∙ ap (λ b. one_if (b && false) + dirty_in scope (all_clean f xs)) at
    ∙ omega (arith, more)
clean_at scope f false x y xs true true is at lies new more = absurd (cc (lies refl))
clean_at scope f true x y xs false true is at lies new more = absurd (cc (lies refl))
clean_at scope f false x y xs false true is at lies new more =
    ap (λ (z : HeldBlock). one_if (scope z.file z.block && z.is_dirty) + dirty_in scope (all_clean f xs)) new
    ∙ ap (λ n. one_if (scope x.file x.block && x.is_dirty) + n) more

pub clean_in : (scope : FileId → BlockNo → Bool) (f : FileId) (inside : Bool) (hs : List HeldBlock) → ((g : FileId) (c : BlockNo) → scope g c ≡ true → same_file g f ≡ inside) → dirty_in scope (all_clean f hs) ≡ where_so (not inside) (dirty_in scope hs)
clean_in scope f inside [] lies = where_none (not inside)
clean_in scope f inside (x ∷ xs) lies = clean_at scope f inside x (cond (same_file x.file f) (record x { is_dirty = false }) x) xs (same_file x.file f) (scope x.file x.block) refl refl (λ is. lies x.file x.block is) refl (clean_in scope f inside xs lies)

-- ---- a block's change

-- the blocks behind the change of one from a state to another
pub record Moves (f : FileId) (b : BlockNo) (was next : State) (before behind : List HeldBlock) : Type 0 where
  pub held : (scope : FileId → BlockNo → Bool) → held_in scope behind + where_so (scope f b) (held_one was) ≡ held_in scope before + where_so (scope f b) (held_one next)
  pub dirty : (scope : FileId → BlockNo → Bool) → dirty_in scope behind + where_so (scope f b) (dirty_one was) ≡ dirty_in scope before + where_so (scope f b) (dirty_one next)

-- the state of a block is that in a list
pub record IsState (f : FileId) (b : BlockNo) (was : State) (hs : List HeldBlock) : Type 0 where
  pub held : held_one was ≡ held_in (of_block f b) hs
  pub dirty : dirty_one was ≡ dirty_in (of_block f b) hs

put_first : (s : Bool) (w n h : ℕ) → w + where_so s n ≡ h → (one_if s + w) + where_so s n ≡ h + where_so s 1
put_first true w n h more = omega (arith, more)
put_first false w n h more = omega (arith, more)

put_clean : (s : Bool) (w n h : ℕ) → w + where_so s n ≡ h → (one_if (s && false) + w) + where_so s n ≡ h + where_so s 0
put_clean true w n h more = omega (arith, more)
put_clean false w n h more = omega (arith, more)

none_put : (s : Bool) (w n h : ℕ) → w + where_so s n ≡ h → w + where_so s n ≡ h + where_so s 0
none_put true w n h more = omega (arith, more)
none_put false w n h more = omega (arith, more)

pub filled_moves : (f : FileId) (b : BlockNo) (was : State) (hs : List HeldBlock) → IsState f b was hs → Moves f b was state.Clean hs (record { file = f; block = b; is_dirty = false } ∷ without_block f b hs)
filled_moves f b was hs is = record {
  held = λ scope. put_first (scope f b) (held_in scope (without_block f b hs)) (held_one was) (held_in scope hs) (ap (λ n. held_in scope (without_block f b hs) + where_so (scope f b) n) is.held ∙ held_without scope f b hs);
  dirty = λ scope. put_clean (scope f b) (dirty_in scope (without_block f b hs)) (dirty_one was) (dirty_in scope hs) (ap (λ n. dirty_in scope (without_block f b hs) + where_so (scope f b) n) is.dirty ∙ dirty_without scope f b hs);
}

pub dropped_moves : (f : FileId) (b : BlockNo) (was : State) (hs : List HeldBlock) → IsState f b was hs → Moves f b was state.Absent hs (without_block f b hs)
dropped_moves f b was hs is = record {
  held = λ scope. none_put (scope f b) (held_in scope (without_block f b hs)) (held_one was) (held_in scope hs) (ap (λ n. held_in scope (without_block f b hs) + where_so (scope f b) n) is.held ∙ held_without scope f b hs);
  dirty = λ scope. none_put (scope f b) (dirty_in scope (without_block f b hs)) (dirty_one was) (dirty_in scope hs) (ap (λ n. dirty_in scope (without_block f b hs) + where_so (scope f b) n) is.dirty ∙ dirty_without scope f b hs);
}

dirtied_held : (was : State) → held_one (dirtied was) ≡ held_one was
dirtied_held state.Absent = refl
dirtied_held state.Clean = refl
dirtied_held state.Dirty = refl

dirtied_dirty : (was : State) → dirty_one (dirtied was) ≡ held_one was
dirtied_dirty state.Absent = refl
dirtied_dirty state.Clean = refl
dirtied_dirty state.Dirty = refl

cleaned_held : (was : State) → held_one (cleaned was) ≡ held_one was
cleaned_held state.Absent = refl
cleaned_held state.Clean = refl
cleaned_held state.Dirty = refl

cleaned_dirty : (was : State) → dirty_one (cleaned was) ≡ 0
cleaned_dirty state.Absent = refl
cleaned_dirty state.Clean = refl
cleaned_dirty state.Dirty = refl

pub dirtied_moves : (f : FileId) (b : BlockNo) (was : State) (hs : List HeldBlock) → IsState f b was hs → Moves f b was (dirtied was) hs (marked f b true hs)
dirtied_moves f b was hs is = record {
  held = λ scope. ap₂ (λ m n. m + where_so (scope f b) n) (held_marked scope f b true hs) (sym (dirtied_held was));
  dirty = λ scope.
      ap (λ n. dirty_in scope (marked f b true hs) + where_so (scope f b) n) is.dirty
      ∙ dirty_marked scope f b hs
      ∙ ap (λ n. dirty_in scope hs + where_so (scope f b) n) (sym (dirtied_dirty was ∙ is.held));
}

pub wrote_moves : (f : FileId) (b : BlockNo) (was : State) (hs : List HeldBlock) → IsState f b was hs → Moves f b was (cleaned was) hs (marked f b false hs)
wrote_moves f b was hs is = record {
  held = λ scope. ap₂ (λ m n. m + where_so (scope f b) n) (held_marked scope f b false hs) (sym (cleaned_held was));
  dirty = λ scope.
      none_put (scope f b) (dirty_in scope (marked f b false hs)) (dirty_one was) (dirty_in scope hs) (ap (λ n. dirty_in scope (marked f b false hs) + where_so (scope f b) n) is.dirty ∙ dirty_washed scope f b hs)
      ∙ ap (λ n. dirty_in scope hs + where_so (scope f b) n) (sym (cleaned_dirty was));
}
