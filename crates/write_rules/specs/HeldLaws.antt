-- The blocks that kernels hold are told record by record.
use Rattle.std.proofs.Common.{◌≡◌, ◌∙◌, ◌≤◌, ℕ, ◌+◌, ◌-◌, ◌==◌, Bool, true, false, cond, not, ◌&&◌, List, [], ◌∷◌, ◌++◌, Option, Some, None, nat_le, nat_lt, length, count_by, refl, sym, ap, ap₂, subst, arith}
use Rattle.std.specs.List.{list_any}
use Rattle.std.proofs.lemmas.Bool.{and_parts, eqb-true, eq-eqb, le-ltb, lt-ltb}
use Rattle.std.proofs.lemmas.List.Sums.{sum_by-append}
use Rattle.sprite_ids.specs.Lists.{one_if}
use Rattle.sprite_ids.specs.declared.caching.CallKind.TheVariants as kind
use Rattle.sprite_ids.specs.declared.names.FileId.{FileId}
use Rattle.sprite_ids.specs.declared.names.BlockNo.{BlockNo}
use Rattle.unix_calls.specs.declared.description.Description.{Description}
use Rattle.unix_calls.specs.declared.event.Event.{Event}
use Rattle.unix_calls.specs.declared.event.Event.TheVariants as event
use Rattle.unix_calls.specs.declared.event.Rec.{Rec}
use Rattle.call_journal.specs.Matching.{same_file, same_block, has_event}
use Rattle.call_journal.specs.Files.{HeldBlock, all_clean, blocks_by, is_recall_to, held_of}
use Rattle.call_journal.specs.WriteBacks.{is_clean, is_pressed}
use Rattle.call_journal.proofs.GrowthLaws.{look_backs_grow}
use Rattle.write_rules.specs.declared.held.FileCounts.{FileCounts}
use Rattle.write_rules.specs.declared.held.Held.{Held}
use Rattle.write_rules.specs.declared.held.State.{State}
use Rattle.write_rules.specs.declared.held.State.TheVariants as state
use Rattle.trace_rules.specs.declared.place.BlockAt.{BlockAt}
use Rattle.trace_rules.specs.declared.place.FileAt.{FileAt}
use Rattle.trace_rules.specs.declared.place.StampAt.{StampAt}
use Rattle.trace_rules.specs.Lists.{any_more}
use Rattle.trace_rules.specs.PlaceLaws.{file_is, use_is, place_is}
use Rattle.trace_rules.specs.Places.{same_place, same_use, file_of, has_stamp}
use Rattle.write_rules.specs.Held.{mark_at, file_kept, file_or, file_counts, counts_kept, counts_or, counts_at, state_by, state_in, is_pressed_in, dirtied, cleaned, held_one, dirty_one, counts_moved, file_moved, mark_for, Puts, Cleans, Notes, Keeps, TakesBy, HeldBy, HeldOn, held_in, dirty_in, any_block, of_file, of_block, mark_or, TellsHeld}
use Rattle.write_rules.specs.BlockLaws.{where_so, held_clean, dirty_clean, clean_in, Moves, filled_moves, dropped_moves, dirtied_moves, wrote_moves}

-- ---- looking

count_first : (test : HeldBlock → Bool) (x : HeldBlock) (xs : List HeldBlock) → count_by test (x ∷ xs) ≡ one_if (test x) + count_by test xs
count_first test x xs = sum_by-append (λ (h : HeldBlock). cond {A = ℕ} (test h) 1 0) (x ∷ []) xs ∙ ap (λ n. n + count_by test xs) (by (test x))
  where
    by : (b : Bool) → 0 + cond {A = ℕ} b 1 0 ≡ one_if b
    by true = refl
    by false = refl

-- all blocks, and the clean ones
all_held : (hs : List HeldBlock) → held_in any_block hs ≡ length hs
all_held [] = refl
all_held (x ∷ xs) = let more = all_held xs in omega (arith, more)

clean_ones : (hs : List HeldBlock) → count_by is_clean hs + dirty_in any_block hs ≡ length hs
clean_ones [] = refl
clean_ones (x ∷ xs) = ap (λ n. n + (one_if x.is_dirty + dirty_in any_block xs)) (count_first is_clean x xs) ∙ by x.is_dirty (clean_ones xs)
  where
    by : (d : Bool) → count_by is_clean xs + dirty_in any_block xs ≡ length xs → (one_if (not d) + count_by is_clean xs) + (one_if d + dirty_in any_block xs) ≡ length (x ∷ xs)
    by true more = omega (arith, more)
    by false more = omega (arith, more)

-- how many blocks a kernel holds is told by its count, and whether its cache is full, with few clean blocks
pub count_told : (held : Held) (records : List Rec) (kernel : ℕ) → TellsHeld held records → (counts_at held.kernels.entries kernel).held ≡ length (held_of kernel records)
count_told held records kernel told = told.kernels_held kernel ∙ all_held (held_of kernel records)

pub pressed_told : (c : Description) (held : Held) (records : List Rec) (kernel : ℕ) → TellsHeld held records → is_pressed_in c (counts_at held.kernels.entries kernel) ≡ is_pressed c kernel records
pressed_told c held records kernel told =
    let all = count_told held records kernel told in
    let dirty = told.kernels_dirty kernel in
    let clean = clean_ones (held_of kernel records) in
    let few : (counts_at held.kernels.entries kernel).held - (counts_at held.kernels.entries kernel).dirty ≡ count_by is_clean (held_of kernel records) = omega (arith, all, dirty, clean) in
    ap₂ (λ n m. n == c.cache && nat_le m 4) all few

-- ---- a block's state is another

-- the lists of all kernels, where one block's state changes
record ListsMove (at : BlockAt) (was next : State) (before behind : List Rec) : Type 0 where
  pub own : Moves at.file at.block was next (held_of at.kernel before) (held_of at.kernel behind)
  pub others : (kernel : ℕ) → (at.kernel == kernel) ≡ false → held_of kernel behind ≡ held_of kernel before
  pub recalls : (o : StampAt) → list_any (has_event (is_recall_to o.kernel o.file o.stamp)) behind ≡ list_any (has_event (is_recall_to o.kernel o.file o.stamp)) before

-- the recalls of a file stay
recalls_stay : (at : BlockAt) (next : State) (old new : Held) (o : FileAt) (b : Bool) → Puts at next old new → same_use (file_of at) o ≡ b → (file_counts new.files.entries o).recalls ≡ (file_counts old.files.entries o).recalls
recalls_stay at next old new o true puts same =
    ap (λ k. (file_or k).recalls) (puts.files o ∙ ap (λ b. cond b (Some (file_moved (state_in old.blocks.entries old.files.entries at) next (file_counts old.files.entries (file_of at)))) (file_kept old.files.entries o)) same)
    ∙ ap (λ (p : FileAt). (file_counts old.files.entries p).recalls) (use_is (file_of at) o same)
recalls_stay at next old new o false puts same =
    ap (λ k. (file_or k).recalls) (puts.files o ∙ ap (λ b. cond b (Some (file_moved (state_in old.blocks.entries old.files.entries at) next (file_counts old.files.entries (file_of at)))) (file_kept old.files.entries o)) same)

state_put : (next : State) (recalls : ℕ) → state_by (mark_for next recalls) recalls ≡ next
state_put state.Absent recalls = refl
state_put state.Clean recalls = ap (λ b. cond b state.Dirty state.Clean) (le-ltb recalls 0 (omega arith))
state_put state.Dirty recalls = ap (λ b. cond b state.Dirty state.Clean) (lt-ltb recalls (recalls + 1) (omega arith))

state_now : (at : BlockAt) (next : State) (old new : Held) (o : BlockAt) (b : Bool) → Puts at next old new → same_place at o ≡ b → state_in new.blocks.entries new.files.entries o ≡ cond b next (state_in old.blocks.entries old.files.entries o)
state_now at next old new o true puts same =
    let marks = puts.blocks o ∙ ap (λ b. cond b (mark_for next (file_counts old.files.entries (file_of at)).recalls) (mark_at old.blocks.entries o)) same in
    let recalls = recalls_stay at next old new (file_of o) (same_use (file_of at) (file_of o)) puts refl ∙ sym (ap (λ (p : BlockAt). (file_counts old.files.entries (file_of p)).recalls) (place_is at o same)) in
    ap₂ state_by marks recalls ∙ state_put next (file_counts old.files.entries (file_of at)).recalls
state_now at next old new o false puts same =
    let marks = puts.blocks o ∙ ap (λ b. cond b (mark_for next (file_counts old.files.entries (file_of at)).recalls) (mark_at old.blocks.entries o)) same in
    ap₂ state_by marks (recalls_stay at next old new (file_of o) (same_use (file_of at) (file_of o)) puts refl)

mark_low : (next : State) (recalls : ℕ) → mark_or (mark_for next recalls) ≤ recalls + 1
mark_low state.Absent recalls = omega arith
mark_low state.Clean recalls = omega arith
mark_low state.Dirty recalls = omega arith

marks_low : (at : BlockAt) (next : State) (old new : Held) (records : List Rec) (o : BlockAt) (b : Bool) → TellsHeld old records → Puts at next old new → same_place at o ≡ b → mark_or (mark_at new.blocks.entries o) ≤ (file_counts new.files.entries (file_of o)).recalls + 1
marks_low at next old new records o true told puts same =
    let marks = ap mark_or (puts.blocks o ∙ ap (λ b. cond b (mark_for next (file_counts old.files.entries (file_of at)).recalls) (mark_at old.blocks.entries o)) same) in
    let recalls = recalls_stay at next old new (file_of o) (same_use (file_of at) (file_of o)) puts refl ∙ sym (ap (λ (p : BlockAt). (file_counts old.files.entries (file_of p)).recalls) (place_is at o same)) in
    let low = mark_low next (file_counts old.files.entries (file_of at)).recalls in
    omega (arith, marks, recalls, low)
marks_low at next old new records o false told puts same =
    let marks = ap mark_or (puts.blocks o ∙ ap (λ b. cond b (mark_for next (file_counts old.files.entries (file_of at)).recalls) (mark_at old.blocks.entries o)) same) in
    let recalls = recalls_stay at next old new (file_of o) (same_use (file_of at) (file_of o)) puts refl in
    let low = told.marks o in
    omega (arith, marks, recalls, low)

-- a block of the kernel, by its list: the one that changes, or another
block_one : (s : Bool) (new was next behind before : ℕ) → new ≡ cond s next before → (s ≡ true → was ≡ before) → behind + where_so s was ≡ before + where_so s next → new ≡ behind
block_one true new was next behind before is same moves = let w = same refl in omega (arith, is, w, moves)
block_one false new was next behind before is same moves = omega (arith, is, moves)

puts_told : (at : BlockAt) (next : State) (old new : Held) (before behind : List Rec) → TellsHeld old before → Puts at next old new → ListsMove at (state_in old.blocks.entries old.files.entries at) next before behind → TellsHeld new behind
puts_told at next old new before behind told puts lists = record {
  blocks_held = λ o. held_by o (at.kernel == o.kernel) refl;
  blocks_dirty = λ o. dirty_by o (at.kernel == o.kernel) refl;
  marks = λ o. marks_low at next old new before o (same_place at o) told puts refl;
  files_dirty = λ o. file_by o (at.kernel == o.kernel) refl;
  kernels_held = λ kernel. kernel_by kernel (at.kernel == kernel) refl;
  kernels_dirty = λ kernel. dirty_kernel kernel (at.kernel == kernel) refl;
  recalled = λ o. ap (λ ks. has_stamp ks o) puts.recalled ∙ told.recalled o ∙ sym (lists.recalls o);
}
  where
    by_state : (f : State → ℕ) (s : Bool) (x : State) → f (cond s next x) ≡ cond s (f next) (f x)
    by_state f true x = refl
    by_state f false x = refl

    held_by : (o : BlockAt) (k : Bool) → (at.kernel == o.kernel) ≡ k → held_one (state_in new.blocks.entries new.files.entries o) ≡ held_in (of_block o.file o.block) (held_of o.kernel behind)
    held_by o true k =
        let same : same_place at o ≡ same_block at.file at.block o.file o.block = ap (λ b. b && same_block at.file at.block o.file o.block) k in
        let is = ap held_one (state_now at next old new o (same_block at.file at.block o.file o.block) puts same) ∙ by_state held_one (same_block at.file at.block o.file o.block) (state_in old.blocks.entries old.files.entries o) in
        let own = lists.own.held (of_block o.file o.block) in
        let here = told.blocks_held o in
        let kernel = eqb-true at.kernel o.kernel k in
        block_one (same_block at.file at.block o.file o.block) (held_one (state_in new.blocks.entries new.files.entries o)) (held_one (state_in old.blocks.entries old.files.entries at)) (held_one next) (held_in (of_block o.file o.block) (held_of o.kernel behind)) (held_in (of_block o.file o.block) (held_of o.kernel before)) (is ∙ ap (λ n. cond (same_block at.file at.block o.file o.block) (held_one next) n) here) (λ s. ap (λ (p : BlockAt). held_one (state_in old.blocks.entries old.files.entries p)) (place_is at o (same ∙ s)) ∙ here) (subst (λ (k : ℕ). held_in (of_block o.file o.block) (held_of k behind) + where_so (same_block at.file at.block o.file o.block) (held_one (state_in old.blocks.entries old.files.entries at)) ≡ held_in (of_block o.file o.block) (held_of k before) + where_so (same_block at.file at.block o.file o.block) (held_one next)) kernel own)
    held_by o false k =
        ap held_one (state_now at next old new o false puts (ap (λ b. b && same_block at.file at.block o.file o.block) k))
        ∙ told.blocks_held o
        ∙ sym (ap (held_in (of_block o.file o.block)) (lists.others o.kernel k))

    dirty_by : (o : BlockAt) (k : Bool) → (at.kernel == o.kernel) ≡ k → dirty_one (state_in new.blocks.entries new.files.entries o) ≡ dirty_in (of_block o.file o.block) (held_of o.kernel behind)
    dirty_by o true k =
        let same : same_place at o ≡ same_block at.file at.block o.file o.block = ap (λ b. b && same_block at.file at.block o.file o.block) k in
        let is = ap dirty_one (state_now at next old new o (same_block at.file at.block o.file o.block) puts same) ∙ by_state dirty_one (same_block at.file at.block o.file o.block) (state_in old.blocks.entries old.files.entries o) in
        let own = lists.own.dirty (of_block o.file o.block) in
        let here = told.blocks_dirty o in
        let kernel = eqb-true at.kernel o.kernel k in
        block_one (same_block at.file at.block o.file o.block) (dirty_one (state_in new.blocks.entries new.files.entries o)) (dirty_one (state_in old.blocks.entries old.files.entries at)) (dirty_one next) (dirty_in (of_block o.file o.block) (held_of o.kernel behind)) (dirty_in (of_block o.file o.block) (held_of o.kernel before)) (is ∙ ap (λ n. cond (same_block at.file at.block o.file o.block) (dirty_one next) n) here) (λ s. ap (λ (p : BlockAt). dirty_one (state_in old.blocks.entries old.files.entries p)) (place_is at o (same ∙ s)) ∙ here) (subst (λ (k : ℕ). dirty_in (of_block o.file o.block) (held_of k behind) + where_so (same_block at.file at.block o.file o.block) (dirty_one (state_in old.blocks.entries old.files.entries at)) ≡ dirty_in (of_block o.file o.block) (held_of k before) + where_so (same_block at.file at.block o.file o.block) (dirty_one next)) kernel own)
    dirty_by o false k =
        ap dirty_one (state_now at next old new o false puts (ap (λ b. b && same_block at.file at.block o.file o.block) k))
        ∙ told.blocks_dirty o
        ∙ sym (ap (dirty_in (of_block o.file o.block)) (lists.others o.kernel k))

    file_at : (o : FileAt) (s : Bool) → at.kernel ≡ o.kernel → same_use (file_of at) o ≡ s → same_file at.file o.file ≡ s → (file_counts new.files.entries o).dirty ≡ dirty_in (of_file o.file) (held_of o.kernel behind)
    file_at o true kernel same file =
        let is = ap (λ k. (file_or k).dirty) (puts.files o ∙ ap (λ b. cond b (Some (file_moved (state_in old.blocks.entries old.files.entries at) next (file_counts old.files.entries (file_of at)))) (file_kept old.files.entries o)) same) in
        let here = ap (λ (p : FileAt). (file_counts old.files.entries p).dirty) (use_is (file_of at) o same) ∙ told.files_dirty o in
        let own = subst (λ (k : ℕ). dirty_in (of_file o.file) (held_of k behind) + where_so true (dirty_one (state_in old.blocks.entries old.files.entries at)) ≡ dirty_in (of_file o.file) (held_of k before) + where_so true (dirty_one next)) kernel (subst (λ (b : Bool). dirty_in (of_file o.file) (held_of at.kernel behind) + where_so b (dirty_one (state_in old.blocks.entries old.files.entries at)) ≡ dirty_in (of_file o.file) (held_of at.kernel before) + where_so b (dirty_one next)) file (lists.own.dirty (of_file o.file))) in
        omega (arith, is, here, own)
    file_at o false kernel same file =
        let is = ap (λ k. (file_or k).dirty) (puts.files o ∙ ap (λ b. cond b (Some (file_moved (state_in old.blocks.entries old.files.entries at) next (file_counts old.files.entries (file_of at)))) (file_kept old.files.entries o)) same) in
        let here = told.files_dirty o in
        let own = subst (λ (k : ℕ). dirty_in (of_file o.file) (held_of k behind) + where_so false (dirty_one (state_in old.blocks.entries old.files.entries at)) ≡ dirty_in (of_file o.file) (held_of k before) + where_so false (dirty_one next)) kernel (subst (λ (b : Bool). dirty_in (of_file o.file) (held_of at.kernel behind) + where_so b (dirty_one (state_in old.blocks.entries old.files.entries at)) ≡ dirty_in (of_file o.file) (held_of at.kernel before) + where_so b (dirty_one next)) file (lists.own.dirty (of_file o.file))) in
        omega (arith, is, here, own)

    file_by : (o : FileAt) (k : Bool) → (at.kernel == o.kernel) ≡ k → (file_counts new.files.entries o).dirty ≡ dirty_in (of_file o.file) (held_of o.kernel behind)
    file_by o true k = file_at o (same_file at.file o.file) (eqb-true at.kernel o.kernel k) (ap (λ b. b && same_file at.file o.file) k) refl
    file_by o false k =
        ap (λ k. (file_or k).dirty) (puts.files o ∙ ap (λ b. cond (b && same_file at.file o.file) (Some (file_moved (state_in old.blocks.entries old.files.entries at) next (file_counts old.files.entries (file_of at)))) (file_kept old.files.entries o)) k)
        ∙ told.files_dirty o
        ∙ sym (ap (dirty_in (of_file o.file)) (lists.others o.kernel k))

    kernel_by : (kernel : ℕ) (k : Bool) → (at.kernel == kernel) ≡ k → (counts_at new.kernels.entries kernel).held ≡ held_in any_block (held_of kernel behind)
    kernel_by kernel true k =
        let is = ap (λ n. (counts_or n).held) (puts.kernels kernel ∙ ap (λ b. cond b (Some (counts_moved (state_in old.blocks.entries old.files.entries at) next (counts_at old.kernels.entries at.kernel))) (counts_kept old.kernels.entries kernel)) k) in
        let here = told.kernels_held at.kernel in
        let own = lists.own.held any_block in
        let now : (counts_at new.kernels.entries kernel).held ≡ held_in any_block (held_of at.kernel behind) = omega (arith, is, here, own) in
        now ∙ ap (λ k. held_in any_block (held_of k behind)) (eqb-true at.kernel kernel k)
    kernel_by kernel false k =
        ap (λ n. (counts_or n).held) (puts.kernels kernel ∙ ap (λ b. cond b (Some (counts_moved (state_in old.blocks.entries old.files.entries at) next (counts_at old.kernels.entries at.kernel))) (counts_kept old.kernels.entries kernel)) k)
        ∙ told.kernels_held kernel
        ∙ sym (ap (held_in any_block) (lists.others kernel k))

    dirty_kernel : (kernel : ℕ) (k : Bool) → (at.kernel == kernel) ≡ k → (counts_at new.kernels.entries kernel).dirty ≡ dirty_in any_block (held_of kernel behind)
    dirty_kernel kernel true k =
        let is = ap (λ n. (counts_or n).dirty) (puts.kernels kernel ∙ ap (λ b. cond b (Some (counts_moved (state_in old.blocks.entries old.files.entries at) next (counts_at old.kernels.entries at.kernel))) (counts_kept old.kernels.entries kernel)) k) in
        let here = told.kernels_dirty at.kernel in
        let own = lists.own.dirty any_block in
        let now : (counts_at new.kernels.entries kernel).dirty ≡ dirty_in any_block (held_of at.kernel behind) = omega (arith, is, here, own) in
        now ∙ ap (λ k. dirty_in any_block (held_of k behind)) (eqb-true at.kernel kernel k)
    dirty_kernel kernel false k =
        ap (λ n. (counts_or n).dirty) (puts.kernels kernel ∙ ap (λ b. cond b (Some (counts_moved (state_in old.blocks.entries old.files.entries at) next (counts_at old.kernels.entries at.kernel))) (counts_kept old.kernels.entries kernel)) k)
        ∙ told.kernels_dirty kernel
        ∙ sym (ap (dirty_in any_block) (lists.others kernel k))

-- ---- a file's blocks are clean

-- the lists of all kernels, where one file's blocks are clean at one
record ListsClean (at : FileAt) (before behind : List Rec) : Type 0 where
  pub own : held_of at.kernel behind ≡ all_clean at.file (held_of at.kernel before)
  pub others : (kernel : ℕ) → (at.kernel == kernel) ≡ false → held_of kernel behind ≡ held_of kernel before
  pub recalls : (o : StampAt) → list_any (has_event (is_recall_to o.kernel o.file o.stamp)) behind ≡ list_any (has_event (is_recall_to o.kernel o.file o.stamp)) before

-- a block whose mark isn't above so many recalls isn't dirty behind one more
state_washed : (mark : Option ℕ) (recalls : ℕ) → mark_or mark ≤ recalls + 1 → state_by mark (recalls + 1) ≡ cleaned (state_by mark recalls)
state_washed None recalls low = refl
state_washed (Some mark) recalls low =
    ap (λ b. cond b state.Dirty state.Clean) (le-ltb (recalls + 1) mark low) ∙ by (nat_lt recalls mark)
  where
    by : (b : Bool) → state.Clean ≡ cleaned (cond b state.Dirty state.Clean)
    by true = refl
    by false = refl

cleaned_held : (was : State) → held_one (cleaned was) ≡ held_one was
cleaned_held state.Absent = refl
cleaned_held state.Clean = refl
cleaned_held state.Dirty = refl

cleaned_dirty : (was : State) → dirty_one (cleaned was) ≡ 0
cleaned_dirty state.Absent = refl
cleaned_dirty state.Clean = refl
cleaned_dirty state.Dirty = refl

-- the counts of a file behind that
file_now : (at : FileAt) (old new : Held) (o : FileAt) (b : Bool) → Cleans at old new → same_use at o ≡ b → file_counts new.files.entries o ≡ cond b (record { recalls = (file_counts old.files.entries o).recalls + 1; dirty = 0 }) (file_counts old.files.entries o)
file_now at old new o true cleans same =
    ap file_or (cleans.files o ∙ ap (λ b. cond b (Some (record { recalls = (file_counts old.files.entries at).recalls + 1; dirty = 0 })) (file_kept old.files.entries o)) same)
    ∙ ap (λ (p : FileAt). record { recalls = (file_counts old.files.entries p).recalls + 1; dirty = 0 }) (use_is at o same)
file_now at old new o false cleans same =
    ap file_or (cleans.files o ∙ ap (λ b. cond b (Some (record { recalls = (file_counts old.files.entries at).recalls + 1; dirty = 0 })) (file_kept old.files.entries o)) same)

state_clean : (at : FileAt) (old new : Held) (records : List Rec) (o : BlockAt) (b : Bool) → TellsHeld old records → Cleans at old new → same_use at (file_of o) ≡ b → state_in new.blocks.entries new.files.entries o ≡ cond b (cleaned (state_in old.blocks.entries old.files.entries o)) (state_in old.blocks.entries old.files.entries o)
state_clean at old new records o true told cleans same =
    ap₂ (λ bs n. state_by (mark_at bs o) n) cleans.blocks (ap (λ (k : FileCounts). k.recalls) (file_now at old new (file_of o) true cleans same))
    ∙ state_washed (mark_at old.blocks.entries o) (file_counts old.files.entries (file_of o)).recalls (told.marks o)
state_clean at old new records o false told cleans same =
    ap₂ (λ bs n. state_by (mark_at bs o) n) cleans.blocks (ap (λ (k : FileCounts). k.recalls) (file_now at old new (file_of o) false cleans same))

marks_clean : (at : FileAt) (old new : Held) (records : List Rec) (o : BlockAt) (b : Bool) → TellsHeld old records → Cleans at old new → same_use at (file_of o) ≡ b → mark_or (mark_at new.blocks.entries o) ≤ (file_counts new.files.entries (file_of o)).recalls + 1
marks_clean at old new records o true told cleans same =
    let marks = ap (λ bs. mark_or (mark_at bs o)) cleans.blocks in
    let recalls = ap (λ (k : FileCounts). k.recalls) (file_now at old new (file_of o) true cleans same) in
    let low = told.marks o in
    omega (arith, marks, recalls, low)
marks_clean at old new records o false told cleans same =
    let marks = ap (λ bs. mark_or (mark_at bs o)) cleans.blocks in
    let recalls = ap (λ (k : FileCounts). k.recalls) (file_now at old new (file_of o) false cleans same) in
    let low = told.marks o in
    omega (arith, marks, recalls, low)

-- a file's blocks lie in a file or beside it
file_lies : (f g : FileId) (h : FileId) (c : BlockNo) → of_file g h c ≡ true → same_file h f ≡ same_file g f
file_lies f g h c is = ap (λ (x : FileId). same_file x f) (file_is h g is)

block_lies : (f g : FileId) (b : BlockNo) (h : FileId) (c : BlockNo) → of_block g b h c ≡ true → same_file h f ≡ same_file g f
block_lies f g b h c is = ap (λ (x : FileId). same_file x f) (file_is h g (and_parts (same_file h g) (c.0 == b.0) is).0)

turned : (f g : FileId) → same_file f g ≡ same_file g f
turned f g = by (same_file f g) (same_file g f) refl refl
  where
    by : (a b : Bool) → same_file f g ≡ a → same_file g f ≡ b → same_file f g ≡ same_file g f
    by true b is other = ap (λ (x : FileId). same_file x g) (file_is f g is) ∙ sym (ap (λ (x : FileId). same_file g x) (file_is f g is))
    by false true is other = ap (λ (x : FileId). same_file f x) (file_is g f other) ∙ sym (ap (λ (x : FileId). same_file x f) (file_is g f other))
    by false false is other = is ∙ sym other

dirty_same : (s : Bool) (x : State) (n : ℕ) → dirty_one x ≡ n → dirty_one (cond s (cleaned x) x) ≡ where_so (not s) n
dirty_same true x n is = cleaned_dirty x
dirty_same false x n is = is

held_same : (s : Bool) (x : State) → held_one (cond s (cleaned x) x) ≡ held_one x
held_same true x = cleaned_held x
held_same false x = refl

count_same : (s : Bool) (x : FileCounts) (n : ℕ) → x.dirty ≡ n → (cond s (record { recalls = x.recalls + 1; dirty = 0 }) x).dirty ≡ where_so (not s) n
count_same true x n is = refl
count_same false x n is = is

cleans_told : (at : FileAt) (old new : Held) (before behind : List Rec) → TellsHeld old before → Cleans at old new → ListsClean at before behind → TellsHeld new behind
cleans_told at old new before behind told cleans lists = record {
  blocks_held = λ o.
      ap held_one (state_clean at old new before o (same_use at (file_of o)) told cleans refl)
      ∙ held_same (same_use at (file_of o)) (state_in old.blocks.entries old.files.entries o)
      ∙ told.blocks_held o
      ∙ held_by (of_block o.file o.block) o.kernel (at.kernel == o.kernel) refl;
  blocks_dirty = λ o. dirty_by o (at.kernel == o.kernel) refl;
  marks = λ o. marks_clean at old new before o (same_use at (file_of o)) told cleans refl;
  files_dirty = λ o. file_by o (at.kernel == o.kernel) refl;
  kernels_held = λ kernel. kernel_held kernel (at.kernel == kernel) refl;
  kernels_dirty = λ kernel. kernel_dirty kernel (at.kernel == kernel) refl;
  recalled = λ o. ap (λ ks. has_stamp ks o) cleans.recalled ∙ told.recalled o ∙ sym (lists.recalls o);
}
  where
    held_by : (scope : FileId → BlockNo → Bool) (kernel : ℕ) (k : Bool) → (at.kernel == kernel) ≡ k → held_in scope (held_of kernel before) ≡ held_in scope (held_of kernel behind)
    held_by scope kernel true k =
        subst (λ (k : ℕ). held_in scope (held_of k before) ≡ held_in scope (held_of k behind)) (eqb-true at.kernel kernel k)
        (sym (ap (held_in scope) lists.own ∙ held_clean scope at.file (held_of at.kernel before)))
    held_by scope kernel false k = sym (ap (held_in scope) (lists.others kernel k))

    dirty_by : (o : BlockAt) (k : Bool) → (at.kernel == o.kernel) ≡ k → dirty_one (state_in new.blocks.entries new.files.entries o) ≡ dirty_in (of_block o.file o.block) (held_of o.kernel behind)
    dirty_by o true k =
        let own = ap (dirty_in (of_block o.file o.block)) lists.own ∙ clean_in (of_block o.file o.block) at.file (same_file o.file at.file) (held_of at.kernel before) (block_lies at.file o.file o.block) in
        ap dirty_one (state_clean at old new before o (same_file o.file at.file) told cleans (ap (λ b. b && same_file at.file o.file) k ∙ turned at.file o.file))
        ∙ dirty_same (same_file o.file at.file) (state_in old.blocks.entries old.files.entries o) (dirty_in (of_block o.file o.block) (held_of o.kernel before)) (told.blocks_dirty o)
        ∙ subst (λ (k : ℕ). where_so (not (same_file o.file at.file)) (dirty_in (of_block o.file o.block) (held_of k before)) ≡ dirty_in (of_block o.file o.block) (held_of k behind)) (eqb-true at.kernel o.kernel k) (sym own)
    dirty_by o false k =
        ap dirty_one (state_clean at old new before o false told cleans (ap (λ b. b && same_file at.file o.file) k))
        ∙ told.blocks_dirty o
        ∙ sym (ap (dirty_in (of_block o.file o.block)) (lists.others o.kernel k))

    file_by : (o : FileAt) (k : Bool) → (at.kernel == o.kernel) ≡ k → (file_counts new.files.entries o).dirty ≡ dirty_in (of_file o.file) (held_of o.kernel behind)
    file_by o true k =
        let own = ap (dirty_in (of_file o.file)) lists.own ∙ clean_in (of_file o.file) at.file (same_file o.file at.file) (held_of at.kernel before) (file_lies at.file o.file) in
        ap (λ (n : FileCounts). n.dirty) (file_now at old new o (same_file o.file at.file) cleans (ap (λ b. b && same_file at.file o.file) k ∙ turned at.file o.file))
        ∙ count_same (same_file o.file at.file) (file_counts old.files.entries o) (dirty_in (of_file o.file) (held_of o.kernel before)) (told.files_dirty o)
        ∙ subst (λ (k : ℕ). where_so (not (same_file o.file at.file)) (dirty_in (of_file o.file) (held_of k before)) ≡ dirty_in (of_file o.file) (held_of k behind)) (eqb-true at.kernel o.kernel k) (sym own)
    file_by o false k =
        ap (λ (n : FileCounts). n.dirty) (file_now at old new o false cleans (ap (λ b. b && same_file at.file o.file) k))
        ∙ told.files_dirty o
        ∙ sym (ap (dirty_in (of_file o.file)) (lists.others o.kernel k))

    kernel_held : (kernel : ℕ) (k : Bool) → (at.kernel == kernel) ≡ k → (counts_at new.kernels.entries kernel).held ≡ held_in any_block (held_of kernel behind)
    kernel_held kernel true k =
        ap (λ n. (counts_or n).held) (cleans.kernels kernel ∙ ap (λ b. cond b (Some (record { held = (counts_at old.kernels.entries at.kernel).held; dirty = (counts_at old.kernels.entries at.kernel).dirty - (file_counts old.files.entries at).dirty })) (counts_kept old.kernels.entries kernel)) k)
        ∙ told.kernels_held at.kernel
        ∙ held_by any_block at.kernel (at.kernel == at.kernel) refl
        ∙ ap (λ k. held_in any_block (held_of k behind)) (eqb-true at.kernel kernel k)
    kernel_held kernel false k =
        ap (λ n. (counts_or n).held) (cleans.kernels kernel ∙ ap (λ b. cond b (Some (record { held = (counts_at old.kernels.entries at.kernel).held; dirty = (counts_at old.kernels.entries at.kernel).dirty - (file_counts old.files.entries at).dirty })) (counts_kept old.kernels.entries kernel)) k)
        ∙ told.kernels_held kernel
        ∙ sym (ap (held_in any_block) (lists.others kernel k))

    kernel_dirty : (kernel : ℕ) (k : Bool) → (at.kernel == kernel) ≡ k → (counts_at new.kernels.entries kernel).dirty ≡ dirty_in any_block (held_of kernel behind)
    kernel_dirty kernel true k =
        let is = ap (λ n. (counts_or n).dirty) (cleans.kernels kernel ∙ ap (λ b. cond b (Some (record { held = (counts_at old.kernels.entries at.kernel).held; dirty = (counts_at old.kernels.entries at.kernel).dirty - (file_counts old.files.entries at).dirty })) (counts_kept old.kernels.entries kernel)) k) in
        let here = told.kernels_dirty at.kernel in
        let file = told.files_dirty at in
        let own = ap (λ (hs : List HeldBlock). dirty_in any_block hs + dirty_in (of_file at.file) (held_of at.kernel before)) lists.own ∙ dirty_clean at.file (held_of at.kernel before) in
        let now : (counts_at new.kernels.entries kernel).dirty ≡ dirty_in any_block (held_of at.kernel behind) = omega (arith, is, here, file, own) in
        now ∙ ap (λ k. dirty_in any_block (held_of k behind)) (eqb-true at.kernel kernel k)
    kernel_dirty kernel false k =
        ap (λ n. (counts_or n).dirty) (cleans.kernels kernel ∙ ap (λ b. cond b (Some (record { held = (counts_at old.kernels.entries at.kernel).held; dirty = (counts_at old.kernels.entries at.kernel).dirty - (file_counts old.files.entries at).dirty })) (counts_kept old.kernels.entries kernel)) k)
        ∙ told.kernels_dirty kernel
        ∙ sym (ap (dirty_in any_block) (lists.others kernel k))

-- ---- nothing changes, or a recall is out

keeps_told : (old new : Held) (before behind : List Rec) → TellsHeld old before → Keeps old new → ((kernel : ℕ) → held_of kernel behind ≡ held_of kernel before) → ((o : StampAt) → list_any (has_event (is_recall_to o.kernel o.file o.stamp)) behind ≡ list_any (has_event (is_recall_to o.kernel o.file o.stamp)) before) → TellsHeld new behind
keeps_told old new before behind told keeps lists recalls = record {
  blocks_held = λ o. ap₂ (λ bs fs. held_one (state_in bs fs o)) keeps.blocks keeps.files ∙ told.blocks_held o ∙ sym (ap (held_in (of_block o.file o.block)) (lists o.kernel));
  blocks_dirty = λ o. ap₂ (λ bs fs. dirty_one (state_in bs fs o)) keeps.blocks keeps.files ∙ told.blocks_dirty o ∙ sym (ap (dirty_in (of_block o.file o.block)) (lists o.kernel));
  marks = λ o.
      let low = told.marks o in
      let marks = ap (λ bs. mark_or (mark_at bs o)) keeps.blocks in
      let recalls = ap (λ fs. (file_counts fs (file_of o)).recalls) keeps.files in
      omega (arith, low, marks, recalls);
  files_dirty = λ o. ap (λ fs. (file_counts fs o).dirty) keeps.files ∙ told.files_dirty o ∙ sym (ap (dirty_in (of_file o.file)) (lists o.kernel));
  kernels_held = λ kernel. ap (λ ks. (counts_at ks kernel).held) keeps.kernels ∙ told.kernels_held kernel ∙ sym (ap (held_in any_block) (lists kernel));
  kernels_dirty = λ kernel. ap (λ ks. (counts_at ks kernel).dirty) keeps.kernels ∙ told.kernels_dirty kernel ∙ sym (ap (dirty_in any_block) (lists kernel));
  recalled = λ o. ap (λ ks. has_stamp ks o) keeps.recalled ∙ told.recalled o ∙ sym (recalls o);
}

recall_by : (f g : FileId) (k to s t : ℕ) → (cond ((to == k) && (same_file f g && s == t)) true false) ≡ (same_file f g && to == k && s == t && true)
recall_by f g k to s t = by (same_file f g) (to == k) (s == t)
  where
    by : (a b d : Bool) → cond (b && (a && d)) true false ≡ (a && b && d && true)
    by true true true = refl
    by true true false = refl
    by true false d = refl
    by false true d = refl
    by false false d = refl

notes_told : (kernel : ℕ) (file : FileId) (to stamp : ℕ) (old new : Held) (before : List Rec) → TellsHeld old before → Notes (record { kernel = to; file = file; stamp = stamp }) old new → ((k : ℕ) → held_of k (before ++ record { kernel = kernel; event = event.Callback file to stamp kind.Recall } ∷ []) ≡ held_of k before) → TellsHeld new (before ++ record { kernel = kernel; event = event.Callback file to stamp kind.Recall } ∷ [])
notes_told kernel file to stamp old new before told notes lists = record {
  blocks_held = λ o. ap₂ (λ bs fs. held_one (state_in bs fs o)) notes.blocks notes.files ∙ told.blocks_held o ∙ sym (ap (held_in (of_block o.file o.block)) (lists o.kernel));
  blocks_dirty = λ o. ap₂ (λ bs fs. dirty_one (state_in bs fs o)) notes.blocks notes.files ∙ told.blocks_dirty o ∙ sym (ap (dirty_in (of_block o.file o.block)) (lists o.kernel));
  marks = λ o.
      let low = told.marks o in
      let marks = ap (λ bs. mark_or (mark_at bs o)) notes.blocks in
      let recalls = ap (λ fs. (file_counts fs (file_of o)).recalls) notes.files in
      omega (arith, low, marks, recalls);
  files_dirty = λ o. ap (λ fs. (file_counts fs o).dirty) notes.files ∙ told.files_dirty o ∙ sym (ap (dirty_in (of_file o.file)) (lists o.kernel));
  kernels_held = λ kernel. ap (λ ks. (counts_at ks kernel).held) notes.kernels ∙ told.kernels_held kernel ∙ sym (ap (held_in any_block) (lists kernel));
  kernels_dirty = λ kernel. ap (λ ks. (counts_at ks kernel).dirty) notes.kernels ∙ told.kernels_dirty kernel ∙ sym (ap (dirty_in any_block) (lists kernel));
  recalled = λ o.
      notes.recalled o
      ∙ ap (λ b. cond ((to == o.kernel) && (same_file file o.file && stamp == o.stamp)) true b) (told.recalled o)
      ∙ by_test ((to == o.kernel) && (same_file file o.file && stamp == o.stamp)) (same_file file o.file && to == o.kernel && stamp == o.stamp && true) (list_any (has_event (is_recall_to o.kernel o.file o.stamp)) before) (recall_by file o.file o.kernel to stamp o.stamp)
      ∙ sym (any_more (has_event (is_recall_to o.kernel o.file o.stamp)) before (record { kernel = kernel; event = event.Callback file to stamp kind.Recall }));
}
  where
    by_test : (a b x : Bool) → cond a true false ≡ b → cond a true x ≡ cond b true x
    by_test true b x is = ap (λ t. cond t true x) is
    by_test false b x is = ap (λ t. cond t true x) is

-- ---- one record more

same_both : {A : Type 0} (b : Bool) (x : A) → cond b x x ≡ x
same_both true x = refl
same_both false x = refl

-- the list of a kernel behind a record
list_more : (kernel : ℕ) (e : Event) (before : List Rec) (k : ℕ) (b : Bool) → (kernel == k) ≡ b → held_of k (before ++ record { kernel = kernel; event = e } ∷ []) ≡ cond b (blocks_by k before e (held_of k before)) (held_of k before)
list_more kernel e before k b is = look_backs_grow.blocks k before (record { kernel = kernel; event = e }) ∙ ap (λ t. cond t (blocks_by k before e (held_of k before)) (held_of k before)) is

list_own : (kernel : ℕ) (e : Event) (before : List Rec) → held_of kernel (before ++ record { kernel = kernel; event = e } ∷ []) ≡ blocks_by kernel before e (held_of kernel before)
list_own kernel e before = list_more kernel e before kernel true (eq-eqb kernel kernel refl)

no_recall : (kernel : ℕ) (e : Event) (before : List Rec) (o : StampAt) → is_recall_to o.kernel o.file o.stamp e ≡ false → list_any (has_event (is_recall_to o.kernel o.file o.stamp)) (before ++ record { kernel = kernel; event = e } ∷ []) ≡ list_any (has_event (is_recall_to o.kernel o.file o.stamp)) before
no_recall kernel e before o none =
    any_more (has_event (is_recall_to o.kernel o.file o.stamp)) before (record { kernel = kernel; event = e })
    ∙ ap (λ b. cond b true (list_any (has_event (is_recall_to o.kernel o.file o.stamp)) before)) none

and_false : (a : Bool) → (a && false) ≡ false
and_false true = refl
and_false false = refl

lists_move : (at : BlockAt) (e : Event) (was next : State) (before : List Rec) → ((o : StampAt) → is_recall_to o.kernel o.file o.stamp e ≡ false) → Moves at.file at.block was next (held_of at.kernel before) (blocks_by at.kernel before e (held_of at.kernel before)) → ListsMove at was next before (before ++ record { kernel = at.kernel; event = e } ∷ [])
lists_move at e was next before none moves = record {
  own = subst (λ (hs : List HeldBlock). Moves at.file at.block was next (held_of at.kernel before) hs) (sym (list_own at.kernel e before)) moves;
  others = λ kernel apart. list_more at.kernel e before kernel false apart;
  recalls = λ o. no_recall at.kernel e before o (none o);
}

taken_told : (kernel : ℕ) (file : FileId) (stamp : ℕ) (e : Event) (old new : Held) (before : List Rec) (b : Bool) → TellsHeld old before → ((o : StampAt) → is_recall_to o.kernel o.file o.stamp e ≡ false) → ((k : ℕ) (hs : List HeldBlock) → blocks_by k before e hs ≡ cond (list_any (has_event (is_recall_to k file stamp)) before) (all_clean file hs) hs) → list_any (has_event (is_recall_to kernel file stamp)) before ≡ b → TakesBy b (record { kernel = kernel; file = file }) old new → TellsHeld new (before ++ record { kernel = kernel; event = e } ∷ [])
taken_told kernel file stamp e old new before true told none steps is takes =
    cleans_told (record { kernel = kernel; file = file }) old new before (before ++ record { kernel = kernel; event = e } ∷ []) told takes (record {
      own = list_own kernel e before ∙ steps kernel (held_of kernel before) ∙ ap (λ t. cond t (all_clean file (held_of kernel before)) (held_of kernel before)) is;
      others = λ k apart. list_more kernel e before k false apart;
      recalls = λ o. no_recall kernel e before o (none o);
    })
taken_told kernel file stamp e old new before false told none steps is takes =
    keeps_told old new before (before ++ record { kernel = kernel; event = e } ∷ []) told takes (λ k. by k (kernel == k) refl) (λ o. no_recall kernel e before o (none o))
  where
    by : (k : ℕ) (b : Bool) → (kernel == k) ≡ b → held_of k (before ++ record { kernel = kernel; event = e } ∷ []) ≡ held_of k before
    by k true same =
        subst (λ (k : ℕ). held_of k (before ++ record { kernel = kernel; event = e } ∷ []) ≡ held_of k before) (eqb-true kernel k same)
        (list_own kernel e before ∙ steps kernel (held_of kernel before) ∙ ap (λ t. cond t (all_clean file (held_of kernel before)) (held_of kernel before)) is)
    by k false apart = list_more kernel e before k false apart

held_by_event : (kernel : ℕ) (e : Event) (old new : Held) (before : List Rec) → TellsHeld old before → HeldBy kernel e old new → TellsHeld new (before ++ record { kernel = kernel; event = e } ∷ [])
held_by_event kernel (event.Filled file block) old new before told puts =
    let at : BlockAt = record { kernel = kernel; file = file; block = block } in
    puts_told at state.Clean old new before (before ++ record { kernel = kernel; event = event.Filled file block } ∷ []) told puts (lists_move at (event.Filled file block) (state_in old.blocks.entries old.files.entries at) state.Clean before (λ o. refl) (filled_moves file block (state_in old.blocks.entries old.files.entries at) (held_of kernel before) (record { held = told.blocks_held at; dirty = told.blocks_dirty at })))
held_by_event kernel (event.Dropped file block cause) old new before told puts =
    let at : BlockAt = record { kernel = kernel; file = file; block = block } in
    puts_told at state.Absent old new before (before ++ record { kernel = kernel; event = event.Dropped file block cause } ∷ []) told puts (lists_move at (event.Dropped file block cause) (state_in old.blocks.entries old.files.entries at) state.Absent before (λ o. refl) (dropped_moves file block (state_in old.blocks.entries old.files.entries at) (held_of kernel before) (record { held = told.blocks_held at; dirty = told.blocks_dirty at })))
held_by_event kernel (event.Dirtied file block) old new before told puts =
    let at : BlockAt = record { kernel = kernel; file = file; block = block } in
    let was = state_in old.blocks.entries old.files.entries at in
    puts_told at (dirtied was) old new before (before ++ record { kernel = kernel; event = event.Dirtied file block } ∷ []) told puts (lists_move at (event.Dirtied file block) was (dirtied was) before (λ o. refl) (dirtied_moves file block was (held_of kernel before) (record { held = told.blocks_held at; dirty = told.blocks_dirty at })))
held_by_event kernel (event.WroteBack file block) old new before told puts =
    let at : BlockAt = record { kernel = kernel; file = file; block = block } in
    let was = state_in old.blocks.entries old.files.entries at in
    puts_told at (cleaned was) old new before (before ++ record { kernel = kernel; event = event.WroteBack file block } ∷ []) told puts (lists_move at (event.WroteBack file block) was (cleaned was) before (λ o. refl) (wrote_moves file block was (held_of kernel before) (record { held = told.blocks_held at; dirty = told.blocks_dirty at })))
held_by_event kernel (event.Callback file to stamp kind.Recall) old new before told notes =
    notes_told kernel file to stamp old new before told notes (λ k. list_more kernel (event.Callback file to stamp kind.Recall) before k (kernel == k) refl ∙ same_both (kernel == k) (held_of k before))
held_by_event kernel (event.Callback file to stamp kind.Stop) old new before told keeps =
    keeps_told old new before (before ++ record { kernel = kernel; event = event.Callback file to stamp kind.Stop } ∷ []) told keeps (λ k. list_more kernel (event.Callback file to stamp kind.Stop) before k (kernel == k) refl ∙ same_both (kernel == k) (held_of k before)) (λ o. no_recall kernel (event.Callback file to stamp kind.Stop) before o (and_false (same_file file o.file && to == o.kernel && stamp == o.stamp)))
held_by_event kernel (event.Mode file stamp mode) old new before told takes =
    let at : StampAt = record { kernel = kernel; file = file; stamp = stamp } in
    taken_told kernel file stamp (event.Mode file stamp mode) old new before (has_stamp old.recalled.keys at) told (λ o. refl) (λ k hs. refl) (sym (told.recalled at)) takes
held_by_event kernel e old new before told keeps =
    keeps_told old new before (before ++ record { kernel = kernel; event = e } ∷ []) told keeps (λ k. list_more kernel e before k (kernel == k) refl ∙ same_both (kernel == k) (held_of k before)) (λ o. no_recall kernel e before o refl)

-- what is kept of the blocks behind a record
pub held_told_on : (rec : Rec) (old new : Held) (records : List Rec) → TellsHeld old records → HeldOn rec old new → TellsHeld new (records ++ rec ∷ [])
held_told_on rec old new records told more = held_by_event rec.kernel rec.event old new records told more

-- nothing is held before the first record
pub none_held : (held : Held) → held.blocks.entries ≡ [] → held.files.entries ≡ [] → held.kernels.entries ≡ [] → held.recalled.keys ≡ [] → TellsHeld held []
none_held held blocks files kernels recalled = record {
  blocks_held = λ at. ap₂ (λ bs fs. held_one (state_in bs fs at)) blocks files;
  blocks_dirty = λ at. ap₂ (λ bs fs. dirty_one (state_in bs fs at)) blocks files;
  marks = λ at.
      let mark = ap (λ bs. mark_or (mark_at bs at)) blocks in
      omega (arith, mark);
  files_dirty = λ at. ap (λ fs. (file_counts fs at).dirty) files;
  kernels_held = λ kernel. ap (λ ks. (counts_at ks kernel).held) kernels;
  kernels_dirty = λ kernel. ap (λ ks. (counts_at ks kernel).dirty) kernels;
  recalled = λ at. ap (λ ks. has_stamp ks at) recalled;
}
