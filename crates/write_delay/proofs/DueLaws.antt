-- Which block is due.
use Rattle.std.proofs.Common.{rules, tests, ◌≡◌, ℕ, zero, suc, ◌+◌, ◌-◌, ◌≤◌, ◌<◌, nat_le, Bool, true, false, cond, [], ◌∷◌, ◌++◌, length, Option, Some, None, option_map, refl, sym, ap, subst, ◌∙◌, arith, slice_get}
use Rattle.std.specs.List.{AllByRecursion}
use Rattle.std.specs.Option.{option_or}
use Rattle.sprite_ids.proofs.ListLaws.{some_is}
use Rattle.write_delay.specs.declared.delayed_block.DelayedBlock.{DelayedBlock}
use Rattle.write_delay.specs.Delays.{Listed, is_due, oldest_due, due, Falls}

-- an entry at the end that is due is the oldest
due_last : (step : ℕ) (entries : Listed) (e : DelayedBlock × ℕ) → is_due step e ≡ true → oldest_due (entries ++ e ∷ []) step ≡ Some e
due_last step [] e h = ap (λ b. cond b (Some e) None) h
due_last step (first ∷ rest) e h = ap (λ o. option_or o (cond (is_due step first) (Some first) None)) (due_last step rest e h)

-- one that isn't due changes nothing
due_before : (step : ℕ) (entries : Listed) (e : DelayedBlock × ℕ) → is_due step e ≡ false → oldest_due (entries ++ e ∷ []) step ≡ oldest_due entries step
due_before step [] e h = ap (λ b. cond b (Some e) None) h
due_before step (first ∷ rest) e h = ap (λ o. option_or o (cond (is_due step first) (Some first) None)) (due_before step rest e h)

-- a walk from the end stops at the first that is due
pub stops_at : (step : ℕ) (all left rest : Listed) (e : DelayedBlock × ℕ) → oldest_due left step ≡ oldest_due all step → left ≡ rest ++ e ∷ [] → is_due step e ≡ true → oldest_due all step ≡ Some e
stops_at step all left rest e same is h = sym same ∙ ap (λ es. oldest_due es step) is ∙ due_last step rest e h

-- and goes on past every other
pub goes_past : (step : ℕ) (all left rest : Listed) (e : DelayedBlock × ℕ) → oldest_due left step ≡ oldest_due all step → left ≡ rest ++ e ∷ [] → is_due step e ≡ false → oldest_due rest step ≡ oldest_due all step
goes_past step all left rest e same is h = sym (due_before step rest e h) ∙ sym (ap (λ es. oldest_due es step) is) ∙ same

not_due : (step a b : ℕ) → nat_le (a + 30) step ≡ false → a ≤ b → nat_le (b + 30) step ≡ false
not_due step a b h le = search (rules, tests, arith, h, le)

older_due : (step : ℕ) (x last : DelayedBlock × ℕ) (found : Option (DelayedBlock × ℕ)) (b : Bool) → is_due step last ≡ b → last.1 ≤ x.1 → found ≡ cond b (Some last) None → option_or found (cond (is_due step x) (Some x) None) ≡ cond b (Some last) None
older_due step x last found true e le h = ap (λ o. option_or o (cond (is_due step x) (Some x) None)) h
older_due step x last found false e le h =
    ap (λ o. option_or o (cond (is_due step x) (Some x) None)) h ∙ ap (λ b. cond b (Some x) None) (not_due step last.1 x.1 e le)

last_first : (step : ℕ) (x last : DelayedBlock × ℕ) → x ≡ last → (last.1 ≤ x.1) × (cond (is_due step x) (Some x) None ≡ cond (is_due step last) (Some last) None)
last_first step x last e = (subst (λ (y : DelayedBlock × ℕ). y.1 ≤ x.1) e (omega arith), ap (λ (y : DelayedBlock × ℕ). cond (is_due step y) (Some y) None) e)

-- of entries in order none is older than the last, and none is due where it isn't
last_due : (step at : ℕ) (entries : Listed) (last : DelayedBlock × ℕ) → Falls entries → suc at ≡ length entries → slice_get entries at ≡ Some last → AllByRecursion (λ (e : DelayedBlock × ℕ). last.1 ≤ e.1) entries × (oldest_due entries step ≡ cond (is_due step last) (Some last) None)
last_due step at [] last h end e = absurd (omega (arith, end))
last_due step zero (x ∷ []) last h end e =
    let same = last_first step x last (some_is x last e) in
    ((same.0, tt), same.1)
last_due step (suc at) (x ∷ []) last h end e = absurd (omega (arith, end))
last_due step zero (x ∷ y ∷ ys) last h end e = absurd (omega (arith, end))
last_due step (suc at) (x ∷ y ∷ ys) last h end e =
    let more = last_due step at (y ∷ ys) last h.1 (omega (arith, end)) e in
    let later : last.1 ≤ x.1 = omega (arith, more.0.0, h.0.0) in
    ((later, more.0), older_due step x last (oldest_due (y ∷ ys) step) (is_due step last) refl later more.1)

found_last : (entries : Listed) (last : DelayedBlock × ℕ) → slice_get entries (length entries - 1) ≡ Some last → suc (length entries - 1) ≡ length entries
found_last [] last e = absurd (cc)
found_last (x ∷ xs) last e = omega arith

-- the last entry is due
pub last_is : (step : ℕ) (entries : Listed) (last : DelayedBlock × ℕ) → Falls entries → slice_get entries (length entries - 1) ≡ Some last → is_due step last ≡ true → due entries step ≡ Some (last.0.file, last.0.block)
last_is step entries last h e d =
    let found = last_due step (length entries - 1) entries last h (found_last entries last e) e in
    ap (option_map (λ (entry : DelayedBlock × ℕ). (entry.0.file, entry.0.block))) (found.1 ∙ ap (λ b. cond b (Some last) None) d)

-- or none is
pub none_is : (step : ℕ) (entries : Listed) (last : DelayedBlock × ℕ) → Falls entries → slice_get entries (length entries - 1) ≡ Some last → is_due step last ≡ false → due entries step ≡ None
none_is step entries last h e d =
    let found = last_due step (length entries - 1) entries last h (found_last entries last e) e in
    ap (option_map (λ (entry : DelayedBlock × ℕ). (entry.0.file, entry.0.block))) (found.1 ∙ ap (λ b. cond b (Some last) None) d)

within : (entries : Listed) (at : ℕ) → at < length entries → slice_get entries at ≡ None → ⊥
within [] at h e = omega (arith, h)
within (x ∷ xs) zero h e = cc
within (x ∷ xs) (suc at) h e = within xs at (omega (arith, h)) e

-- where there is no last entry, there is none
pub none_of_none : (step : ℕ) (entries : Listed) → slice_get entries (length entries - 1) ≡ None → due entries step ≡ None
none_of_none step [] e = refl
none_of_none step (x ∷ xs) e = absurd (within (x ∷ xs) (length (x ∷ xs) - 1) (omega arith) e)
