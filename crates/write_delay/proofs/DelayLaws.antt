-- The list of dirty blocks has each block once, and its order is that of their steps.
use Rattle.std.proofs.Common.{◌≡◌, ℕ, ◌-◌, ◌≤◌, ◌<◌, ◌==◌, Bool, true, false, ◌&&◌, ◌||◌, not, cond, [], ◌∷◌, length, take, Option, Some, None, is_some, Result, Ok, Err, IsOk, IsSome, OnErr, refl, sym, ap, subst, ◌∙◌, arith, slice_get}
use Rattle.std.specs.List.{AllByRecursion, IsDistinct, list_any}
use Rattle.std.specs.Option.{option_map_or}
use Rattle.std.specs.Map.{keys_of, lookup, lookup_entry, remove_entry}
use Rattle.std.proofs.lemmas.Bool.{and_parts, eqb-true}
use Rattle.std.proofs.lemmas.List.{take_all}
use Rattle.lru.specs.LruCache.{LruCache, put_entries}
use Rattle.lru.proofs.CallerLemmas.{Contains-lookup_entry}
use Rattle.sprite_ids.specs.Lists.{without}
use Rattle.sprite_ids.proofs.ListLaws.{each_weaken, each_filter, some_is}
use Rattle.sprite_ids.proofs.OnceLaws.{dropped, stays, none_taken}
use Rattle.write_delay.specs.declared.delayed_block.DelayedBlock.{DelayedBlock}
use Rattle.write_delay.specs.Delays.{Listed, is_block, AreOnce, Falls, FallsFrom}

-- two blocks that the test finds to be one are equal
pub one_block : (x y : DelayedBlock) → is_block x y ≡ true → x ≡ y
one_block x y h =
    let parts = and_parts ((x.file.server == y.file.server) && (x.file.number == y.file.number)) (x.block.0 == y.block.0) h in
    let first = and_parts (x.file.server == y.file.server) (x.file.number == y.file.number) parts.0 in
    let server = eqb-true x.file.server y.file.server first.0 in
    let number = eqb-true x.file.number y.file.number first.1 in
    let block = eqb-true x.block.0 y.block.0 parts.1 in
    λ i. record { file = record { server = server i; number = number i }; block = record { 0 = block i } }

-- whether an entry is of that block
abbrev of : DelayedBlock → DelayedBlock × ℕ → Bool
of block entry = is_block block entry.0

-- a block that differs from all keys is in no entry
apart : (block : DelayedBlock) (entries : Listed) → AllByRecursion (λ key. is_block block key ≡ false) (keys_of entries) → list_any (of block) entries ≡ false
apart block [] h = refl
apart block (entry ∷ rest) h = ap (λ b. b || list_any (of block) rest) h.0 ∙ apart block rest h.1

removed_first : (block key : DelayedBlock) (step : ℕ) (rest : Listed) (b : Bool) → is_block block key ≡ b → AllByRecursion (λ other. is_block key other ≡ false) (keys_of rest) → remove_entry (is_block block) rest ≡ without (of block) rest → cond b rest ((key, step) ∷ remove_entry (is_block block) rest) ≡ without (of block) ((key, step) ∷ rest)
removed_first block key step rest true e d h =
    let same : key ≡ block = sym (one_block block key e) in
    sym (dropped (of block) (key, step) rest e ∙ none_taken (of block) rest (apart block rest (subst (λ (k : DelayedBlock). AllByRecursion (λ other. is_block k other ≡ false) (keys_of rest)) same d)))
removed_first block key step rest false e d h = ap (λ (es : Listed). (key, step) ∷ es) h ∙ sym (stays (of block) (key, step) rest e)

once_parts : (entry : DelayedBlock × ℕ) (rest : Listed) → AreOnce (entry ∷ rest) → AllByRecursion (λ key. is_block entry.0 key ≡ false) (keys_of rest) × AreOnce rest
unfolding IsDistinct
once_parts entry rest d = d

-- where each block is listed once, its first entry is its only one
pub removed : (block : DelayedBlock) (entries : Listed) → AreOnce entries → remove_entry (is_block block) entries ≡ without (of block) entries
removed block [] d = refl
removed block (entry ∷ rest) d =
    let parts = once_parts entry rest d in
    removed_first block entry.0 entry.1 rest (is_block block entry.0) refl parts.0 (removed block rest parts.1)

-- a block is found exactly where it is listed
pub found_any : (block : DelayedBlock) (entries : Listed) → is_some (lookup (is_block block) entries) ≡ list_any (of block) entries
found_any block [] = refl
found_any block (entry ∷ rest) =
    elim (is_block block entry.0) as (λ b. is_some (cond b (Some entry.1) (lookup (is_block block) rest)) ≡ (b || list_any (of block) rest)) [ true ↦ refl | false ↦ found_any block rest ]

entry_any : (block : DelayedBlock) (entries : Listed) → is_some (lookup_entry (is_block block) entries) ≡ list_any (of block) entries
entry_any block [] = refl
entry_any block (entry ∷ rest) =
    elim (is_block block entry.0) as (λ b. is_some (cond b (Some entry) (lookup_entry (is_block block) rest)) ≡ (b || list_any (of block) rest)) [ true ↦ refl | false ↦ entry_any block rest ]

put_by : (cache : LruCache DelayedBlock ℕ) (block : DelayedBlock) (step : ℕ) (o : Option (DelayedBlock × ℕ)) → lookup_entry (is_block block) cache.entries ≡ o → AreOnce cache.entries → length cache.entries < cache.cap → option_map_or (λ e. (e.0, step) ∷ remove_entry (is_block block) cache.entries) o ((block, step) ∷ take (cache.cap - 1) cache.entries) ≡ (block, step) ∷ without (of block) cache.entries
put_by cache block step None e d room =
    let none : list_any (of block) cache.entries ≡ false = sym (entry_any block cache.entries) ∙ ap is_some e in
    ap (λ (es : Listed). (block, step) ∷ es) (take_all (cache.cap - 1) cache.entries (omega (arith, room)) ∙ sym (none_taken (of block) cache.entries none))
put_by cache block step (Some found) e d room =
    let same : found.0 ≡ block = sym (one_block block found.0 (Contains-lookup_entry (is_block block) cache.entries found e).1) in
    ap (λ (b : DelayedBlock). (b, step) ∷ remove_entry (is_block block) cache.entries) same ∙ ap (λ (es : Listed). (block, step) ∷ es) (removed block cache.entries d)

-- a block that is put in goes first, and its old entry goes
pub put_first : (cache : LruCache DelayedBlock ℕ) (block : DelayedBlock) (step : ℕ) → AreOnce cache.entries → length cache.entries < cache.cap → put_entries is_block cache block step ≡ (block, step) ∷ without (of block) cache.entries
put_first cache block step d room = put_by cache block step (lookup_entry (is_block block) cache.entries) refl d room

-- entries in order stay so where some go
pub falls_without : (p : DelayedBlock × ℕ → Bool) (entries : Listed) → Falls entries → Falls (without p entries)
falls_without p [] h = tt
falls_without p (entry ∷ rest) h =
    elim (not (p entry)) as (λ b. Falls (cond b (entry ∷ without p rest) (without p rest))) [ true ↦ (each_filter (λ (older : DelayedBlock × ℕ). older.1 ≤ entry.1) (λ e. not (p e)) rest h.0, falls_without p rest h.1) | false ↦ falls_without p rest h.1 ]

-- and where one more comes before them
pub falls_dirtied : (block : DelayedBlock) (step : ℕ) (entries : Listed) → FallsFrom step entries → Falls ((block, step) ∷ without (of block) entries)
falls_dirtied block step entries h =
    (each_filter (λ (older : DelayedBlock × ℕ). older.1 ≤ step) (λ e. not (of block e)) entries h.0, falls_without (of block) entries h.1)

-- it may come where it isn't older than the first
pub followed : (entries : Listed) (newest : DelayedBlock × ℕ) (step : ℕ) → slice_get entries 0 ≡ Some newest → newest.1 ≤ step → Falls entries → FallsFrom step entries
followed [] newest step e le h = (tt, tt)
followed (entry ∷ rest) newest step e le h =
    let first : entry.1 ≤ step = subst (λ (n : DelayedBlock × ℕ). n.1 ≤ step) (sym (some_is entry newest e)) le in
    ((first, each_weaken (λ (older : DelayedBlock × ℕ). older.1 ≤ entry.1) (λ (older : DelayedBlock × ℕ). older.1 ≤ step) rest (λ older k. omega (arith, k, first)) h.0), h)

pub first_of_none : (entries : Listed) (step : ℕ) → slice_get entries 0 ≡ None → FallsFrom step entries
first_of_none [] step e = (tt, tt)
first_of_none (entry ∷ rest) step e = cc

pub falls_empty : (entries : Listed) (step : ℕ) → length entries ≡ 0 → FallsFrom step entries
falls_empty [] step e = (tt, tt)
falls_empty (entry ∷ rest) step e = absurd (omega (arith, e))

-- a call that is sure where something is there, and failed, shows that nothing is
pub absent_of : {A B E : Type 0} (r : Result A E) (e : E) (o : Option B) → (IsSome o → IsOk r) → r ≡ Err e → is_some o ≡ false
absent_of r e None sure is = refl
absent_of r e (Some x) sure is = let wrong = subst IsOk is (sure refl) in absurd (cc)

pub on_err : {A E P : Type 0} (r : Result A E) → P → OnErr r P
on_err (Ok a) p = tt
on_err (Err e) p = p
