-- Which blocks are held.
use Rattle.std.proofs.Common.{◌≡◌, ℕ, suc, ◌+◌, ◌-◌, ◌<◌, Bool, true, false, cond, List, [], ◌∷◌, length, take, Some, None, is_some, refl, sym, ap, ◌∙◌, arith}
use Rattle.std.proofs.lemmas.List.{take_all}
use Rattle.std.specs.Option.{option_map_or}
use Rattle.std.specs.Map.{lookup, lookup_entry, remove_entry}
use Rattle.lru.specs.LruCache.{LruCache, put_entries}
use Rattle.sprite_ids.specs.declared.FileId.{FileId}
use Rattle.block_cache.specs.Blocks.{Blocks, is_held, missing_of}

-- a search goes on past a block that is held
missing_past : (blocks : Blocks) (file : FileId) (first n : ℕ) → is_held blocks file first ≡ true → missing_of blocks file first (suc n) ≡ missing_of blocks file (first + 1) n
missing_past blocks file first n held = ap (λ b. cond b (missing_of blocks file (first + 1) n) (Some (record { 0 = first }))) held

pub missing_on : (blocks : Blocks) (file : FileId) (first count place : ℕ) → place < count → is_held blocks file (first + place) ≡ true → missing_of blocks file (first + (place + 1)) (count - (place + 1)) ≡ missing_of blocks file (first + place) (count - place)
missing_on blocks file first count place under held =
    let left : count - place ≡ suc (count - (place + 1)) = omega (arith, under) in
    let next : first + (place + 1) ≡ first + place + 1 = omega arith in
    ap (λ n. missing_of blocks file n (count - (place + 1))) next ∙ sym (missing_past blocks file (first + place) (count - (place + 1)) held) ∙ sym (ap (missing_of blocks file (first + place)) left)

module _ {K V : Type 0} (test : K → Bool) where
  absent_by : (e : K × V) (es : List (K × V)) (b : Bool) → (is_some (lookup test es) ≡ false → lookup_entry test es ≡ None) → is_some (cond b (Some e.1) (lookup test es)) ≡ false → cond b (Some e) (lookup_entry test es) ≡ None
  absent_by e es true h is = absurd (cc)
  absent_by e es false h is = h is

  -- where no value is found, no entry is
  pub absent_entry : (es : List (K × V)) → is_some (lookup test es) ≡ false → lookup_entry test es ≡ None
  absent_entry [] is = refl
  absent_entry (e ∷ es) is = absent_by e es (test e.0) (absent_entry es) is

-- a new pair goes before the others of a cache that has room
pub put_new : {K V : Type 0} (eq : K → K → Bool) (cache : LruCache K V) (k : K) (v : V) → is_some (lookup (eq k) cache.entries) ≡ false → length cache.entries < cache.cap → put_entries eq cache k v ≡ (k, v) ∷ cache.entries
put_new eq cache k v absent room =
    ap (λ o. option_map_or (λ e. (e.0, v) ∷ remove_entry (eq k) cache.entries) o ((k, v) ∷ take (cache.cap - 1) cache.entries)) (absent_entry (eq k) cache.entries absent)
    ∙ ap (λ es. (k, v) ∷ es) (take_all (cache.cap - 1) cache.entries (omega (arith, room)))
