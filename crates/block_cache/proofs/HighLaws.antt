-- How many files have a state that isn't low.
use Rattle.std.proofs.Common.{rules, tests, ◌≡◌, ℕ, ◌+◌, ◌≤◌, ◌==◌, Bool, true, false, ◌&&◌, cond, [], ◌∷◌, Some, refl, ap, ◌∙◌, arith}
use Rattle.std.specs.List.{list_all}
use Rattle.std.specs.Map.{values_of}
use Rattle.std.proofs.lemmas.Bool.Decides.{eqb_tells}
use Rattle.sprite_ids.specs.declared.FileId.{FileId}
use Rattle.block_cache.specs.declared.file_state.FileState.{FileState}
use Rattle.block_cache.specs.Files.{Files, is_file, is_low, one_high, high_of, or_new, state_of, known, with_state, grown}

swapped : (a r s : ℕ) → s + r + a ≡ a + r + s
swapped a r s = omega arith

carried : (a p b r s : ℕ) → p + b ≡ r + s → a + p + b ≡ a + r + s
carried a p b r s h = omega (arith, h)

put_by : (entry : FileId × FileState) (rest : Files) (file : FileId) (state : FileState) (b : Bool) → high_of (with_state rest file state) + one_high (known rest file) ≡ high_of rest + one_high state → high_of (cond b ((entry.0, state) ∷ rest) (entry ∷ with_state rest file state)) + one_high (or_new (cond b (Some entry.1) (state_of rest file))) ≡ high_of (entry ∷ rest) + one_high state
put_by entry rest file state true h = swapped (one_high entry.1) (high_of rest) (one_high state)
put_by entry rest file state false h = carried (one_high entry.1) (high_of (with_state rest file state)) (one_high (known rest file)) (high_of rest) (one_high state) h

-- with another state of one of them
pub high_put : (files : Files) (file : FileId) (state : FileState) → high_of (with_state files file state) + one_high (known files file) ≡ high_of files + one_high state
high_put [] file state = swapped 0 0 (one_high state)
high_put (entry ∷ rest) file state = put_by entry rest file state (is_file file entry.0) (high_put rest file state)

known_by : (entry : FileId × FileState) (rest : Files) (file : FileId) (b : Bool) → one_high (known rest file) ≤ high_of rest → one_high (or_new (cond b (Some entry.1) (state_of rest file))) ≤ high_of (entry ∷ rest)
known_by entry rest file true h = at_least (one_high entry.1) (high_of rest)
  where
    at_least : (a r : ℕ) → a ≤ a + r
    at_least a r = omega arith
known_by entry rest file false h = more (one_high (known rest file)) (one_high entry.1) (high_of rest) h
  where
    more : (k a r : ℕ) → k ≤ r → k ≤ a + r
    more k a r h = omega (arith, h)

-- a file counts once at most
pub known_counts : (files : Files) (file : FileId) → one_high (known files file) ≤ high_of files
known_counts [] file = omega arith
known_counts (entry ∷ rest) file = known_by entry rest file (is_file file entry.0) (known_counts rest file)

-- a file that grows counts as before
pub high_grown : (files : Files) (file : FileId) (end : ℕ) → high_of (with_state files file (grown (known files file) end)) ≡ high_of files
high_grown files file end = same (high_of (with_state files file (grown (known files file) end))) (one_high (known files file)) (high_of files) (high_put files file (grown (known files file) end))
  where
    same : (p a r : ℕ) → p + a ≡ r + a → p ≡ r
    same p a r h = omega (arith, h)

none_by : (rest : Files) (b : Bool) → (high_of rest == 0) ≡ list_all is_low (values_of rest) → (cond b 0 1 + high_of rest == 0) ≡ (b && list_all is_low (values_of rest))
none_by rest true h = ap (λ n. n == 0) (none (high_of rest)) ∙ h
  where
    none : (n : ℕ) → 0 + n ≡ n
    none n = omega arith
none_by rest false h = some (high_of rest)
  where
    some : (n : ℕ) → (1 + n == 0) ≡ false
    some n = search (rules, tests, eqb_tells (1 + n) 0)

-- there is none exactly where all are low
pub none_high : (files : Files) → (high_of files == 0) ≡ list_all is_low (values_of files)
none_high [] = refl
none_high (entry ∷ rest) = none_by rest (is_low entry.1) (none_high rest)
