-- A file's bytes that grow and are then written over are those after a write.
use Rattle.std.proofs.Common.{◌≡◌, ◌+◌, ◌-◌, ℕ, zero, suc, List, [], ◌∷◌, ◌++◌, length, take, drop, replicate, refl, sym, ap, ap₂, ◌∙◌, arith}
use Rattle.std.proofs.lemmas.List.{append-nil, take-replicate, drop-replicate}
use Rattle.unix_calls.specs.StreamCalls.{written}
use Rattle.unix_world.specs.Contents.{grown, over}

-- the first ones of two lists are those of the one, and then those of the other
take_both : (n : ℕ) (xs ys : List ℕ) → take n (xs ++ ys) ≡ take n xs ++ take (n - length xs) ys
take_both zero xs ys = let none : 0 - length xs ≡ 0 = omega arith in ap (λ k. take k ys) (sym none)
take_both (suc n) [] ys = let all : suc n ≡ suc n - 0 = omega arith in ap (λ k. take k ys) all
take_both (suc n) (x ∷ xs) ys =
    let left : n - length xs ≡ suc n - length (x ∷ xs) = omega arith in
    ap (λ l. x ∷ l) (take_both n xs ys) ∙ ap (λ k. x ∷ take n xs ++ take k ys) left

-- and so are those behind them
drop_both : (n : ℕ) (xs ys : List ℕ) → drop n (xs ++ ys) ≡ drop n xs ++ drop (n - length xs) ys
drop_both zero xs ys = let none : 0 - length xs ≡ 0 = omega arith in ap (λ k. xs ++ drop k ys) (sym none)
drop_both (suc n) [] ys = let all : suc n ≡ suc n - 0 = omega arith in ap (λ k. drop k ys) all
drop_both (suc n) (x ∷ xs) ys =
    let left : n - length xs ≡ suc n - length (x ∷ xs) = omega arith in
    drop_both n xs ys ∙ ap (λ k. drop n xs ++ drop k ys) left

-- the bytes before the place, with zeros where there were none
before_grown : (old : List ℕ) (from n : ℕ) → take from (grown old (from + n)) ≡ take from old ++ replicate (from - length old) 0
before_grown old from n =
    take_both from old (replicate (from + n - length old) 0)
    ∙ ap (λ l. take from old ++ l) (take-replicate (from - length old) (from + n - length old) 0 (omega arith))

-- the bytes behind it
behind_grown : (old : List ℕ) (end : ℕ) → drop end (grown old end) ≡ drop end old
behind_grown old end =
    let none : end - length old - (end - length old) ≡ 0 = omega arith in
    drop_both end old (replicate (end - length old) 0)
    ∙ ap (λ l. drop end old ++ l) (drop-replicate (end - length old) (end - length old) 0 ∙ ap (λ k. replicate k 0) none)
    ∙ append-nil (drop end old)

pub over_grown : (old : List ℕ) (from : ℕ) (new : List ℕ) → (new ≡ [] → ⊥) → over (grown old (from + length new)) from new ≡ written old from new
over_grown old from [] some = absurd (some refl)
over_grown old from (b ∷ bs) some =
    ap₂ (λ before behind. before ++ (b ∷ bs) ++ behind) (before_grown old from (length (b ∷ bs))) (behind_grown old (from + length (b ∷ bs)))
