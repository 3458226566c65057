-- Bytes that grow and are then written over are those with others over them.
use Rattle.std.proofs.Common.{◌≡◌, ◌+◌, ◌-◌, ℕ, zero, suc, List, [], ◌∷◌, ◌++◌, length, take, drop, replicate, refl, sym, ap, ap₂, ◌∙◌, arith}
use Rattle.std.proofs.lemmas.List.{append-nil, take-replicate, drop-replicate}
use Rattle.std.proofs.Math.Seq.{drop-nil}
use Rattle.file_views.specs.Contents.{grown, overlay}

-- the bytes before the place, with zeros where there were none
before_grown : (old : List ℕ) (from n : ℕ) → take from (old ++ replicate (from + n - length old) 0) ≡ take from old ++ replicate (from - length old) 0
before_grown [] zero n = refl
before_grown [] (suc f) n =
    let all : suc f ≡ suc f - 0 = omega arith in
    take-replicate (suc f) (suc f + n - 0) 0 (omega arith) ∙ ap (λ k. replicate k 0) all
before_grown (o ∷ os) zero n =
    let none : 0 - length (o ∷ os) ≡ 0 = omega arith in
    ap (λ k. replicate k 0) (sym none)
before_grown (o ∷ os) (suc f) n =
    let left : suc f + n - length (o ∷ os) ≡ f + n - length os = omega arith in
    let hole : suc f - length (o ∷ os) ≡ f - length os = omega arith in
    ap (λ k. take (suc f) (o ∷ os ++ replicate k 0)) left ∙ (ap (λ l. o ∷ l) (before_grown os f n) ∙ ap (λ k. o ∷ take f os ++ replicate k 0) (sym hole))

-- the bytes behind it
behind_grown : (old : List ℕ) (end : ℕ) → drop end (grown old end) ≡ drop end old
behind_grown [] end =
    let none : end - 0 - end ≡ 0 = omega arith in
    drop-replicate end (end - 0) 0 ∙ (ap (λ k. replicate k 0) none ∙ sym (drop-nil end))
behind_grown (o ∷ os) zero =
    let none : 0 - length (o ∷ os) ≡ 0 = omega arith in
    ap (λ k. o ∷ os ++ replicate k 0) none ∙ append-nil (o ∷ os)
behind_grown (o ∷ os) (suc e) =
    let left : suc e - length (o ∷ os) ≡ e - length os = omega arith in
    ap (λ k. drop e (os ++ replicate k 0)) left ∙ behind_grown os e

-- what stands before a place doesn't change where the bytes grow further
front_grown : (old : List ℕ) (from n : ℕ) → take from (grown old (from + n)) ≡ take from (grown old from)
front_grown old from n =
    let plain : from + 0 ≡ from = omega arith in
    before_grown old from n ∙ sym (ap (λ (k : ℕ). take from (old ++ replicate (k - length old) 0)) (sym plain) ∙ before_grown old from 0)

pub over_grown : (old : List ℕ) (from : ℕ) (new : List ℕ) → (new ≡ [] → ⊥) → take from (grown old (from + length new)) ++ new ++ drop (from + length new) (grown old (from + length new)) ≡ overlay old from new
over_grown old from [] some = absurd (some refl)
over_grown old from (b ∷ bs) some =
    ap₂ (λ before behind. before ++ (b ∷ bs) ++ behind) (front_grown old from (length (b ∷ bs))) (behind_grown old (from + length (b ∷ bs)))
