-- The pages of an image, one behind another.
use Rattle.std.proofs.Common.{◌≡◌, ℕ, zero, suc, ◌+◌, ◌<◌, ◌↔◌, List, [], ◌∷◌, ◌++◌, length, take, Option, Some, None, IsSome, refl, sym, ap, ◌∙◌, append_assoc, arith, inl, inr}
use Rattle.std.specs.Prelude.{IfSome}
use Rattle.std.specs.List.{flat_map}
use Rattle.std.proofs.lemmas.Bool.{cases_Bool, cond-true, cond-false}
use Rattle.std.proofs.lemmas.List.{append-nil}
use Rattle.std.proofs.lemmas.List.Concat.{flat_map-append, flat_map-cons}
use Rattle.process_machine.specs.Machine.{Machine, ArePages}
use Rattle.process_machine.specs.Memory.{page_of}
use Rattle.field_reader.specs.Reads.{passed}
use Rattle.wire_format.specs.Objects.{are_pages}
use Rattle.wire_format.specs.ObjectLaws.{pages_test, pages_told}

-- an image that comes exactly of an image's pages
pub image_chosen : (o : Option Machine) (m : Machine) → IsSome o ↔ ArePages m.pages → IfSome o (λ i. i ≡ m) → o ≡ passed (λ i. are_pages i.pages) m
image_chosen (Some i) m some value = ap Some value ∙ sym (cond-true (are_pages m.pages) (Some m) None (pages_test m.pages (some.0 refl)))
image_chosen None m some value =
    elim (cases_Bool (are_pages m.pages)) [
      | inl are ↦ let none = some.1 (pages_told m.pages are) in absurd cc
      | inr other ↦ sym (cond-false (are_pages m.pages) (Some m) None other)
    ]

-- one page more
pub one_page_more : (pages : List (Option (List ℕ))) (i : ℕ) → i < length pages → take (suc i) pages ≡ take i pages ++ page_of pages i ∷ []
one_page_more [] i lt = absurd (omega (arith, lt))
one_page_more (page ∷ pages) zero lt = refl
one_page_more (page ∷ pages) (suc i) lt = ap (λ more. page ∷ more) (one_page_more pages i (omega (arith, lt)))

pub put_more : (spelled : Option (List ℕ) → List ℕ) (pages : List (Option (List ℕ))) (i : ℕ) (before out after : List ℕ) → i < length pages → out ≡ before ++ flat_map spelled (take i pages) → after ≡ out ++ spelled (page_of pages i) → after ≡ before ++ flat_map spelled (take (i + 1) pages)
put_more spelled pages i before out after lt so_far more =
    let next : suc i ≡ i + 1 = omega arith in
    more
    ∙ ap (λ front. front ++ spelled (page_of pages i)) so_far
    ∙ append_assoc before (flat_map spelled (take i pages)) (spelled (page_of pages i))
    ∙ ap (λ back. before ++ (flat_map spelled (take i pages) ++ back)) (sym (flat_map-cons spelled (page_of pages i) [] ∙ append-nil (spelled (page_of pages i))))
    ∙ ap (λ all. before ++ all) (sym (flat_map-append spelled (take i pages) (page_of pages i ∷ [])))
    ∙ ap (λ all. before ++ flat_map spelled all) (sym (one_page_more pages i lt))
    ∙ ap (λ n. before ++ flat_map spelled (take n pages)) next
