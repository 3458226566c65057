-- What readings of several parts tell of each part.
use Rattle.std.proofs.Common.{◌≡◌, ℕ, Bool, true, false, cond, List, Option, Some, None, refl, ap, ◌∙◌}
use Rattle.sprite_ids.proofs.ListLaws.{some_is}
use Rattle.field_reader.specs.Reads.{Reads, found, beside, then_read, made, placed, chosen}

pub some_pair : {A : Type 0} (x y : A) (r s : List ℕ) → found x r ≡ found y s → (x ≡ y) × (r ≡ s)
some_pair {A} x y r s e =
    let front : A × List ℕ = (x, r) in
    let back : A × List ℕ = (y, s) in
    let same = some_is front back e in
    (ap (λ (p : A × List ℕ). p.0) same, ap (λ (p : A × List ℕ). p.1) same)

pub made_found : {A B : Type 0} (f : A → B) (reads : Reads A) (y : B) (rest : List ℕ) → made f reads ≡ found y rest → (x : A) × (reads ≡ found x rest) × (f x ≡ y)
made_found f None y rest e = absurd cc
made_found f (Some (x, r)) y rest e = let same = some_pair (f x) y r rest e in (x, ap (found x) same.1, same.0)

pub placed_found : {A : Type 0} (o : Option A) (r : List ℕ) (y : A) (rest : List ℕ) → placed o r ≡ found y rest → (o ≡ Some y) × (r ≡ rest)
placed_found None r y rest e = absurd cc
placed_found (Some x) r y rest e = let same = some_pair x y r rest e in (ap Some same.0, same.1)

pub chosen_found : {A B : Type 0} (f : A → Option B) (reads : Reads A) (y : B) (rest : List ℕ) → chosen f reads ≡ found y rest → (x : A) × (reads ≡ found x rest) × (f x ≡ Some y)
chosen_found f None y rest e = absurd cc
chosen_found f (Some (x, r)) y rest e = let is = placed_found (f x) r y rest e in (x, ap (found x) is.1, is.0)

pub beside_found : {A B : Type 0} (x : A) (reads : Reads B) (p : A × B) (rest : List ℕ) → beside x reads ≡ found p rest → (x ≡ p.0) × (reads ≡ found p.1 rest)
beside_found x None p rest e = absurd cc
beside_found {A} {B} x (Some (y, r)) p rest e =
    let pair : A × B = (x, y) in
    let same = some_pair pair p r rest e in
    (ap (λ (q : A × B). q.0) same.0, ap (λ (q : A × B). found q.1 r) same.0 ∙ ap (found p.1) same.1)

pub then_found : {A B : Type 0} (reads : Reads A) (next : List ℕ → Reads B) (p : A × B) (rest : List ℕ) → then_read reads next ≡ found p rest → (between : List ℕ) × (reads ≡ found p.0 between) × (next between ≡ found p.1 rest)
then_found None next p rest e = absurd cc
then_found (Some (x, r)) next p rest e = let is = beside_found x (next r) p rest e in (r, ap (λ z. found z r) is.0, is.1)

pub passed_is : {A : Type 0} (b : Bool) (x y : A) → cond b (Some x) None ≡ Some y → (b ≡ true) × (x ≡ y)
passed_is true x y e = (refl, some_is x y e)
passed_is false x y e = absurd cc
