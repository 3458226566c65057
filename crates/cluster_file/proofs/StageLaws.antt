-- What an answer that isn't refused says of each stage that gave it.
use Rattle.std.proofs.Common.{◌≡◌, ℕ, List, [], ◌∷◌, ◌++◌, length, map, Bool, true, Option, Some, None, Result, Ok, Err, refl, sym, ap, subst, ◌∙◌}
use Rattle.std.specs.Option.{option_map}
use Rattle.std.specs.List.{AllByRecursion, list_all}
use Rattle.std.proofs.lemmas.Bool.{and_from}
use Rattle.std.proofs.lemmas.List.{append-nil, length-map}
use Rattle.sprite_ids.proofs.ListLaws.{each_push}
use Rattle.cluster_file.specs.declared.refusal.Refusal.{Refusal}
use Rattle.cluster_file.specs.Refusals.{and_then, unless, else_first, put_behind, read_on, read_all}

-- what is made of an answer is given where that one is
pub then_ok : {A B : Type 0} (next : A → Result B Refusal) (answer : Result A Refusal) (y : B) → and_then next answer ≡ Ok y → (x : A) × (answer ≡ Ok x) × (next x ≡ Ok y)
then_ok next (Ok x) y e = (x, refl, e)
then_ok next (Err r) y e = absurd (cc)

-- an answer is given where nothing is refused before
pub unless_ok : {A : Type 0} (first : Option Refusal) (answer : Result A Refusal) (x : A) → unless first answer ≡ Ok x → (first ≡ None) × (answer ≡ Ok x)
unless_ok None answer x e = (refl, e)
unless_ok (Some r) answer x e = absurd (cc)

-- nothing is mapped to nothing
pub mapped_none : {A B : Type 0} (f : A → B) (o : Option A) → option_map f o ≡ None → o ≡ None
mapped_none f None e = refl
mapped_none f (Some x) e = absurd (cc)

-- neither of two refusals
pub neither : (first second : Option Refusal) → else_first first second ≡ None → (first ≡ None) × (second ≡ None)
neither None second e = (refl, e)
neither (Some r) second e = absurd (cc)

-- what holds of what is left and of what was read holds at the end
read_by : {A B : Type 0} (I : List A → List B → Type 0) (read : List B → A → Result B Refusal) (x : A) (rest : List A) (ys zs : List B) (answer : Result B Refusal) → ((y : B) → answer ≡ Ok y → read_on read (Ok (ys ++ y ∷ [])) rest ≡ Ok zs → I [] zs) → read_on read (put_behind ys answer) rest ≡ Ok zs → I [] zs
read_by I read x rest ys zs (Ok y) go e = go y refl e
read_by I read x rest ys zs (Err r) go e = absurd (cc)

-- so it is along the whole list
pub read_leads : {A B : Type 0} (I : List A → List B → Type 0) (read : List B → A → Result B Refusal) → ((x : A) (rest : List A) (ys : List B) (y : B) → read ys x ≡ Ok y → I (x ∷ rest) ys → I rest (ys ++ y ∷ [])) → (xs : List A) (ys zs : List B) → I xs ys → read_on read (Ok ys) xs ≡ Ok zs → I [] zs
read_leads {A} {B} I read step [] ys zs h e = let same : ys ≡ zs = cc in subst (λ (l : List B). I [] l) same h
read_leads {A} {B} I read step (x ∷ xs) ys zs h e =
    read_by I read x xs ys zs (read ys x) (λ (y : B) (is : read ys x ≡ Ok y) (rest : read_on read (Ok (ys ++ y ∷ [])) xs ≡ Ok zs). read_leads I read step xs (ys ++ y ∷ []) zs (step x xs ys y is h) rest) e

-- a fact of each item gives one of each item that was read
pub reads_each : {A B : Type 0} (Q : A → Type 0) (P : B → Type 0) (read : List B → A → Result B Refusal) → ((ys : List B) (x : A) (y : B) → Q x → read ys x ≡ Ok y → P y) → (xs : List A) (zs : List B) → AllByRecursion Q xs → read_all read xs ≡ Ok zs → AllByRecursion P zs
reads_each {A} {B} Q P read each xs zs h e =
    (read_leads (λ (left : List A) (ys : List B). AllByRecursion Q left × AllByRecursion P ys) read
    (λ (x : A) (rest : List A) (ys : List B) (y : B) (is : read ys x ≡ Ok y) (k : AllByRecursion Q (x ∷ rest) × AllByRecursion P ys). (k.0.1, each_push P ys y k.1 (each ys x y k.0.0 is)))
    xs [] zs (h, tt) e).1

-- no fact is needed
pub each_free : {A : Type 0} (xs : List A) → AllByRecursion (λ (x : A). Unit {0}) xs
each_free [] = tt
each_free (x ∷ xs) = (tt, each_free xs)

-- so that a fact of all that is read needs none of the items
pub reads_all : {A B : Type 0} (P : B → Type 0) (read : List B → A → Result B Refusal) → ((ys : List B) (x : A) (y : B) → read ys x ≡ Ok y → P y) → (xs : List A) (zs : List B) → read_all read xs ≡ Ok zs → AllByRecursion P zs
reads_all {A} {B} P read each xs zs e =
    reads_each (λ (x : A). Unit {0}) P read (λ (ys : List B) (x : A) (y : B) (free : Unit {0}) (is : read ys x ≡ Ok y). each ys x y is) xs zs (each_free xs) e

-- what was read keeps what each item had
pub mapped_push : {B C : Type 0} (f : B → C) (ys : List B) (y : B) (more : List C) → map f (ys ++ y ∷ []) ++ more ≡ map f ys ++ f y ∷ more
mapped_push f [] y more = refl
mapped_push f (z ∷ ys) y more = ap (λ rest. f z ∷ rest) (mapped_push f ys y more)

-- what each that was read keeps of its item, all keep in order
pub reads_same : {A B C : Type 0} (f : B → C) (g : A → C) (read : List B → A → Result B Refusal) → ((ys : List B) (x : A) (y : B) → read ys x ≡ Ok y → f y ≡ g x) → (xs : List A) (zs : List B) → read_all read xs ≡ Ok zs → map f zs ≡ map g xs
reads_same {A} {B} {C} f g read each xs zs e =
    sym (append-nil (map f zs)) ∙
    read_leads (λ (left : List A) (ys : List B). map f ys ++ map g left ≡ map g xs) read
    (λ (x : A) (rest : List A) (ys : List B) (y : B) (is : read ys x ≡ Ok y) (k : map f ys ++ map g (x ∷ rest) ≡ map g xs). mapped_push f ys y (map g rest) ∙ ap (λ (c : C). map f ys ++ c ∷ map g rest) (each ys x y is) ∙ k)
    xs [] zs refl e

-- what was read has as many items
pub reads_count : {A B : Type 0} (read : List B → A → Result B Refusal) (xs : List A) (zs : List B) → read_all read xs ≡ Ok zs → length zs ≡ length xs
reads_count {A} {B} read xs zs e =
    let f : B → ℕ = λ (z : B). 0 in
    let g : A → ℕ = λ (x : A). 0 in
    sym (length-map zs f) ∙ ap length (reads_same f g read (λ (ys : List B) (x : A) (y : B) (is : read ys x ≡ Ok y). refl) xs zs e) ∙ length-map xs g

-- a fact of what was read that each item keeps
pub reads_keeps : {A B : Type 0} (I : List B → Type 0) (read : List B → A → Result B Refusal) → ((ys : List B) (x : A) (y : B) → read ys x ≡ Ok y → I ys → I (ys ++ y ∷ [])) → (xs : List A) (zs : List B) → I [] → read_all read xs ≡ Ok zs → I zs
reads_keeps {A} {B} I read step xs zs h e =
    read_leads (λ (left : List A) (ys : List B). I ys) read (λ (x : A) (rest : List A) (ys : List B) (y : B) (is : read ys x ≡ Ok y) (k : I ys). step ys x y is k) xs [] zs h e

-- a test of each item
pub all_passed : {A : Type 0} (p : A → Bool) (xs : List A) → AllByRecursion (λ (x : A). p x ≡ true) xs → list_all p xs ≡ true
all_passed p [] h = refl
all_passed p (x ∷ xs) h = and_from (p x) (list_all p xs) h.0 (all_passed p xs h.1)
