-- The labels of a text, noted line by line.
use Rattle.std.proofs.Common.{◌≡◌, ℕ, List, [], ◌∷◌, Bool, true, false, ◌||◌, refl, ap, sym, ◌∙◌, Option, Some, None, is_some, not, IsTrue}
use Rattle.program_text.specs.Words.{words_of}
use Rattle.program_text.specs.Labels.{label_of, is_named, defines}
use Rattle.program_text.specs.Names.{has}

swapped : (a b c : Bool) → ((a || b) || c) ≡ (b || (a || c))
swapped true true c = refl
swapped true false c = refl
swapped false true c = refl
swapped false false c = refl

or_false : (a : Bool) → (a || false) ≡ a
or_false true = refl
or_false false = refl

-- the label of one more line
pub noted_more : (old new lines rest all : List (List ℕ)) (line : List ℕ) → ((name : List ℕ) → (has old name || defines lines name) ≡ defines all name) → ((name : List ℕ) → has new name ≡ (is_named (label_of (words_of line)) name || has old name)) → lines ≡ line ∷ rest → (name : List ℕ) → (has new name || defines rest name) ≡ defines all name
noted_more old new lines rest all line so_far more cut name =
    ap (λ b. b || defines rest name) (more name)
    ∙ (swapped (is_named (label_of (words_of line)) name) (has old name) (defines rest name)
    ∙ (ap (λ ls. has old name || defines ls name) (sym cut) ∙ so_far name))

-- no line is left
pub noted_all : (names lines all : List (List ℕ)) → ((name : List ℕ) → (has names name || defines lines name) ≡ defines all name) → lines ≡ [] → (name : List ℕ) → has names name ≡ defines all name
noted_all names lines all so_far none name =
    sym (or_false (has names name)) ∙ (ap (λ ls. has names name || defines ls name) (sym none) ∙ so_far name)

-- what tells the same of each name is the same
pub all_names : (f g : List ℕ → Bool) → ((name : List ℕ) → f name ≡ g name) → f ≡ g
all_names f g h = λ i. λ name. h name i

-- nothing was there
pub none_there : (o : Option ℕ) (b : Bool) → is_some o ≡ not b → IsTrue b → o ≡ None
none_there None b e h = refl
none_there (Some place) b e h = cc
