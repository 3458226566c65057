-- A listing is read as it was printed, and a text is the print of one list of items at most.
use Rattle.std.proofs.Common.{◌≡◌, ℕ, ◌<◌, Bool, true, false, ◌||◌, inl, inr, List, [], ◌∷◌, ◌++◌, ◌+◌, length, None, refl, sym, ap, ap₂, ◌∙◌, append_assoc, arith}
use Rattle.std.specs.Prelude.{codes}
use Rattle.std.specs.List.{flat_map, AllByRecursion}
use Rattle.std.specs.Cmp.Lexicographic.{same_text}
use Rattle.std.proofs.lemmas.Bool.{cases_Bool}
use Rattle.std.proofs.lemmas.List.{append-nil, length-append}
use Rattle.std.proofs.lemmas.List.Concat.{flat_map-append}
use Rattle.sprite_ids.proofs.ListLaws.{each_push}
use Rattle.field_reader.specs.Reads.{found}
use Rattle.field_reader.specs.ReadLaws.{some_pair}
use Rattle.history_text.specs.Formats.{Format, IsFormat, Took, followed, same}
use Rattle.history_text.specs.Listings.{IsFirstOther, IsListing, is_end}
use Rattle.history_text.proofs.FormatLaws.{EndsWords, followed_again, followed_is}

-- an item's line
abbrev pub lined : {A : Type 0} → Format A → Format A
lined f = followed f (codes "\n")

pub line_ends : EndsWords (codes "\n")
line_ends rest = refl

-- a line is read wherever it stands
line_again : {A : Type 0} (f : Format A) → IsFormat f → (x : A) (rest : List ℕ) → f.Fits x → (lined f).read ((lined f).printed x ++ rest) ≡ found x rest
line_again f is x rest fits = followed_again (codes "\n") f line_ends is x rest fits

line_took : {A : Type 0} (f : Format A) → IsFormat f → (from : List ℕ) (x : A) (after : List ℕ) → (lined f).read from ≡ found x after → Took (lined f) from x after
line_took f is from x after reads = (followed_is (codes "\n") {f = f} line_ends is).takes from x after reads

-- ---- reading on

pub shorter : {A : Type 0} (f : Format A) → IsFormat f → (from : List ℕ) (x : A) (after : List ℕ) → (lined f).read from ≡ found x after → length after < length from
shorter f is from x after reads =
    let took = line_took f is from x after reads in
    let one = ap length took.parts in
    let two = length-append ((lined f).printed x) after in
    let three = length-append (f.printed x) (codes "\n") in
    omega (arith, one, two, three)

pub parts_on : {A : Type 0} (f : Format A) → IsFormat f → (text from : List ℕ) (items : List A) (x : A) (after : List ℕ) → text ≡ flat_map (lined f).printed items ++ from → (lined f).read from ≡ found x after → text ≡ flat_map (lined f).printed (items ++ x ∷ []) ++ after
parts_on f is text from items x after parts reads =
    let took = line_took f is from x after reads in
    let lines = flat_map (lined f).printed items in
    let line = (lined f).printed x in
    parts
    ∙ ap (λ rest. lines ++ rest) (took.parts ∙ ap (λ front. front ++ after) (sym (append-nil line)))
    ∙ sym (append_assoc lines (line ++ []) after)
    ∙ ap (λ front. front ++ after) (sym (flat_map-append (lined f).printed items (x ∷ [])))

pub lines_on : {A : Type 0} (f : Format A) → IsFormat f → (from : List ℕ) (items : List A) (x : A) (after : List ℕ) → AllByRecursion f.Fits items → (lined f).read from ≡ found x after → AllByRecursion f.Fits (items ++ x ∷ [])
lines_on f is from items x after have reads = each_push f.Fits items x have (line_took f is from x after reads).fits

-- no line of an item stands where none is read
pub none_stands : {A : Type 0} (f : Format A) → IsFormat f → (rest : List ℕ) → (lined f).read rest ≡ None → (x : A) (behind : List ℕ) → f.Fits x → rest ≡ (lined f).printed x ++ behind → ⊥
none_stands f is rest none x behind fits at =
    let some = sym none ∙ ap (lined f).read at ∙ line_again f is x behind fits in
    absurd cc

-- ---- one list at most

-- no item is read where a listing may end
pub record ReadsNoEnd {A : Type 0} (f : Format A) : Type 0 where
  pub nothing : (lined f).read [] ≡ None
  pub budget : (lined f).read (codes "budget\n") ≡ None
  pub stalled : (lined f).read (codes "stalled\n") ≡ None

last_of : (a b c : Bool) → a ≡ false → b ≡ false → (a || b || c) ≡ true → c ≡ true
last_of true b c one two e = absurd cc
last_of false true c one two e = absurd cc
last_of false false c one two e = e

end_is_no_line : {A : Type 0} (f : Format A) → ReadsNoEnd f → (rest : List ℕ) → is_end rest ≡ true → (lined f).read rest ≡ None
end_is_no_line f bars rest ends =
    elim (cases_Bool (same rest [])) [
      | inl empty ↦ ap (lined f).read (same_text rest [] (sym empty)) ∙ bars.nothing
      | inr some ↦
          elim (cases_Bool (same rest (codes "budget\n"))) [
            | inl budget ↦ ap (lined f).read (same_text rest (codes "budget\n") (sym budget)) ∙ bars.budget
            | inr other ↦ ap (lined f).read (same_text rest (codes "stalled\n") (sym (last_of (same rest []) (same rest (codes "budget\n")) (same rest (codes "stalled\n")) some other ends))) ∙ bars.stalled
          ]
    ]

-- two lines at the front of one text are the same
same_line : {A : Type 0} (f : Format A) → IsFormat f → (x y : A) (r s : List ℕ) → f.Fits x → f.Fits y → (lined f).printed x ++ r ≡ (lined f).printed y ++ s → (x ≡ y) × (r ≡ s)
same_line f is x y r s one two at =
    some_pair x y r s (sym (line_again f is x r one) ∙ ap (lined f).read at ∙ line_again f is y s two)

regroup : {A : Type 0} (f : Format A) (x : A) (xs : List A) (rest : List ℕ) → flat_map (lined f).printed (x ∷ xs) ++ rest ≡ (lined f).printed x ++ (flat_map (lined f).printed xs ++ rest)
regroup f x xs rest = append_assoc ((lined f).printed x) (flat_map (lined f).printed xs) rest

-- no line of an item stands there
abbrev NoLine : {A : Type 0} → Format A → List ℕ → Type 0
NoLine {A = A} f rest = (x : A) (behind : List ℕ) → f.Fits x → rest ≡ (lined f).printed x ++ behind → ⊥

-- what stands behind two readings of one text
same_front : {A : Type 0} (f : Format A) → IsFormat f → (xs ys : List A) (r s : List ℕ) → AllByRecursion f.Fits xs → AllByRecursion f.Fits ys → NoLine f r → NoLine f s → flat_map (lined f).printed xs ++ r ≡ flat_map (lined f).printed ys ++ s → (xs ≡ ys) × (r ≡ s)
same_front f is [] [] r s one two no_r no_s at = (refl, at)
same_front f is [] (y ∷ ys) r s one two no_r no_s at = absurd (no_r y (flat_map (lined f).printed ys ++ s) two.0 (at ∙ regroup f y ys s))
same_front f is (x ∷ xs) [] r s one two no_r no_s at = absurd (no_s x (flat_map (lined f).printed xs ++ r) one.0 (sym at ∙ regroup f x xs r))
same_front f is (x ∷ xs) (y ∷ ys) r s one two no_r no_s at =
    let line = same_line f is x y (flat_map (lined f).printed xs ++ r) (flat_map (lined f).printed ys ++ s) one.0 two.0 (sym (regroup f x xs r) ∙ at ∙ regroup f y ys s) in
    let more = same_front f is xs ys r s one.1 two.1 no_r no_s line.1 in
    (ap₂ (λ z zs. z ∷ zs) line.0 more.0, more.1)

pub one_listing : {A : Type 0} (f : Format A) → IsFormat f → ReadsNoEnd f → (text : List ℕ) (xs ys : List A) → IsListing (lined f) text xs → IsListing (lined f) text ys → xs ≡ ys
one_listing f is bars text xs ys one two =
    (same_front f is xs ys one.rest two.rest one.have_lines two.have_lines (none_stands f is one.rest (end_is_no_line f bars one.rest one.ends)) (none_stands f is two.rest (end_is_no_line f bars two.rest two.ends)) (sym one.parts ∙ two.parts)).0

pub no_bad_line : {A : Type 0} (f : Format A) → IsFormat f → ReadsNoEnd f → (text : List ℕ) (xs : List A) (number : ℕ) → IsListing (lined f) text xs → IsFirstOther (lined f) text number → ⊥
no_bad_line f is bars text xs number listed bad =
    let both = same_front f is xs bad.items listed.rest bad.rest listed.have_lines bad.have_lines (none_stands f is listed.rest (end_is_no_line f bars listed.rest listed.ends)) bad.bad (sym listed.parts ∙ bad.parts) in
    let same_end = sym listed.ends ∙ ap is_end both.1 ∙ bad.goes_on in
    absurd cc

pub one_bad_line : {A : Type 0} (f : Format A) → IsFormat f → (text : List ℕ) (m n : ℕ) → IsFirstOther (lined f) text m → IsFirstOther (lined f) text n → m ≡ n
one_bad_line {A = A} f is text m n one two =
    let both = same_front f is one.items two.items one.rest two.rest one.have_lines two.have_lines one.bad two.bad (sym one.parts ∙ two.parts) in
    one.counted ∙ ap (λ (xs : List A). length xs + 1) both.0 ∙ sym two.counted

pub printed_is : {A : Type 0} (f : Format A) (xs : List A) → AllByRecursion f.Fits xs → IsListing (lined f) (flat_map (lined f).printed xs) xs
printed_is f xs have = record { rest = []; parts = sym (append-nil (flat_map (lined f).printed xs)); have_lines = have; ends = refl }
