-- What formats made of formats keep.
use Rattle.std.proofs.Common.{◌≡◌, ℕ, suc, ◌+◌, arith, Bool, true, false, cond, not, nat_eq, inl, inr, List, [], ◌∷◌, ◌++◌, length, take, drop, Option, Some, None, refl, sym, ap, subst, ◌∙◌, append_assoc}
use Rattle.std.specs.List.{find, list_all, starts_with, AllByRecursion}
use Rattle.std.specs.Cmp.Lexicographic.{same_text}
use Rattle.std.proofs.lemmas.Bool.{cases_Bool, cond-true, cond-false, and_parts, and_from}
use Rattle.std.proofs.lemmas.Bool.Decides.{Decides-eqb}
use Rattle.std.proofs.lemmas.List.{take_at, drop_at, take-append-drop}
use Rattle.std.proofs.lemmas.Slice.Eq.{starts_is}
use Rattle.sprite_ids.proofs.ListLaws.{some_is}
use Rattle.field_reader.specs.Reads.{Reads, found, beside, then_read, made, placed, chosen, sign_read, passed, in_word, ends_word, word_end, word_of, past_word}
use Rattle.field_reader.specs.ReadLaws.{some_pair, made_found, chosen_found, then_found, passed_is}
use Rattle.history_text.specs.Formats.{Format, Took, IsFormat, after_sign, behind_sign, with_sign, before_sign, parted, followed, made_of, chosen_by, within, word, same, Shape, Row, row, bare_row, row_read, named}

-- a test that passed
passed_pair : {A : Type 0} (b : Bool) (x y : A) (r s : List ℕ) → cond b (found x r) None ≡ found y s → (b ≡ true) × (x ≡ y) × (r ≡ s)
passed_pair true x y r s e = let same = some_pair x y r s e in (refl, same.0, same.1)
passed_pair false x y r s e = absurd cc

-- ---- signs

-- the bytes are the sign and the rest
pub sign_found : (sign bytes : List ℕ) (u : Unit {0}) (rest : List ℕ) → sign_read sign bytes ≡ found u rest → bytes ≡ sign ++ rest
sign_found sign bytes u rest e =
    let g = passed_pair (starts_with nat_eq bytes sign) tt u (drop (length sign) bytes) rest e in
    (starts_is Decides-eqb bytes sign (starts_with nat_eq bytes sign) refl).0 g.0 ∙ ap (λ r. sign ++ r) g.2

pub sign_again : (sign rest : List ℕ) → sign_read sign (sign ++ rest) ≡ found tt rest
sign_again sign rest =
    cond-true (starts_with nat_eq (sign ++ rest) sign) (found tt (drop (length sign) (sign ++ rest))) None ((starts_is Decides-eqb (sign ++ rest) sign (starts_with nat_eq (sign ++ rest) sign) refl).1 rest refl)
    ∙ ap (found tt) (drop_at sign rest (length sign) refl)

pub after_found : {A : Type 0} (reads : Reads (Unit {0})) (next : List ℕ → Reads A) (y : A) (rest : List ℕ) → after_sign reads next ≡ found y rest → (u : Unit {0}) × (between : List ℕ) × (reads ≡ found u between) × (next between ≡ found y rest)
after_found None next y rest e = absurd cc
after_found (Some (u, r)) next y rest e = (u, r, refl, e)

with_found : {A : Type 0} (x y : A) (reads : Reads (Unit {0})) (rest : List ℕ) → with_sign x reads ≡ found y rest → (u : Unit {0}) × (reads ≡ found u rest) × (x ≡ y)
with_found x y None rest e = absurd cc
with_found x y (Some (u, r)) rest e = let same = some_pair x y r rest e in (u, ap (found u) same.1, same.0)

before_found : {A : Type 0} (sign : List ℕ) (reads : Reads A) (y : A) (rest : List ℕ) → before_sign sign reads ≡ found y rest → (between : List ℕ) × (reads ≡ found y between) × (between ≡ sign ++ rest)
before_found sign None y rest e = absurd cc
before_found sign (Some (x, r)) y rest e =
    let m = with_found x y (sign_read sign r) rest e in
    (r, ap (λ z. found z r) m.2, sign_found sign r m.0 rest m.1)

-- ---- one value behind another

-- no word goes on at the sign
abbrev pub EndsWords : List ℕ → Type 0
EndsWords sign = (rest : List ℕ) → ends_word (sign ++ rest) ≡ true

parted_again : {A B : Type 0} (sign : List ℕ) (f : Format A) (g : Format B) → EndsWords sign → IsFormat f → IsFormat g → (p : A × B) (rest : List ℕ) → f.Fits p.0 × g.Fits p.1 → ends_word rest ≡ true
    → then_read (before_sign sign (f.read ((f.printed p.0 ++ (sign ++ g.printed p.1)) ++ rest))) g.read ≡ found p rest
parted_again sign f g ends first second p rest fits ends_rest =
    ap (λ bytes. then_read (before_sign sign (f.read bytes)) g.read) (append_assoc (f.printed p.0) (sign ++ g.printed p.1) rest)
    ∙ ap (λ bytes. then_read (before_sign sign (f.read (f.printed p.0 ++ bytes))) g.read) (append_assoc sign (g.printed p.1) rest)
    ∙ ap (λ reads. then_read (before_sign sign reads) g.read) (first.again p.0 (sign ++ (g.printed p.1 ++ rest)) fits.0 (ends (g.printed p.1 ++ rest)))
    ∙ ap (λ reads. then_read (with_sign p.0 reads) g.read) (sign_again sign (g.printed p.1 ++ rest))
    ∙ ap (beside p.0) (second.again p.1 rest fits.1 ends_rest)

parted_takes : {A B : Type 0} (sign : List ℕ) (f : Format A) (g : Format B) → IsFormat f → IsFormat g → (bytes : List ℕ) (p : A × B) (rest : List ℕ) → then_read (before_sign sign (f.read bytes)) g.read ≡ found p rest → Took (parted sign f g) bytes p rest
parted_takes sign f g first second bytes p rest e =
    let split = then_found (before_sign sign (f.read bytes)) g.read p rest e in
    let m = before_found sign (f.read bytes) p.0 split.0 split.1 in
    let a = first.takes bytes p.0 m.0 m.1 in
    let b = second.takes split.0 p.1 rest split.2 in
    record {
      parts = a.parts ∙ ap (λ left. f.printed p.0 ++ left) (m.2 ∙ ap (λ left. sign ++ left) b.parts ∙ sym (append_assoc sign (g.printed p.1) rest)) ∙ sym (append_assoc (f.printed p.0) (sign ++ g.printed p.1) rest);
      fits = (a.fits, b.fits);
    }

pub parted_is : {A B : Type 0} (sign : List ℕ) {f : Format A} {g : Format B} → EndsWords sign → IsFormat f → IsFormat g → IsFormat (parted sign f g)
parted_is sign {f = f} {g = g} ends first second = record { again = parted_again sign f g ends first second; takes = parted_takes sign f g first second }

space_ends : EndsWords (32 ∷ [])
space_ends rest = refl

pub then_is : {A B : Type 0} {f : Format A} {g : Format B} → IsFormat f → IsFormat g → IsFormat (parted (32 ∷ []) f g)
then_is first second = parted_is (32 ∷ []) space_ends first second

pub followed_again : {A : Type 0} (sign : List ℕ) (f : Format A) → EndsWords sign → IsFormat f → (x : A) (rest : List ℕ) → f.Fits x → before_sign sign (f.read ((f.printed x ++ sign) ++ rest)) ≡ found x rest
followed_again sign f ends is x rest fits =
    ap (λ bytes. before_sign sign (f.read bytes)) (append_assoc (f.printed x) sign rest)
    ∙ ap (before_sign sign) (is.again x (sign ++ rest) fits (ends rest))
    ∙ ap (with_sign x) (sign_again sign rest)

followed_takes : {A : Type 0} (sign : List ℕ) (f : Format A) → IsFormat f → (bytes : List ℕ) (x : A) (rest : List ℕ) → before_sign sign (f.read bytes) ≡ found x rest → Took (followed f sign) bytes x rest
followed_takes sign f is bytes x rest e =
    let m = before_found sign (f.read bytes) x rest e in
    let a = is.takes bytes x m.0 m.1 in
    record { parts = a.parts ∙ ap (λ left. f.printed x ++ left) m.2 ∙ sym (append_assoc (f.printed x) sign rest); fits = a.fits }

pub followed_is : {A : Type 0} (sign : List ℕ) {f : Format A} → EndsWords sign → IsFormat f → IsFormat (followed f sign)
followed_is sign {f = f} ends is = record { again = λ x rest fits ends_rest. followed_again sign f ends is x rest fits; takes = followed_takes sign f is }

-- ---- values made of values

made_of_takes : {A B : Type 0} (f : Format A) (make : A → B) (parts : B → A) → ((x : A) → parts (make x) ≡ x) → IsFormat f → (bytes : List ℕ) (y : B) (rest : List ℕ) → made make (f.read bytes) ≡ found y rest → Took (made_of f make parts) bytes y rest
made_of_takes f make parts forth is bytes y rest e =
    let m = made_found make (f.read bytes) y rest e in
    let took = subst (λ x. Took f bytes x rest) (sym (forth m.0) ∙ ap parts m.2) (is.takes bytes m.0 rest m.1) in
    record { parts = took.parts; fits = took.fits }

pub made_of_is : {A B : Type 0} {f : Format A} → IsFormat f → (make : A → B) (parts : B → A) → ((y : B) → make (parts y) ≡ y) → ((x : A) → parts (make x) ≡ x) → IsFormat (made_of f make parts)
made_of_is {f = f} is make parts back forth = record {
  again = λ y rest fits ends. ap (made make) (is.again (parts y) rest fits ends) ∙ ap (λ z. found z rest) (back y);
  takes = made_of_takes f make parts forth is;
}

-- ---- values that only some others give

pub record IsChoice {A B : Type 0} (f : Format A) (choose : A → Option B) (parts : B → A) (Is : B → Type 0) : Type 0 where
  pub back : (y : B) → Is y → choose (parts y) ≡ Some y
  pub forth : (x : A) (y : B) → f.Fits x → choose x ≡ Some y → (x ≡ parts y) × Is y
  pub fits : (y : B) → Is y → f.Fits (parts y)

chosen_takes : {A B : Type 0} (f : Format A) (choose : A → Option B) (parts : B → A) (Is : B → Type 0) → IsFormat f → IsChoice f choose parts Is → (bytes : List ℕ) (y : B) (rest : List ℕ) → chosen choose (f.read bytes) ≡ found y rest → Took (chosen_by f choose parts Is) bytes y rest
chosen_takes f choose parts Is is choice bytes y rest e =
    let m = chosen_found choose (f.read bytes) y rest e in
    let took = is.takes bytes m.0 rest m.1 in
    let from = choice.forth m.0 y took.fits m.2 in
    record { parts = took.parts ∙ ap (λ x. f.printed x ++ rest) from.0; fits = from.1 }

pub chosen_by_is : {A B : Type 0} {f : Format A} {choose : A → Option B} {parts : B → A} {Is : B → Type 0} → IsFormat f → IsChoice f choose parts Is → IsFormat (chosen_by f choose parts Is)
chosen_by_is {f = f} {choose = choose} {parts = parts} {Is = Is} is choice = record {
  again = λ y rest fits ends. ap (chosen choose) (is.again (parts y) rest (choice.fits y fits) ends) ∙ ap (λ o. placed o rest) (choice.back y fits);
  takes = chosen_takes f choose parts Is is choice;
}

passed_forth : {A : Type 0} (f : Format A) (test : A → Bool) (Is : A → Type 0) → ((x : A) → f.Fits x → test x ≡ true → Is x) → (x y : A) → f.Fits x → passed test x ≡ Some y → (x ≡ y) × Is y
passed_forth f test Is tells x y small e =
    let is = passed_is (test x) x y e in
    (is.1, subst Is is.1 (tells x small is.0))

-- the test tells which values are meant
pub within_is : {A : Type 0} {f : Format A} {test : A → Bool} {Is : A → Type 0} → IsFormat f → ((x : A) → Is x → test x ≡ true) → ((x : A) → f.Fits x → test x ≡ true → Is x) → ((x : A) → Is x → f.Fits x) → IsFormat (within f test Is)
within_is {f = f} {test = test} {Is = Is} is passes tells fits = chosen_by_is is (record {
  back = λ x h. cond-true (test x) (Some x) None (passes x h);
  forth = passed_forth f test Is tells;
  fits = fits;
})

pub find_holds : {A : Type 0} (test : A → Bool) (all : List A) (x : A) → find test all ≡ Some x → test x ≡ true
find_holds test [] x e = absurd cc
find_holds test (y ∷ ys) x e =
    elim (cases_Bool (test y)) [
      | inl yes' ↦ subst (λ z. test z ≡ true) (some_is y x (sym (cond-true (test y) (Some y) (find test ys) yes') ∙ e)) yes'
      | inr no' ↦ find_holds test ys x (sym (cond-false (test y) (Some y) (find test ys) no') ∙ e)
    ]

-- ---- words

-- a word ends where no word goes on
word_stops : (w rest : List ℕ) → list_all in_word w ≡ true → ends_word rest ≡ true → word_end (w ++ rest) ≡ length w
word_stops [] [] all ends = refl
word_stops [] (b ∷ bs) all ends = cond-false (not (not (in_word b))) (1 + word_end bs) 0 (ap not ends)
word_stops (c ∷ w) rest all ends =
    let both = and_parts (in_word c) (list_all in_word w) all in
    let more = word_stops w rest both.1 ends in
    let next : 1 + word_end (w ++ rest) ≡ suc (length w) = omega (arith, more) in
    cond-true (not (not (in_word c))) (1 + word_end (w ++ rest)) 0 (ap (λ b. not (not b)) both.0) ∙ next

pub word_again : (w rest : List ℕ) → list_all in_word w ≡ true → ends_word rest ≡ true → word_of (w ++ rest) ≡ w
word_again w rest all ends = ap (λ n. take n (w ++ rest)) (word_stops w rest all ends) ∙ take_at w rest (length w) refl

pub past_again : (w rest : List ℕ) → list_all in_word w ≡ true → ends_word rest ≡ true → past_word (w ++ rest) ≡ rest
past_again w rest all ends = ap (λ n. drop n (w ++ rest)) (word_stops w rest all ends) ∙ drop_at w rest (length w) refl

word_more : (b : ℕ) (bs : List ℕ) → in_word b ≡ true → word_of (b ∷ bs) ≡ b ∷ word_of bs
word_more b bs goes =
    let next : 1 + word_end bs ≡ suc (word_end bs) = omega arith in
    ap (λ n. take n (b ∷ bs)) (cond-true (not (not (in_word b))) (1 + word_end bs) 0 (ap (λ c. not (not c)) goes) ∙ next)

word_none : (b : ℕ) (bs : List ℕ) → in_word b ≡ false → word_of (b ∷ bs) ≡ []
word_none b bs stops = ap (λ n. take n (b ∷ bs)) (cond-false (not (not (in_word b))) (1 + word_end bs) 0 (ap (λ c. not (not c)) stops))

word_all : (bytes : List ℕ) → list_all in_word (word_of bytes) ≡ true
word_all [] = refl
word_all (b ∷ bs) =
    elim (cases_Bool (in_word b)) [
      | inl goes ↦ ap (list_all in_word) (word_more b bs goes) ∙ and_from (in_word b) (list_all in_word (word_of bs)) goes (word_all bs)
      | inr stops ↦ ap (list_all in_word) (word_none b bs stops)
    ]

word_takes : (bytes w rest : List ℕ) → found (word_of bytes) (past_word bytes) ≡ found w rest → Took word bytes w rest
word_takes bytes w rest e =
    let same = some_pair (word_of bytes) w (past_word bytes) rest e in
    record {
      parts = sym (take-append-drop (word_end bytes) bytes) ∙ ap (λ v. v ++ past_word bytes) same.0 ∙ ap (λ r. w ++ r) same.1;
      fits = subst (λ v. list_all in_word v ≡ true) same.0 (word_all bytes);
    }

pub word_is : IsFormat word
word_is = record {
  again = λ w rest all ends. ap (λ v. found v (past_word (w ++ rest))) (word_again w rest all ends) ∙ ap (found w) (past_again w rest all ends);
  takes = word_takes;
}

-- ---- values of several forms

-- what is read behind a name that stands before the end of a word
pub name_again : {B : Type 0} (rows : List (Row B)) (w rest : List ℕ) → list_all in_word w ≡ true → ends_word rest ≡ true → row_read rows (word_of (w ++ rest)) (past_word (w ++ rest)) ≡ row_read rows w rest
name_again rows w rest all ends = ap (λ v. row_read rows v (past_word (w ++ rest))) (word_again w rest all ends) ∙ ap (row_read rows w) (past_again w rest all ends)

-- the name and the bytes are the value's print and the rest
pub record TookForm {B : Type 0} (shape : B → Shape) (name : List ℕ) (bytes : List ℕ) (value : B) (rest : List ℕ) : Type 0 where
  pub parts : name ++ bytes ≡ (shape value).printed ++ rest
  pub fits : (shape value).Fits

-- what a row reads has the form of its name
pub IsRow : {B : Type 0} → (B → Shape) → Row B → Type 0
IsRow {B} shape r = (bytes : List ℕ) (value : B) (rest : List ℕ) → r.read bytes ≡ found value rest → TookForm shape r.name bytes value rest

pub row_is : {A B : Type 0} {f : Format A} (shape : B → Shape) (name : List ℕ) → IsFormat f → (make : A → B) → ((x : A) → (shape (make x)).printed ≡ name ++ 32 ∷ f.printed x) → ((x : A) → f.Fits x → (shape (make x)).Fits) → IsRow shape (row name f make)
unfolding IsRow
row_is {f = f} shape name is make printed fits bytes value rest e =
    let m = made_found make (behind_sign (32 ∷ []) f.read bytes) value rest e in
    let a = after_found (sign_read (32 ∷ []) bytes) f.read m.0 rest m.1 in
    let s = sign_found (32 ∷ []) bytes a.0 a.1 a.2 in
    let took = is.takes a.1 m.0 rest a.3 in
    subst (λ y. TookForm shape name bytes y rest) m.2 (record {
      parts = ap (λ left. name ++ left) (s ∙ ap (λ left. 32 ∷ left) took.parts) ∙ sym (append_assoc name (32 ∷ f.printed m.0) rest) ∙ ap (λ front. front ++ rest) (sym (printed m.0));
      fits = fits m.0 took.fits;
    })

pub bare_row_is : {B : Type 0} (shape : B → Shape) (name : List ℕ) (value : B) → (shape value).printed ≡ name → (shape value).Fits → IsRow shape (bare_row name value)
unfolding IsRow
bare_row_is shape name value printed fits bytes y rest e =
    let same = some_pair value y bytes rest e in
    subst (λ z. TookForm shape name bytes z rest) same.0 (record { parts = ap (λ front. front ++ bytes) (sym printed) ∙ ap (λ r. (shape value).printed ++ r) same.1; fits = fits })

rows_take : {B : Type 0} (shape : B → Shape) (rows : List (Row B)) → AllByRecursion (IsRow shape) rows → (name bytes : List ℕ) (value : B) (rest : List ℕ) → row_read rows name bytes ≡ found value rest → TookForm shape name bytes value rest
unfolding IsRow
rows_take shape [] are_rows name bytes value rest e = absurd cc
rows_take shape (r ∷ rows) are_rows name bytes value rest e =
    elim (cases_Bool (same name r.name)) [
      | inl is ↦ subst (λ n. TookForm shape n bytes value rest) (sym (same_text name r.name (sym is))) (are_rows.0 bytes value rest (sym (cond-true (same name r.name) (r.read bytes) (row_read rows name bytes) is) ∙ e))
      | inr other ↦ rows_take shape rows are_rows.1 name bytes value rest (sym (cond-false (same name r.name) (r.read bytes) (row_read rows name bytes) other) ∙ e)
    ]

named_takes : {B : Type 0} (shape : B → Shape) (rows : List (Row B)) → AllByRecursion (IsRow shape) rows → (bytes : List ℕ) (value : B) (rest : List ℕ) → row_read rows (word_of bytes) (past_word bytes) ≡ found value rest → Took (named shape rows) bytes value rest
named_takes shape rows are_rows bytes value rest e =
    let took = rows_take shape rows are_rows (word_of bytes) (past_word bytes) value rest e in
    record { parts = sym (take-append-drop (word_end bytes) bytes) ∙ took.parts; fits = took.fits }

pub named_is : {B : Type 0} (shape : B → Shape) (rows : List (Row B)) → ((value : B) (rest : List ℕ) → (shape value).Fits → ends_word rest ≡ true → (named shape rows).read ((shape value).printed ++ rest) ≡ found value rest) → AllByRecursion (IsRow shape) rows → IsFormat (named shape rows)
named_is shape rows again are_rows = record { again = again; takes = named_takes shape rows are_rows }
