-- What codecs made of codecs keep.
use Rattle.std.proofs.Common.{◌≡◌, ℕ, suc, Bool, true, ◌==◌, inl, inr, List, [], ◌∷◌, ◌++◌, Option, Some, None, refl, sym, ap, subst, ◌∙◌, append_assoc}
use Rattle.std.specs.List.{find, AllByRecursion}
use Rattle.std.proofs.lemmas.Bool.{cases_Bool, cond-true, cond-false, eqb-true}
use Rattle.sprite_ids.proofs.ListLaws.{some_is}
use Rattle.field_reader.specs.Reads.{Reads, found, beside, then_read, made, placed, chosen, passed}
use Rattle.field_reader.specs.ReadLaws.{some_pair, made_found, placed_found, chosen_found, then_found, passed_is}
use Rattle.wire_format.specs.Codec.{Codec, AreBytes, Took, IsCodec, counted, ◌before◌, made_of, chosen_by, within, byte_read, numbered, nothing, Shape, Row, row, row_read, tagged, optional_shape, optional}

-- ---- bytes

-- what stands behind a part of bytes is bytes
bytes_behind : (front rest : List ℕ) → AreBytes (front ++ rest) → AreBytes rest
bytes_behind [] rest are = are
bytes_behind (byte ∷ front) rest are = bytes_behind front rest (λ i. are (suc i))

pub bytes_left : {A : Type 0} (c : Codec A) (bytes : List ℕ) (x : A) (rest : List ℕ) → AreBytes bytes → Took c bytes x rest → AreBytes rest
bytes_left c bytes x rest are took = bytes_behind (c.spelled x) rest (subst AreBytes took.parts are)

-- ---- one value behind another

before_again : {A B : Type 0} (c : Codec A) (d : Codec B) → IsCodec c → IsCodec d → (p : A × B) (rest : List ℕ) → c.Fits p.0 × d.Fits p.1 → then_read (c.read ((c.spelled p.0 ++ d.spelled p.1) ++ rest)) d.read ≡ found p rest
before_again c d first second p rest fits =
    ap (λ bytes. then_read (c.read bytes) d.read) (append_assoc (c.spelled p.0) (d.spelled p.1) rest)
    ∙ ap (λ reads. then_read reads d.read) (first.again p.0 (d.spelled p.1 ++ rest) fits.0)
    ∙ ap (beside p.0) (second.again p.1 rest fits.1)

before_takes : {A B : Type 0} (c : Codec A) (d : Codec B) → IsCodec c → IsCodec d → (bytes : List ℕ) (p : A × B) (rest : List ℕ) → AreBytes bytes → then_read (c.read bytes) d.read ≡ found p rest → Took (c before d) bytes p rest
before_takes c d first second bytes p rest are e =
    let split = then_found (c.read bytes) d.read p rest e in
    let a = first.takes bytes p.0 split.0 are split.1 in
    let b = second.takes split.0 p.1 rest (bytes_left c bytes p.0 split.0 are a) split.2 in
    record { parts = a.parts ∙ ap (λ left. c.spelled p.0 ++ left) b.parts ∙ sym (append_assoc (c.spelled p.0) (d.spelled p.1) rest); fits = (a.fits, b.fits) }

pub before_is : {A B : Type 0} {c : Codec A} {d : Codec B} → IsCodec c → IsCodec d → IsCodec (c before d)
before_is {c = c} {d = d} first second = record { again = before_again c d first second; takes = before_takes c d first second }

-- ---- values made of values

made_of_takes : {A B : Type 0} (c : Codec A) (make : A → B) (parts : B → A) → ((x : A) → parts (make x) ≡ x) → IsCodec c → (bytes : List ℕ) (y : B) (rest : List ℕ) → AreBytes bytes → made make (c.read bytes) ≡ found y rest → Took (made_of c make parts) bytes y rest
made_of_takes c make parts forth is bytes y rest are e =
    let m = made_found make (c.read bytes) y rest e in
    let took = subst (λ x. Took c bytes x rest) (sym (forth m.0) ∙ ap parts m.2) (is.takes bytes m.0 rest are m.1) in
    record { parts = took.parts; fits = took.fits }

pub made_of_is : {A B : Type 0} {c : Codec A} → IsCodec c → (make : A → B) (parts : B → A) → ((y : B) → make (parts y) ≡ y) → ((x : A) → parts (make x) ≡ x) → IsCodec (made_of c make parts)
made_of_is {c = c} is make parts back forth = record {
  again = λ y rest fits. ap (made make) (is.again (parts y) rest fits) ∙ ap (λ z. found z rest) (back y);
  takes = made_of_takes c make parts forth is;
}

-- what a choice of a value keeps
pub record IsChoice {A B : Type 0} (c : Codec A) (choose : A → Option B) (parts : B → A) (Is : B → Type 0) : Type 0 where
  pub back : (y : B) → Is y → choose (parts y) ≡ Some y
  pub forth : (x : A) (y : B) → c.Fits x → choose x ≡ Some y → (x ≡ parts y) × Is y
  pub fits : (y : B) → Is y → c.Fits (parts y)

chosen_takes : {A B : Type 0} (c : Codec A) (choose : A → Option B) (parts : B → A) (Is : B → Type 0) → IsCodec c → IsChoice c choose parts Is → (bytes : List ℕ) (y : B) (rest : List ℕ) → AreBytes bytes → chosen choose (c.read bytes) ≡ found y rest → Took (chosen_by c choose parts Is) bytes y rest
chosen_takes c choose parts Is is choice bytes y rest are e =
    let m = chosen_found choose (c.read bytes) y rest e in
    let took = is.takes bytes m.0 rest are m.1 in
    let from = choice.forth m.0 y took.fits m.2 in
    record { parts = took.parts ∙ ap (λ x. c.spelled x ++ rest) from.0; fits = from.1 }

pub chosen_by_is : {A B : Type 0} {c : Codec A} {choose : A → Option B} {parts : B → A} {Is : B → Type 0} → IsCodec c → IsChoice c choose parts Is → IsCodec (chosen_by c choose parts Is)
chosen_by_is {c = c} {choose = choose} {parts = parts} {Is = Is} is choice = record {
  again = λ y rest fits. ap (chosen choose) (is.again (parts y) rest (choice.fits y fits)) ∙ ap (λ o. placed o rest) (choice.back y fits);
  takes = chosen_takes c choose parts Is is choice;
}

-- ---- values that pass a test

passed_forth : {A : Type 0} (c : Codec A) (test : A → Bool) (Is : A → Type 0) → ((x : A) → c.Fits x → test x ≡ true → Is x) → (x y : A) → c.Fits x → passed test x ≡ Some y → (x ≡ y) × Is y
passed_forth c test Is tells x y small e =
    let is = passed_is (test x) x y e in
    (is.1, subst Is is.1 (tells x small is.0))

-- the test tells which values are meant
pub within_is : {A : Type 0} {c : Codec A} {test : A → Bool} {Is : A → Type 0} → IsCodec c → ((x : A) → Is x → test x ≡ true) → ((x : A) → c.Fits x → test x ≡ true → Is x) → ((x : A) → Is x → c.Fits x) → IsCodec (within c test Is)
within_is {c = c} {test = test} {Is = Is} is passes tells fits = chosen_by_is is (record {
  back = λ x h. cond-true (test x) (Some x) None (passes x h);
  forth = passed_forth c test Is tells;
  fits = fits;
})

-- ---- values with numbers

find_holds : {A : Type 0} (test : A → Bool) (all : List A) (x : A) → find test all ≡ Some x → test x ≡ true
find_holds test [] x e = absurd cc
find_holds test (y ∷ ys) x e =
    elim (cases_Bool (test y)) [
      | inl yes' ↦ subst (λ z. test z ≡ true) (some_is y x (sym (cond-true (test y) (Some y) (find test ys) yes') ∙ e)) yes'
      | inr no' ↦ find_holds test ys x (sym (cond-false (test y) (Some y) (find test ys) no') ∙ e)
    ]

numbered_takes : {A : Type 0} (number : A → ℕ) (all : List A) (bytes : List ℕ) (x : A) (rest : List ℕ) → chosen (λ n. find (λ y. number y == n) all) (byte_read bytes) ≡ found x rest → bytes ≡ number x ∷ rest
numbered_takes number all [] x rest e = absurd cc
numbered_takes number all (n ∷ bytes) x rest e =
    let m = placed_found (find (λ y. number y == n) all) bytes x rest e in
    let same = eqb-true (number x) n (find_holds (λ y. number y == n) all x m.0) in
    ap (λ k. k ∷ bytes) (sym same) ∙ ap (λ r. number x ∷ r) m.1

-- each value is found by its number
pub numbered_is : {A : Type 0} (number : A → ℕ) (all : List A) → ((x : A) → find (λ y. number y == number x) all ≡ Some x) → IsCodec (numbered number all)
numbered_is number all back = record {
  again = λ x rest fits. ap (λ o. placed o rest) (back x);
  takes = λ bytes x rest are e. record { parts = numbered_takes number all bytes x rest e; fits = tt };
}

-- ---- values of several forms

pub counted_found : {A : Type 0} (reads : Reads ℕ) (next : ℕ → List ℕ → Reads A) (y : A) (rest : List ℕ) → counted reads next ≡ found y rest → (n : ℕ) × (between : List ℕ) × (reads ≡ found n between) × (next n between ≡ found y rest)
counted_found None next y rest e = absurd cc
counted_found (Some (n, r)) next y rest e = (n, r, refl, e)

byte_found : (bytes : List ℕ) (n : ℕ) (rest : List ℕ) → byte_read bytes ≡ found n rest → bytes ≡ n ∷ rest
byte_found [] n rest e = absurd cc
byte_found (b ∷ bytes) n rest e = let same = some_pair b n bytes rest e in ap (λ m. m ∷ bytes) same.0 ∙ ap (λ r. n ∷ r) same.1

pub nothing_is : IsCodec nothing
nothing_is = record {
  again = λ x rest fits. refl;
  takes = λ bytes x rest are e. record { parts = (some_pair tt x bytes rest e).1; fits = tt };
}

-- the number and the bytes are the value's spelling and the rest
pub record TookForm {B : Type 0} (shape : B → Shape) (tag : ℕ) (bytes : List ℕ) (value : B) (rest : List ℕ) : Type 0 where
  pub parts : tag ∷ bytes ≡ (shape value).spelled ++ rest
  pub fits : (shape value).Fits

-- what a row reads has the form of its number
pub IsRow : {B : Type 0} → (B → Shape) → Row B → Type 0
IsRow {B} shape r = (bytes : List ℕ) (value : B) (rest : List ℕ) → AreBytes bytes → r.read bytes ≡ found value rest → TookForm shape r.tag bytes value rest

pub row_is : {A B : Type 0} {c : Codec A} (shape : B → Shape) (tag : ℕ) → IsCodec c → (make : A → B) → ((x : A) → (shape (make x)).spelled ≡ tag ∷ c.spelled x) → ((x : A) → c.Fits x → (shape (make x)).Fits) → IsRow shape (row tag c make)
unfolding IsRow
row_is {c = c} shape tag is make spelled fits bytes value rest are e =
    let m = made_found make (c.read bytes) value rest e in
    let took = is.takes bytes m.0 rest are m.1 in
    subst (λ y. TookForm shape tag bytes y rest) m.2 (record {
      parts = ap (λ left. tag ∷ left) took.parts ∙ ap (λ front. front ++ rest) (sym (spelled m.0));
      fits = fits m.0 took.fits;
    })

rows_take : {B : Type 0} (shape : B → Shape) (rows : List (Row B)) → AllByRecursion (IsRow shape) rows → (tag : ℕ) (bytes : List ℕ) (value : B) (rest : List ℕ) → AreBytes bytes → row_read rows tag bytes ≡ found value rest → TookForm shape tag bytes value rest
unfolding IsRow
rows_take shape [] are_rows tag bytes value rest are e = absurd cc
rows_take shape (r ∷ rows) are_rows tag bytes value rest are e =
    elim (cases_Bool (tag == r.tag)) [
      | inl same ↦ subst (λ n. TookForm shape n bytes value rest) (sym (eqb-true tag r.tag same)) (are_rows.0 bytes value rest are (sym (cond-true (tag == r.tag) (r.read bytes) (row_read rows tag bytes) same) ∙ e))
      | inr other ↦ rows_take shape rows are_rows.1 tag bytes value rest are (sym (cond-false (tag == r.tag) (r.read bytes) (row_read rows tag bytes) other) ∙ e)
    ]

tagged_takes : {B : Type 0} (shape : B → Shape) (rows : List (Row B)) → AllByRecursion (IsRow shape) rows → (bytes : List ℕ) (value : B) (rest : List ℕ) → AreBytes bytes → counted (byte_read bytes) (row_read rows) ≡ found value rest → Took (tagged shape rows) bytes value rest
tagged_takes shape rows are_rows bytes value rest are e =
    let m = counted_found (byte_read bytes) (row_read rows) value rest e in
    let whole = byte_found bytes m.0 m.1 m.2 in
    let took = rows_take shape rows are_rows m.0 m.1 value rest (bytes_behind (m.0 ∷ []) m.1 (subst AreBytes whole are)) m.3 in
    record { parts = whole ∙ took.parts; fits = took.fits }

pub tagged_is : {B : Type 0} (shape : B → Shape) (rows : List (Row B)) → ((value : B) (rest : List ℕ) → (shape value).Fits → (tagged shape rows).read ((shape value).spelled ++ rest) ≡ found value rest) → AllByRecursion (IsRow shape) rows → IsCodec (tagged shape rows)
tagged_is shape rows again are_rows = record { again = again; takes = tagged_takes shape rows are_rows }

-- ---- values that may be away

optional_again : {A : Type 0} (c : Codec A) → IsCodec c → (o : Option A) (rest : List ℕ) → (optional_shape c o).Fits → (optional c).read ((optional_shape c o).spelled ++ rest) ≡ found o rest
optional_again c is None rest fits = refl
optional_again c is (Some x) rest fits = ap (made Some) (is.again x rest fits)

pub optional_is : {A : Type 0} {c : Codec A} → IsCodec c → IsCodec (optional c)
optional_is {A} {c} is =
    let none : Unit {0} → Option A = λ x. None in
    let some : A → Option A = λ x. Some x in
    tagged_is (optional_shape c) (row 0 nothing none ∷ row 1 c some ∷ []) (optional_again c is)
    (row_is (optional_shape c) 0 nothing_is none (λ x. refl) (λ x h. h), (row_is (optional_shape c) 1 is some (λ x. refl) (λ x h. h), tt))
