-- How values are printed one behind another on a line, and read again.
use Rattle.std.specs.Prelude.{◌≡◌, ℕ, Bool, true, if◌then◌else◌, List, [], ◌∷◌, ◌++◌, Option, Some, None, nat_eq}
use Rattle.std.specs.List.{list_all}
use Rattle.std.specs.Cmp.Lexicographic.{pointwise}
use Rattle.field_reader.specs.Reads.{Reads, then_read, made, chosen, passed, sign_read, in_word, ends_word, word_of, past_word}

-- the one way to print the values of a type: which values are printed, how, and the reading
pub record Format (A : Type 0) : Type 1 where
  pub Fits : A → Type 0
  pub printed : A → List ℕ
  pub read : List ℕ → Reads A

-- the bytes are the value's print and the rest
pub record Took {A : Type 0} (format : Format A) (bytes : List ℕ) (value : A) (rest : List ℕ) : Type 0 where
  pub parts : bytes ≡ format.printed value ++ rest
  pub fits : format.Fits value

-- what is printed is read again where no word goes on behind it, and what is read is printed so
pub record IsFormat {A : Type 0} (format : Format A) : Type 0 where
  pub again : (value : A) (rest : List ℕ) → format.Fits value → ends_word rest ≡ true → format.read (format.printed value ++ rest) ≡ Some (value, rest)
  pub takes : (bytes : List ℕ) (value : A) (rest : List ℕ) → format.read bytes ≡ Some (value, rest) → Took format bytes value rest

-- ---- signs between values

-- what is read behind a sign
abbrev pub after_sign : {A : Type 0} → Reads (Unit {0}) → (List ℕ → Reads A) → Reads A
after_sign None next = None
after_sign (Some (sign, rest)) next = next rest

-- a value behind a sign
abbrev pub behind_sign : {A : Type 0} → List ℕ → (List ℕ → Reads A) → List ℕ → Reads A
behind_sign sign read bytes = after_sign (sign_read sign bytes) read

-- a value before a sign
abbrev pub with_sign : {A : Type 0} → A → Reads (Unit {0}) → Reads A
with_sign x None = None
with_sign x (Some (sign, rest)) = Some (x, rest)

abbrev pub before_sign : {A : Type 0} → List ℕ → Reads A → Reads A
before_sign sign None = None
before_sign sign (Some (x, rest)) = with_sign x (sign_read sign rest)

-- a value, a sign, and another value
abbrev pub parted : {A B : Type 0} → List ℕ → Format A → Format B → Format (A × B)
parted sign f g = record {
  Fits = λ pair. f.Fits pair.0 × g.Fits pair.1;
  printed = λ pair. f.printed pair.0 ++ (sign ++ g.printed pair.1);
  read = λ bytes. then_read (before_sign sign (f.read bytes)) g.read;
}

-- a value, a space, and another value
infixr 10 ◌then◌
abbrev pub ◌then◌ : {A B : Type 0} → Format A → Format B → Format (A × B)
f then g = parted (32 ∷ []) f g

-- a value with a sign behind it
abbrev pub followed : {A : Type 0} → Format A → List ℕ → Format A
followed f sign = record {
  Fits = f.Fits;
  printed = λ x. f.printed x ++ sign;
  read = λ bytes. before_sign sign (f.read bytes);
}

-- a value that is made of others, printed as those
abbrev pub made_of : {A B : Type 0} → Format A → (A → B) → (B → A) → Format B
made_of f make parts = record {
  Fits = λ value. f.Fits (parts value);
  printed = λ value. f.printed (parts value);
  read = λ bytes. made make (f.read bytes);
}

-- a value that only some others give, printed as those
abbrev pub chosen_by : {A B : Type 0} → Format A → (A → Option B) → (B → A) → (B → Type 0) → Format B
chosen_by f choose parts Is = record {
  Fits = Is;
  printed = λ value. f.printed (parts value);
  read = λ bytes. chosen choose (f.read bytes);
}

-- the values that pass a test
abbrev pub within : {A : Type 0} → Format A → (A → Bool) → (A → Type 0) → Format A
within f test Is = chosen_by f (passed test) (λ x. x) Is

-- ---- words

abbrev pub word : Format (List ℕ)
word = record {
  Fits = λ w. list_all in_word w ≡ true;
  printed = λ w. w;
  read = λ bytes. Some (word_of bytes, past_word bytes);
}

-- whether two words are the same
abbrev pub same : List ℕ → List ℕ → Bool
same = pointwise nat_eq

-- ---- values of several forms, each with a name before it

-- when a value is printed, and how
pub record Shape : Type 1 where
  pub Fits : Type 0
  pub printed : List ℕ

-- a name alone
abbrev pub bare : List ℕ → Shape
bare name = record { Fits = Unit {0}; printed = name }

-- a name, a space, and what the form holds
abbrev pub form : {A : Type 0} → List ℕ → Format A → A → Shape
form name f x = record { Fits = f.Fits x; printed = name ++ 32 ∷ f.printed x }

-- what is read behind a form's name
pub record Row (B : Type 0) : Type 0 where
  pub name : List ℕ
  pub read : List ℕ → Reads B

abbrev pub bare_row : {B : Type 0} → List ℕ → B → Row B
bare_row name value = record { name = name; read = λ rest. Some (value, rest) }

abbrev pub row : {A B : Type 0} → List ℕ → Format A → (A → B) → Row B
row name f make = record { name = name; read = λ rest. made make (behind_sign (32 ∷ []) f.read rest) }

-- what is read behind a name by the first row of that name
abbrev pub row_read : {B : Type 0} → List (Row B) → List ℕ → List ℕ → Reads B
row_read [] name rest = None
row_read (r ∷ rows) name rest = if same name r.name then r.read rest else row_read rows name rest

-- values of several forms
abbrev pub named : {B : Type 0} → (B → Shape) → List (Row B) → Format B
named shape rows = record {
  Fits = λ x. (shape x).Fits;
  printed = λ x. (shape x).printed;
  read = λ bytes. row_read rows (word_of bytes) (past_word bytes);
}
