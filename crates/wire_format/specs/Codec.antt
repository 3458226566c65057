-- How values are spelled one behind another, and read again.
use Rattle.std.specs.Prelude.{◌≡◌, ℕ, zero, suc, ◌<◌, ◌^◌, nat_lt, ◌==◌, Bool, if◌then◌else◌, List, [], ◌∷◌, ◌++◌, length, take, drop, slice_index, Option, Some, None}
use Rattle.std.specs.List.{find, flat_map, AllByRecursion}
use Rattle.std.specs.Int.{Width, w16, w32, w64, byte_len, to_le_bytes, from_le_bytes}
use Rattle.field_reader.specs.Reads.{Reads, then_read, made, chosen, passed}

-- the one way to spell the values of a type: which values have a spelling, that spelling, and the reading
pub record Codec (A : Type 0) : Type 1 where
  pub Fits : A → Type 0
  pub spelled : A → List ℕ
  pub read : List ℕ → Reads A

-- numbers that are bytes
abbrev pub AreBytes : List ℕ → Type 0
AreBytes bytes = (i : ℕ) → slice_index bytes i < 256

-- the bytes are the value's spelling and the rest
pub record Took {A : Type 0} (codec : Codec A) (bytes : List ℕ) (value : A) (rest : List ℕ) : Type 0 where
  pub parts : bytes ≡ codec.spelled value ++ rest
  pub fits : codec.Fits value

-- what is spelled is read again, and what is read is spelled so
pub record IsCodec {A : Type 0} (codec : Codec A) : Type 0 where
  pub again : (value : A) (rest : List ℕ) → codec.Fits value → codec.read (codec.spelled value ++ rest) ≡ Some (value, rest)
  pub takes : (bytes : List ℕ) (value : A) (rest : List ℕ) → AreBytes bytes → codec.read bytes ≡ Some (value, rest) → Took codec bytes value rest

-- a value, and another behind it
infixr 10 ◌before◌
abbrev pub ◌before◌ : {A B : Type 0} → Codec A → Codec B → Codec (A × B)
c before d = record {
  Fits = λ pair. c.Fits pair.0 × d.Fits pair.1;
  spelled = λ pair. c.spelled pair.0 ++ d.spelled pair.1;
  read = λ bytes. then_read (c.read bytes) d.read;
}

-- a value that is made of others, spelled as those
abbrev pub made_of : {A B : Type 0} → Codec A → (A → B) → (B → A) → Codec B
made_of c make parts = record {
  Fits = λ value. c.Fits (parts value);
  spelled = λ value. c.spelled (parts value);
  read = λ bytes. made make (c.read bytes);
}

-- a value that only some others give, spelled as those
abbrev pub chosen_by : {A B : Type 0} → Codec A → (A → Option B) → (B → A) → (B → Type 0) → Codec B
chosen_by c choose parts Is = record {
  Fits = Is;
  spelled = λ value. c.spelled (parts value);
  read = λ bytes. chosen choose (c.read bytes);
}

-- ---- numbers, the lowest byte first

abbrev pub byte_spelled : ℕ → List ℕ
byte_spelled n = n ∷ []

abbrev pub byte_read : List ℕ → Reads ℕ
byte_read [] = None
byte_read (byte ∷ rest) = Some (byte, rest)

abbrev pub byte : Codec ℕ
byte = record { Fits = λ n. n < 256; spelled = byte_spelled; read = byte_read }

unfoldable pub number_spelled : Width → ℕ → List ℕ
number_spelled w n = to_le_bytes w n

unfoldable pub number_read : Width → List ℕ → Reads ℕ
number_read w bytes = if nat_lt (length bytes) (byte_len w) then None else Some (from_le_bytes w (take (byte_len w) bytes), drop (byte_len w) bytes)

abbrev pub number16 : Codec ℕ
number16 = record { Fits = λ n. n < 2 ^ 16; spelled = number_spelled w16; read = number_read w16 }

abbrev pub number32 : Codec ℕ
number32 = record { Fits = λ n. n < 2 ^ 32; spelled = number_spelled w32; read = number_read w32 }

abbrev pub number64 : Codec ℕ
number64 = record { Fits = λ n. n < 2 ^ 64; spelled = number_spelled w64; read = number_read w64 }

-- ---- values that some others give

-- the values that pass a test
abbrev pub within : {A : Type 0} → Codec A → (A → Bool) → (A → Type 0) → Codec A
within c test Is = chosen_by c (passed test) (λ x. x) Is

-- one of a few values, as its number in one byte
abbrev pub numbered : {A : Type 0} → (A → ℕ) → List A → Codec A
numbered number all = record {
  Fits = λ value. Unit {0};
  spelled = λ value. number value ∷ [];
  read = λ bytes. chosen (λ n. find (λ value. number value == n) all) (byte_read bytes);
}

-- what a number that was read says of the rest
abbrev pub counted : {A : Type 0} → Reads ℕ → (ℕ → List ℕ → Reads A) → Reads A
counted None next = None
counted (Some (n, rest)) next = next n rest

-- ---- values of several forms, each with a number before it

-- no bytes
abbrev pub nothing : Codec (Unit {0})
nothing = record { Fits = λ x. Unit {0}; spelled = λ x. []; read = λ bytes. Some (tt, bytes) }

-- when a value has a spelling, and that spelling
pub record Shape : Type 1 where
  pub Fits : Type 0
  pub spelled : List ℕ

-- the form's number in one byte, and what the form holds
abbrev pub form : {A : Type 0} → ℕ → Codec A → A → Shape
form tag c x = record { Fits = c.Fits x; spelled = tag ∷ c.spelled x }

-- what is read behind a form's number
pub record Row (B : Type 0) : Type 0 where
  pub tag : ℕ
  pub read : List ℕ → Reads B

abbrev pub row : {A B : Type 0} → ℕ → Codec A → (A → B) → Row B
row tag c make = record { tag = tag; read = λ rest. made make (c.read rest) }

-- what is read behind a number by the first row of that number
abbrev pub row_read : {B : Type 0} → List (Row B) → ℕ → List ℕ → Reads B
row_read [] tag rest = None
row_read (r ∷ rows) tag rest = if tag == r.tag then r.read rest else row_read rows tag rest

-- values of several forms
abbrev pub tagged : {B : Type 0} → (B → Shape) → List (Row B) → Codec B
tagged shape rows = record {
  Fits = λ x. (shape x).Fits;
  spelled = λ x. (shape x).spelled;
  read = λ bytes. counted (byte_read bytes) (row_read rows);
}

-- 0, or 1 and the value
abbrev pub optional_shape : {A : Type 0} → Codec A → Option A → Shape
optional_shape c None = form 0 nothing tt
optional_shape c (Some x) = form 1 c x

abbrev pub optional : {A : Type 0} → Codec A → Codec (Option A)
optional c = tagged (optional_shape c) (row 0 nothing (λ x. None) ∷ row 1 c Some ∷ [])

-- ---- lists and texts

-- so many values, one behind another
abbrev pub items_read : {A : Type 0} → (List ℕ → Reads A) → ℕ → List ℕ → Reads (List A)
items_read read zero bytes = Some ([], bytes)
items_read read (suc n) bytes = made (λ pair. pair.0 ∷ pair.1) (then_read (read bytes) (items_read read n))

-- their number in four bytes, and the values
abbrev pub listed : {A : Type 0} → Codec A → Codec (List A)
listed c = record {
  Fits = λ items. (length items < 2 ^ 32) × AllByRecursion c.Fits items;
  spelled = λ items. number_spelled w32 (length items) ++ flat_map c.spelled items;
  read = λ bytes. counted (number_read w32 bytes) (items_read c.read);
}

-- so many values, without their number
abbrev pub repeated : {A : Type 0} → ℕ → Codec A → Codec (List A)
repeated n c = record {
  Fits = λ items. (length items ≡ n) × AllByRecursion c.Fits items;
  spelled = λ items. flat_map c.spelled items;
  read = λ bytes. items_read c.read n bytes;
}

-- so many bytes
abbrev pub bytes_read : ℕ → List ℕ → Reads (List ℕ)
bytes_read n bytes = if nat_lt (length bytes) n then None else Some (take n bytes, drop n bytes)

-- their number in four bytes, and the bytes
abbrev pub text : Codec (List ℕ)
text = record {
  Fits = λ bytes. length bytes < 2 ^ 32;
  spelled = λ bytes. number_spelled w32 (length bytes) ++ bytes;
  read = λ bytes. counted (number_read w32 bytes) bytes_read;
}
