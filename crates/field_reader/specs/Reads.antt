-- What is read from the front of bytes.
use Rattle.std.specs.Prelude.{◌≡◌, ℕ, ◌==◌, ◌||◌, Bool, true, not, if◌then◌else◌, List, [], ◌∷◌, take, drop, length, Option, Some, None, Result, Ok, Err, nat_eq}
use Rattle.std.specs.Char.{is_ascii_alphanumeric}
use Rattle.std.specs.List.{position_or_len, starts_with}
use Rattle.field_reader.specs.declared.field_end.FieldEnd.{FieldEnd}
use Rattle.field_reader.specs.declared.field_end.FieldEnd.TheVariants.{NotSpelled, NoMemory}

-- a value that stands at the front of bytes, and the bytes behind it; None where none stands there
abbrev pub Reads : Type 0 → Type 0
Reads A = Option (A × List ℕ)

-- that value, and that rest
abbrev pub found : {A : Type 0} → A → List ℕ → Reads A
found x rest = Some (x, rest)

-- the first value beside what is read behind it
abbrev pub beside : {A B : Type 0} → A → Reads B → Reads (A × B)
beside x None = None
beside x (Some (y, rest)) = Some ((x, y), rest)

-- one value, and then the other
abbrev pub then_read : {A B : Type 0} → Reads A → (List ℕ → Reads B) → Reads (A × B)
then_read None next = None
then_read (Some (x, rest)) next = beside x (next rest)

-- the value that is made of what was read
abbrev pub made : {A B : Type 0} → (A → B) → Reads A → Reads B
made f None = None
made f (Some (x, rest)) = Some (f x, rest)

-- the value, where there is one, before the rest
abbrev pub placed : {A : Type 0} → Option A → List ℕ → Reads A
placed None rest = None
placed (Some x) rest = Some (x, rest)

-- the value that is chosen by what was read, where one is
abbrev pub chosen : {A B : Type 0} → (A → Option B) → Reads A → Reads B
chosen f None = None
chosen f (Some (x, rest)) = placed (f x) rest

-- the value where it passes the test
abbrev pub passed : {A : Type 0} → (A → Bool) → A → Option A
passed test x = if test x then Some x else None

-- ---- signs and words

-- what stands behind a sign at the front
abbrev pub sign_read : List ℕ → List ℕ → Reads (Unit {0})
sign_read sign bytes = if starts_with nat_eq bytes sign then Some (tt, drop (length sign) bytes) else None

-- the bytes of words: letters, digits and `_`
abbrev pub in_word : ℕ → Bool
in_word b = is_ascii_alphanumeric b || b == 95

-- whether a word that goes before these bytes ends there
abbrev pub ends_word : List ℕ → Bool
ends_word [] = true
ends_word (b ∷ bs) = not (in_word b)

-- where the word at the front ends
abbrev pub word_end : List ℕ → ℕ
word_end bytes = position_or_len (λ b. not (in_word b)) bytes

-- the word at the front, and what stands behind it
abbrev pub word_of : List ℕ → List ℕ
word_of bytes = take (word_end bytes) bytes

abbrev pub past_word : List ℕ → List ℕ
past_word bytes = drop (word_end bytes) bytes

-- ---- what a function does that reads from the front

-- the end that the reading has
abbrev pub Fails : {A : Type 0} → FieldEnd → Reads A → Type 0
Fails NotSpelled reads = reads ≡ None
Fails NoMemory reads = Unit {0}

-- the value that was read, and the bytes that are left; or no value, unless memory ran out
abbrev pub Takes : {A : Type 0} → Reads A → Result A FieldEnd → List ℕ → Type 0
Takes reads (Ok x) rest = reads ≡ Some (x, rest)
Takes reads (Err end) rest = Fails end reads

-- the value that is chosen, or none, unless memory ran out
abbrev pub Lacks : {A : Type 0} → FieldEnd → Option A → Type 0
Lacks NotSpelled choice = choice ≡ None
Lacks NoMemory choice = Unit {0}

abbrev pub Gives : {A : Type 0} → Option A → Result A FieldEnd → Type 0
Gives choice (Ok x) = choice ≡ Some x
Gives choice (Err end) = Lacks end choice
