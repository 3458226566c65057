-- Refusals, and answers that may be one.
use Rattle.std.specs.Prelude.{codes, ◌≡◌, ℕ, ◌+◌, ◌-◌, ◌++◌, nat_le, Bool, false, if◌then◌else◌, List, [], ◌∷◌, length, Option, Some, None, Result, Ok, Err}
use Rattle.std.specs.Fmt.{decimal}
use Rattle.cluster_file.specs.declared.refusal.Refusal.{Refusal}
use Rattle.cluster_file.specs.declared.refusal.FileEnd.{FileEnd}
use Rattle.cluster_file.specs.declared.refusal.FileEnd.TheVariants as end
use Rattle.cluster_file.specs.declared.keys.KeyName.{KeyName}
use Rattle.cluster_file.specs.declared.keys.Section.{Section}
use Rattle.cluster_file.specs.Keys.{spelled, section_key}

-- a refusal of that number at a place
abbrev pub refusal : ℕ → List ℕ → Refusal
refusal number at = record { number = number; at = at }

-- how the place of an element is printed: its section and its number
abbrev pub element_place : Section → ℕ → List ℕ
element_place section element = spelled (section_key section) ++ codes " " ++ decimal element

-- how the place of a key of an element is printed
abbrev pub key_place : Section → ℕ → List ℕ → List ℕ
key_place section element key = element_place section element ++ codes " " ++ key

-- the refusal of that number at a key of the element behind the earlier ones
abbrev pub refused_at : {A B : Type 0} → ℕ → Section → List A → KeyName → Result B Refusal
refused_at number section earlier key = Err (refusal number (key_place section (length earlier + 1) (spelled key)))

-- the first of two refusals
abbrev pub else_first : Option Refusal → Option Refusal → Option Refusal
else_first None second = second
else_first (Some first) second = Some first

-- an answer that is given where nothing is refused before
abbrev pub unless : {A : Type 0} → Option Refusal → Result A Refusal → Result A Refusal
unless None answer = answer
unless (Some r) answer = Err r

-- an answer that is made of what another one gives
abbrev pub and_then : {A B : Type 0} → (A → Result B Refusal) → Result A Refusal → Result B Refusal
and_then next (Ok x) = next x
and_then next (Err r) = Err r

-- the list with one more, where that isn't refused
abbrev pub put_behind : {B : Type 0} → List B → Result B Refusal → Result (List B) Refusal
put_behind earlier (Err r) = Err r
put_behind earlier (Ok y) = Ok (earlier ++ y ∷ [])

-- all of a list read in order, each with what was read before it; the first that is refused refuses all
abbrev pub read_on : {A B : Type 0} → (List B → A → Result B Refusal) → Result (List B) Refusal → List A → Result (List B) Refusal
read_on read (Err r) xs = Err r
read_on read (Ok earlier) [] = Ok earlier
read_on read (Ok earlier) (x ∷ xs) = read_on read (put_behind earlier (read earlier x)) xs

abbrev pub read_all : {A B : Type 0} → (List B → A → Result B Refusal) → List A → Result (List B) Refusal
read_all read xs = read_on read (Ok []) xs

-- the error that stands for a refusal; want of memory stands for nothing of the file
abbrev pub IsRefusedBy : {A : Type 0} → Result A Refusal → FileEnd → Type 0
IsRefusedBy (Ok x) (end.Refused r) = ⊥
IsRefusedBy (Err r) (end.Refused s) = s ≡ r
IsRefusedBy answer end.NoMemory = Unit {0}

-- the error is the refusal of that number at a key of an element, or want of memory
abbrev pub IsAt : ℕ → Section → ℕ → KeyName → FileEnd → Type 0
IsAt number section element key (end.Refused r) = r ≡ refusal number (key_place section element (spelled key))
IsAt number section element key end.NoMemory = Unit {0}

-- the same of a key at the top
abbrev pub IsAtTop : ℕ → KeyName → FileEnd → Type 0
IsAtTop number key (end.Refused r) = r ≡ refusal number (spelled key)
IsAtTop number key end.NoMemory = Unit {0}

-- what so many leave of the most; none where they are more
abbrev pub rest_of : ℕ → ℕ → Option ℕ
rest_of most used = if nat_le used most then Some (most - used) else None

-- whether there is room, and so much of it
abbrev pub is_at_most : ℕ → Option ℕ → Bool
is_at_most size None = false
is_at_most size (Some room) = nat_le size room
