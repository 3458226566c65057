-- The words of the commands.
use Rattle.std.specs.Prelude.{codes, ◌≡◌, ℕ, ◌+◌, ◌-◌, ◌*◌, ◌^◌, ◌<◌, ◌≤◌, nat_le, Bool, true, ◌&&◌, List, [], ◌∷◌, Option, Some, None, length, map, String, string_bytes}
use Rattle.std.specs.List.{list_all}
use Rattle.std.specs.declared.alloc.Global.{Global}
use Rattle.sprite_words.specs.declared.command.Command.{Command}
use Rattle.sprite_words.specs.declared.command.Command.TheVariants as command

-- the words as texts
abbrev pub spelled : List (String Global) → List (List ℕ)
spelled words = map string_bytes words

-- whether a byte is a digit
abbrev pub is_digit : ℕ → Bool
is_digit byte = nat_le 48 byte && nat_le byte 57

-- the number that digits spell behind another one
abbrev pub value_from : ℕ → List ℕ → ℕ
value_from value [] = value
value_from value (digit ∷ digits) = value_from (value * 10 + (digit - 48)) digits

-- these are digits, and spell that number of 64 bits behind another one
pub record Spells (value : ℕ) (digits : List ℕ) (number : ℕ) : Type 0 where
  pub are_digits : list_all is_digit digits ≡ true
  pub is : number ≡ value_from value digits
  pub fits : number < 2 ^ 64

-- what digits spell behind another number; none exactly where they spell no number of 64 bits
abbrev pub IsNext : ℕ → List ℕ → Option ℕ → Type 0
IsNext value digits None = (number : ℕ) → Spells value digits number → ⊥
IsNext value digits (Some number) = Spells value digits number

-- 1 to 20 digits spell that number of 64 bits
pub record IsNumber (digits : List ℕ) (number : ℕ) : Type 0 where
  pub some : 1 ≤ length digits
  pub few : length digits ≤ 20
  pub spells : Spells 0 digits number

-- the number that a text spells; none exactly where it spells none
abbrev pub IsNumberOf : List ℕ → Option ℕ → Type 0
IsNumberOf digits None = (number : ℕ) → IsNumber digits number → ⊥
IsNumberOf digits (Some number) = IsNumber digits number

-- 1 to 20 digits spell that number from 1 to 64
pub record IsCount (digits : List ℕ) (count : ℕ) : Type 0 where
  pub number : IsNumber digits count
  pub low : 1 ≤ count
  pub high : count ≤ 64

-- the number from 1 to 64 that a text spells; none exactly where it spells none
abbrev pub IsCountOf : List ℕ → Option ℕ → Type 0
IsCountOf digits None = (count : ℕ) → IsCount digits count → ⊥
IsCountOf digits (Some count) = IsCount digits count

-- the words of `load N`
pub record IsLoad (words : List (List ℕ)) (count : ℕ) : Type 0 where
  pub digits : List ℕ
  pub words_are : words ≡ codes "load" ∷ digits ∷ []
  pub counts : IsCount digits count

-- the words of `run --seed N`
pub record IsSeeded (words : List (List ℕ)) (seed : ℕ) : Type 0 where
  pub digits : List ℕ
  pub words_are : words ≡ codes "run" ∷ codes "--seed" ∷ digits ∷ []
  pub number : IsNumber digits seed

-- the words spell that command
abbrev pub IsSpelled : Command → List (List ℕ) → Type 0
IsSpelled command.Run words = words ≡ codes "run" ∷ []
IsSpelled (command.RunSeed seed) words = IsSeeded words seed
IsSpelled command.RunStats words = words ≡ codes "run" ∷ codes "--stats" ∷ []
IsSpelled command.History words = words ≡ codes "history" ∷ []
IsSpelled (command.Load count) words = IsLoad words count
IsSpelled command.Check words = words ≡ codes "check" ∷ []
IsSpelled command.Audit words = words ≡ codes "audit" ∷ []
IsSpelled command.Trace words = words ≡ codes "trace" ∷ []
IsSpelled command.Frames words = words ≡ codes "frames" ∷ []
IsSpelled command.File words = words ≡ codes "file" ∷ []
IsSpelled command.Lend words = words ≡ codes "lend" ∷ []

-- the command that words spell; none exactly where they spell none
abbrev pub ComesTo : List (List ℕ) → Option Command → Type 0
ComesTo words None = (some : Command) → IsSpelled some words → ⊥
ComesTo words (Some one) = IsSpelled one words
