-- What a printed history is, and what printing and reading one answer.
use Rattle.std.specs.Prelude.{◌≡◌, ℕ, ◌+◌, false, List, take, slice_get, Some}
use Rattle.std.specs.List.{flat_map, AllByRecursion}
use Rattle.unix_calls.specs.declared.entry.Entry.{Entry}
use Rattle.history_text.specs.declared.history_error.HistoryError.{HistoryError}
use Rattle.history_text.specs.declared.history_error.HistoryError.TheVariants.{Line, NoMemory}
use Rattle.history_text.specs.Entries.{entry_line, is_together}
use Rattle.history_text.specs.Listings.{IsFirstOther, IsListing}

-- an entry that has a line: its parts belong together, and its numbers and bytes are in their ranges
abbrev pub HasLine : Entry → Type 0
HasLine e = entry_line.Fits e

-- its line, with byte 10 at its end
abbrev pub line_of : Entry → List ℕ
line_of e = entry_line.printed e

-- the lines of the entries
abbrev pub history_of : List Entry → List ℕ
history_of entries = flat_map line_of entries

-- ---- printing

-- the entry of that number, counted from 1, is the first that has no line
pub record IsFirstWithout (entries : List Entry) (number : ℕ) : Type 0 where
  pub place : ℕ
  pub entry : Entry
  pub counted : number ≡ place + 1
  pub before : AllByRecursion HasLine (take place entries)
  pub there : slice_get entries place ≡ Some entry
  pub without : HasLine entry → ⊥
  pub apart : is_together entry ≡ false

-- why no history was printed
abbrev pub TellsUnprinted : List Entry → HistoryError → Type 0
TellsUnprinted entries (Line number) = IsFirstWithout entries number
TellsUnprinted entries NoMemory = Unit {0}

-- ---- reading

-- the text is the print of these entries, apart from one last line `budget` or `stalled`
abbrev pub IsHistory : List ℕ → List Entry → Type 0
IsHistory text entries = IsListing entry_line text entries

-- the line of that number, counted from 1, is the first that is no entry's
abbrev pub IsFirstBad : List ℕ → ℕ → Type 0
IsFirstBad text number = IsFirstOther entry_line text number

-- why no history was read
abbrev pub TellsBad : List ℕ → HistoryError → Type 0
TellsBad text (Line number) = IsFirstBad text number
TellsBad text NoMemory = Unit {0}
