-- What holds of all printed histories.
use Rattle.std.specs.Prelude.{◌≡◌, ℕ, ◌==◌, not, Bool, true, List, [], ◌∷◌, ◌++◌}
use Rattle.std.specs.List.{list_all, AllByRecursion}
use Rattle.unix_calls.specs.declared.entry.Entry.{Entry}
use Rattle.unix_calls.specs.declared.description.Description.{Description}
use Rattle.unix_calls.specs.After.{legal}
use Rattle.history_text.specs.Entries.{entry_line, is_together}
use Rattle.history_text.specs.Histories.{HasLine, line_of}
use Rattle.history_text.specs.Listings.{ListingHasNoOther, PrintedIsListing, TextHasOneOther, TextIsOneListing}

-- no end of a line
abbrev pub no_break : ℕ → Bool
no_break b = not (b == 10)

-- one line: it has byte 10 at its end alone
pub record IsOneLine (line : List ℕ) : Type 0 where
  pub front : List ℕ
  pub parts : line ≡ front ++ 10 ∷ []
  pub unbroken : list_all no_break front ≡ true

-- what is printed of an entry is one line
abbrev pub EntryIsOneLine : Type 0
EntryIsOneLine = (e : Entry) → HasLine e → IsOneLine (line_of e)

-- the parts of each entry of a history that one Unix kernel gives belong together
abbrev pub IsTogether : Entry → Type 0
IsTogether e = is_together e ≡ true

abbrev pub LegalIsTogether : Type 0
LegalIsTogether = (c : Description) (journal : List Entry) → legal c journal ≡ true → AllByRecursion IsTogether journal

-- a history is a listing of entries, so what is printed of entries is a history of these, a text is the history of one list of entries at
-- most, a history has no first bad line, and a text has one first bad line at most
abbrev pub PrintedIsHistory : Type 0
PrintedIsHistory = PrintedIsListing entry_line

abbrev pub TextIsOneHistory : Type 0
TextIsOneHistory = TextIsOneListing entry_line

abbrev pub HistoryHasNoBadLine : Type 0
HistoryHasNoBadLine = ListingHasNoOther entry_line

abbrev pub TextHasOneBadLine : Type 0
TextHasOneBadLine = TextHasOneOther entry_line
