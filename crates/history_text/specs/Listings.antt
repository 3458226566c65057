-- A text that lists items, a line for each, as histories and traces do.
use Rattle.std.specs.Prelude.{codes, ◌≡◌, ◌≢◌, ℕ, ◌+◌, Bool, true, false, ◌||◌, List, [], ◌++◌, length}
use Rattle.std.specs.List.{flat_map, AllByRecursion}
use Rattle.history_text.specs.Formats.{Format, same}

-- nothing, or the one line that may stand behind the items: why the run stopped
abbrev pub is_end : List ℕ → Bool
is_end rest = same rest [] || same rest (codes "budget\n") || same rest (codes "stalled\n")

-- the text is the print of these items, apart from one last line `budget` or `stalled`
pub record IsListing {A : Type 0} (line : Format A) (text : List ℕ) (items : List A) : Type 0 where
  pub rest : List ℕ
  pub parts : text ≡ flat_map line.printed items ++ rest
  pub have_lines : AllByRecursion line.Fits items
  pub ends : is_end rest ≡ true

-- the line of that number, counted from 1, is the first that is no item's: those before are the lines of items, and what
-- stands behind them doesn't begin with a line of an item and isn't the end of a listing
pub record IsFirstOther {A : Type 0} (line : Format A) (text : List ℕ) (number : ℕ) : Type 0 where
  pub items : List A
  pub rest : List ℕ
  pub parts : text ≡ flat_map line.printed items ++ rest
  pub have_lines : AllByRecursion line.Fits items
  pub counted : number ≡ length items + 1
  pub bad : (item : A) (behind : List ℕ) → line.Fits item → rest ≢ line.printed item ++ behind
  pub goes_on : is_end rest ≡ false

-- ---- what holds of all listings of a format

-- what is printed of items is a listing of these
abbrev pub PrintedIsListing : {A : Type 0} → Format A → Type 0
PrintedIsListing {A} line = (items : List A) → AllByRecursion line.Fits items → IsListing line (flat_map line.printed items) items

-- a text is the listing of one list of items at most
abbrev pub TextIsOneListing : {A : Type 0} → Format A → Type 0
TextIsOneListing {A} line = (text : List ℕ) (one other : List A) → IsListing line text one → IsListing line text other → one ≡ other

-- a listing has no first line that is no item's
abbrev pub ListingHasNoOther : {A : Type 0} → Format A → Type 0
ListingHasNoOther {A} line = (text : List ℕ) (items : List A) (number : ℕ) → IsListing line text items → IsFirstOther line text number → ⊥

-- a text has one such line at most
abbrev pub TextHasOneOther : {A : Type 0} → Format A → Type 0
TextHasOneOther line = (text : List ℕ) (one other : ℕ) → IsFirstOther line text one → IsFirstOther line text other → one ≡ other
