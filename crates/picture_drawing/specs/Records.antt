-- What a picture tells of the records that it shows.
use Rattle.std.specs.Prelude.{codes, ◌≡◌, ℕ, ◌+◌, ◌-◌, nat_le, Bool, true, if◌then◌else◌, List, [], ◌∷◌, ◌++◌, length, map, take}
use Rattle.std.specs.Fmt.{decimal}
use Rattle.unix_calls.specs.declared.event.Rec.{Rec}
use Rattle.trace_text.specs.Traces.{trace_of}
use Rattle.picture_print.specs.declared.drawing.Drawing.{Drawing}
use Rattle.picture_print.specs.declared.drawing.Figure.{Figure}
use Rattle.picture_print.specs.declared.drawing.Group.{Group}
use Rattle.picture_print.specs.declared.drawing.Outline.{Outline}
use Rattle.picture_print.specs.declared.drawing.Outline.TheVariants as outline
use Rattle.picture_print.specs.Svg.{svg_text}
use Rattle.picture_drawing.specs.Places.{lane_left, row_top}

-- so many bytes of a line; of more than 300 the first, and how many there are
abbrev pub shown_bytes : ℕ → List ℕ → List ℕ
shown_bytes count line = if nat_le count 300 then take count line else take 300 line ++ (codes " .. (" ++ decimal count ++ codes " bytes)")

-- a line of a trace without its byte 10
abbrev pub shown_line : List ℕ → List ℕ
shown_line line = shown_bytes (length line - 1) line

-- what a record's hint tells: its number, and its line in the trace
abbrev pub hint_of : ℕ → Rec → List ℕ
hint_of number r = decimal number ++ codes ": " ++ shown_line (trace_of (r ∷ []))

-- where a text begins, and its words; of another figure nothing
abbrev pub text_of : Outline → (ℕ × ℕ) × List ℕ
text_of (outline.Text x y words) = ((x, y), words.items)
text_of _ = ((0, 0), [])

abbrev pub first_text : List Figure → (ℕ × ℕ) × List ℕ
first_text [] = ((0, 0), [])
first_text (f ∷ fs) = text_of f.outline

abbrev pub last_text : List Figure → (ℕ × ℕ) × List ℕ
last_text [] = ((0, 0), [])
last_text (f ∷ []) = text_of f.outline
last_text (f ∷ g ∷ fs) = last_text (g ∷ fs)

-- where a text begins, and whether it has at most the 26 characters for which a lane has room
abbrev pub fitting : (ℕ × ℕ) × List ℕ → (ℕ × ℕ) × Bool
fitting text = (text.0, nat_le (length text.1) 26)

-- what a group shows: its record's number and hint; its first text, which is the number; and where its last one begins, which is what the
-- record says, and whether that stays in its lane
unfoldable pub shown_by : Group → ℕ × List ℕ × ((ℕ × ℕ) × List ℕ) × ((ℕ × ℕ) × Bool)
shown_by g = (g.number, g.hint.items, first_text g.figures.items, fitting (last_text g.figures.items))

-- of a record: its number at the left of its row, and what it says in its row of its kernel's lane
unfoldable pub shown_of : ℕ → ℕ → ℕ → Rec → ℕ × List ℕ × ((ℕ × ℕ) × List ℕ) × ((ℕ × ℕ) × Bool)
shown_of legend row number r =
    (number, hint_of number r, ((2, row_top legend row + 11), decimal number), ((lane_left (r.kernel - 1) + 86, row_top legend row + 11), true))

-- of records, in their order, the first of which has that row and number
abbrev pub all_shown : ℕ → ℕ → ℕ → List Rec → List (ℕ × List ℕ × ((ℕ × ℕ) × List ℕ) × ((ℕ × ℕ) × Bool))
all_shown legend row number [] = []
all_shown legend row number (r ∷ rs) = shown_of legend row number r ∷ all_shown legend (row + 1) (number + 1) rs

-- the groups are those of the records, each once, in their order and in a row of its own, the first of which has that number
abbrev pub AreDrawn : ℕ → ℕ → List Rec → List Group → Type 0
AreDrawn legend first records groups = map shown_by groups ≡ all_shown legend 0 first records

-- so they are, below a legend of some rows
pub record IsDrawn (first : ℕ) (records : List Rec) (groups : List Group) : Type 0 where
  pub legend : ℕ
  pub are_drawn : AreDrawn legend first records groups

-- the text is a picture of the records, the first of which has that number
pub record IsPicture (first : ℕ) (records : List Rec) (text : List ℕ) : Type 0 where
  pub drawing : Drawing
  pub are_drawn : IsDrawn first records drawing.groups.items
  pub printed : text ≡ svg_text drawing

-- ---- figures that are put

-- some more figures
pub record Grows (old new : List Figure) : Type 0 where
  pub more : List Figure
  pub grown : new ≡ old ++ more

-- one more figure, of that outline
pub record Adds (wanted : Outline) (old new : List Figure) : Type 0 where
  pub figure : Figure
  pub outline_is : figure.outline ≡ wanted
  pub grown : new ≡ old ++ figure ∷ []

-- a record's figures: its number, marks, and what it says, in a row whose texts stand at that height
pub record AddsRow (number x y : ℕ) (old new : List Figure) : Type 0 where
  pub digits : Figure
  pub marks : List Figure
  pub words : Figure
  pub grown : new ≡ old ++ digits ∷ [] ++ marks ++ words ∷ []
  pub number_is : text_of digits.outline ≡ ((2, y), decimal number)
  pub words_fit : fitting (text_of words.outline) ≡ ((x, y), true)
