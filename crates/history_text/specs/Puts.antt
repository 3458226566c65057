-- What a function does that puts the print of a value at the end of a text.
use Rattle.std.specs.Prelude.{◌≡◌, ℕ, List, ◌++◌, Result, Ok, Err}
use Rattle.field_reader.specs.declared.field_end.FieldEnd.{FieldEnd}
use Rattle.field_reader.specs.declared.field_end.FieldEnd.TheVariants.{NotSpelled, NoMemory}
use Rattle.history_text.specs.Formats.{Shape}

-- the end that the printing has
abbrev pub Unprinted : FieldEnd → Shape → Type 0
Unprinted NotSpelled shape = shape.Fits → ⊥
Unprinted NoMemory shape = Unit {0}

-- the value has a print, which stands behind what was there; or it has none, unless memory ran out
abbrev pub Puts : {A : Type 0} → Shape → Result A FieldEnd → List ℕ → List ℕ → Type 0
Puts shape (Ok x) before after = (after ≡ before ++ shape.printed) × shape.Fits
Puts shape (Err end) before after = Unprinted end shape
