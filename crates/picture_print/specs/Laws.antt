-- What holds of all texts.
use Rattle.std.specs.Prelude.{ℕ, List}
use Rattle.picture_print.specs.Svg.{escaped}
use Rattle.picture_print.specs.WellFormed.{IsText}

-- bytes of any kind, escaped, have no sign of the language bare among them
abbrev pub EscapedIsText : Type 0
EscapedIsText = (bytes : List ℕ) → IsText (escaped bytes)
