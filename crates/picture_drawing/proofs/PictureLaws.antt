-- From a drawing to its text.
use Rattle.std.proofs.Common.{◌≡◌, ℕ, List, Result, Ok, Err, IfOk, Vec, Global}
use Rattle.sprite_ids.specs.declared.no_memory.NoMemory.{NoMemory}
use Rattle.unix_calls.specs.declared.event.Rec.{Rec}
use Rattle.picture_print.specs.declared.drawing.Drawing.{Drawing}
use Rattle.picture_print.specs.Svg.{svg_text}
use Rattle.picture_drawing.specs.Records.{IsDrawn, IsPicture}

-- what is printed of a drawing of the records is a picture of them
pub picture_of : (first : ℕ) (records : List Rec) (drawing : Drawing) (r : Result (Vec ℕ Global) NoMemory) → IsDrawn first records drawing.groups.items
    → IfOk r (λ text. text.items ≡ svg_text drawing) → IfOk r (λ text. IsPicture first records text.items)
picture_of first records drawing (Ok text) drawn printed = record { drawing = drawing; are_drawn = drawn; printed = printed }
picture_of first records drawing (Err e) drawn printed = printed
