-- A text has the same lines in all that is printed.
use Rattle.std.proofs.Common.{◌≡◌, ℕ, ◌==◌, List, [], ◌∷◌, refl, ap}
use Rattle.std.specs.Bool.{if◌then◌else◌}
use Rattle.std.specs.List.{onto_first}
use Rattle.unix_calls.specs.Output.{lines_of}
use Rattle.text_lines.specs.Lines as text

pub same_lines : (bytes : List ℕ) → lines_of bytes ≡ text.lines_of bytes
same_lines [] = refl
same_lines (b ∷ bs) = ap (λ lines. if b == 10 then [] ∷ lines else onto_first b lines) (same_lines bs)
