use Rattle.std.proofs.Common.{◌≡◌, ◌||◌, ℕ, List, length}
use Rattle.text_lines.specs.Lines.{lines_of}
use Rattle.program_text.specs.Labels.{defines}
use Rattle.program_text.specs.Names.{has}
use Rattle.program_text.proofs.label.defined_in.Given as goal

-- the names so far, or the lines of the rest, have a label exactly where all lines define it
abbrev pub invariant-loop-rest : goal.invariant-loop-rest
invariant-loop-rest l = (name : List ℕ) → (has l.names name || defines (lines_of l.rest) name) ≡ defines (lines_of l.text) name

abbrev pub decreases-loop-rest : goal.decreases-loop-rest
decreases-loop-rest l = length l.rest
