use Rattle.std.proofs.Common.{◌≡◌, length}
use Rattle.text_lines.specs.Lines.{lines_of}
use Rattle.text_rows.specs.Rows.{behind_rows}
use Rattle.restart_text.specs.FileTexts.{steps_read}
use Rattle.restart_text.proofs.body.read_steps.Given as goal

-- what was read so far, and then the steps of the rest, are all
abbrev pub invariant-loop-rest : goal.invariant-loop-rest
invariant-loop-rest l = behind_rows l.steps.items (steps_read l.kernels l.number (lines_of l.rest)) ≡ steps_read l.kernels 2 (lines_of l.text)

abbrev pub decreases-loop-rest : goal.decreases-loop-rest
decreases-loop-rest l = length l.rest
