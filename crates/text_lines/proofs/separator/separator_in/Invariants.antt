use Rattle.std.proofs.Common.{◌≡◌, true, drop}
use Rattle.text_lines.specs.Parts.{separator_from}
use Rattle.text_lines.proofs.separator.separator_in.Given as goal

abbrev pub invariant-loop-place : goal.invariant-loop-place
invariant-loop-place l = separator_from l.place l.starts (drop l.place l.text) ≡ separator_from 0 true l.fn.text
