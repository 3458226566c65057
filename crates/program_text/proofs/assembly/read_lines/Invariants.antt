use Rattle.std.proofs.Common.{◌≡◌, ◌≤◌, ◌+◌, length, Some}
use Rattle.program_text.specs.Names.{has}
use Rattle.text_lines.specs.Lines.{lines_of}
use Rattle.program_text.specs.Readings.{judged, unread}
use Rattle.program_text.proofs.assembly.read_lines.Given as goal

-- the lines of the rest, read behind what was read so far, give what all lines give
abbrev pub invariant-loop-rest : goal.invariant-loop-rest
invariant-loop-rest l = record {
  verdict : judged l.version (has l.defined) l.count (Some l.reading) (lines_of l.rest) ≡ judged l.version (has l.defined) 0 (Some unread) (lines_of l.text);
  most : length l.reading.steps ≤ 512;
  counted : l.count + length l.rest ≤ length l.text;
}

abbrev pub decreases-loop-rest : goal.decreases-loop-rest
decreases-loop-rest l = length l.rest
