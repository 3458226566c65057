use Rattle.std.proofs.Common.{◌≡◌, drop}
use Rattle.text_lines.specs.Lines.{number_from}
use Rattle.text_lines.proofs.lines.number.Given as goal

-- the rest, read behind the number so far, writes the number of the whole
abbrev pub invariant-loop-byte : goal.invariant-loop-byte
invariant-loop-byte l = number_from l.value (drop l.byte-index l.word) ≡ number_from 0 l.word
