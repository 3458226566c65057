use Rattle.std.proofs.Common.{◌≡◌, ◌+◌, not, drop}
use Rattle.std.specs.List.{position_or_len}
use Rattle.field_reader.specs.Reads.{in_word}
use Rattle.field_reader.proofs.reader.word_end.Given as goal

abbrev pub invariant-loop-place : goal.invariant-loop-place
invariant-loop-place l = position_or_len (λ b. not (in_word b)) l.bytes ≡ l.place + position_or_len (λ b. not (in_word b)) (drop l.place l.bytes)
