use Rattle.std.proofs.Common.{◌≡◌, drop}
use Rattle.std.specs.List.{list_all}
use Rattle.program_text.specs.Labels.{is_label_byte}
use Rattle.program_text.proofs.label.is_label.Given as goal

-- whether the rest has bytes of a label alone tells it of the whole
abbrev pub invariant-loop-byte : goal.invariant-loop-byte
invariant-loop-byte l = list_all is_label_byte (drop l.byte-index l.rest) ≡ list_all is_label_byte l.rest
