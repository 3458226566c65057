use Rattle.std.proofs.Common.{◌≡◌, ◌+◌, ◌==◌, drop}
use Rattle.std.specs.List.{position_or_len}
use Rattle.text_lines.proofs.lines.place_of.Given as goal

-- the first place in the rest, counted from here, is the first place in the whole
abbrev pub invariant-loop-place : goal.invariant-loop-place
invariant-loop-place l =
    l.place + position_or_len (λ b. b == l.value) (drop l.place l.bytes) ≡ position_or_len (λ b. b == l.value) l.bytes
