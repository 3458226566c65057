use Rattle.std.proofs.Common.{◌≡◌, ◌<◌, ◌^◌, drop}
use Rattle.std.specs.List.{list_all}
use Rattle.sprite_words.specs.Words.{is_digit, value_from}
use Rattle.sprite_words.proofs.number.value_of.Given as goal

-- what is left are digits where all are, and spells behind the number so far, which has 64 bits, what all spell
abbrev pub invariant-loop-digit : goal.invariant-loop-digit
invariant-loop-digit l = (list_all is_digit l.digits ≡ list_all is_digit (drop l.digit-index l.digits)) × (value_from l.value (drop l.digit-index l.digits) ≡ value_from 0 l.digits) × (l.value < 2 ^ 64)
