use Rattle.std.proofs.Common.{◌≡◌, drop}
use Rattle.history_text.specs.Numbers.{number_from}
use Rattle.history_text.proofs.number.number_from_digits.Given as goal

abbrev pub invariant-loop-digit : goal.invariant-loop-digit
invariant-loop-digit l = number_from l.value (drop l.digit-index l.digits) ≡ number_from 0 l.digits
