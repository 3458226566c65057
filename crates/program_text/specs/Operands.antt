-- Registers and operands, as words write them.
use Rattle.std.specs.Prelude.{ℕ, zero, suc, List, [], ◌∷◌, ◌==◌, ◌&&◌, ◌-◌, Option, Some, None, if◌then◌else◌, nat_le}
use Rattle.std.specs.Option.{option_map, option_and_then}
use Rattle.process_machine.specs.declared.instruction.Operand.{Operand}
use Rattle.process_machine.specs.declared.instruction.Operand.TheVariants.{Register, Number}
use Rattle.text_lines.specs.Lines.{number_of}

-- the register that a word names: an `r` and a digit from 0 to 7
abbrev pub register_of : List ℕ → Option ℕ
register_of [] = None
register_of (r ∷ []) = None
register_of (r ∷ d ∷ []) = if r == 114 && nat_le 48 d && nat_le d 55 then Some (d - 48) else None
register_of (r ∷ d ∷ more ∷ bytes) = None

-- a register that was found, or else the number of the word
abbrev pub register_or_number : Option ℕ → List ℕ → Option Operand
register_or_number (Some r) word = Some (Register r)
register_or_number None word = option_map Number (number_of word)

-- the operand that a word writes
abbrev pub operand_of : List ℕ → Option Operand
operand_of word = register_or_number (register_of word) word

-- at most so many operands, none in each place that is left
abbrev pub operands_up_to : ℕ → List (List ℕ) → Option (List (Option Operand))
operands_up_to zero [] = Some []
operands_up_to zero (word ∷ words) = None
operands_up_to (suc n) [] = option_map (λ os. None ∷ os) (operands_up_to n [])
operands_up_to (suc n) (word ∷ words) =
    option_and_then (λ o. option_map (λ os. Some o ∷ os) (operands_up_to n words)) (operand_of word)

-- the operands of a call: four at most
abbrev pub operands_of : List (List ℕ) → Option (List (Option Operand))
operands_of words = operands_up_to 4 words
