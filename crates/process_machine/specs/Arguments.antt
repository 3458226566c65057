-- The arguments of a system call.
use Rattle.std.specs.Prelude.{ℕ, List, Option, Some, None, slice_index_or}
use Rattle.process_machine.specs.declared.arguments.Arguments.{Arguments}
use Rattle.process_machine.specs.declared.instruction.Operand.{Operand}
use Rattle.process_machine.specs.declared.instruction.Operand.TheVariants.{Register, Number}
use Rattle.process_machine.specs.Machine.{Machine, register}

-- an argument: its operand, or else the register of its place
abbrev pub argument : Machine → ℕ → Option Operand → ℕ
argument m place None = register m place
argument m place (Some (Register r)) = register m r
argument m place (Some (Number n)) = n

-- the four arguments that a call can have
abbrev pub arguments : Machine → List (Option Operand) → Arguments
arguments m operands =
    record {
      first = argument m 1 (slice_index_or operands 0 None);
      second = argument m 2 (slice_index_or operands 1 None);
      third = argument m 3 (slice_index_or operands 2 None);
      fourth = argument m 4 (slice_index_or operands 3 None);
    }
