-- What an answer does to the image that stands at its call.
use Rattle.std.specs.Prelude.{ℕ, ◌+◌, List, Option, Some, slice_get, slice_set}
use Rattle.sprite_ids.specs.Errno.{errno_number}
use Rattle.process_machine.specs.declared.arguments.Arguments.{Arguments}
use Rattle.process_machine.specs.declared.instruction.Instruction.{Instruction}
use Rattle.process_machine.specs.declared.instruction.Instruction.TheVariants.{Sys}
use Rattle.process_machine.specs.declared.instruction.SyscallName.{SyscallName}
use Rattle.process_machine.specs.declared.instruction.SyscallName.TheVariants.{Host, Read, List as ListName, PdGet, Ioctl}
use Rattle.process_machine.specs.declared.call.Reply.{Reply}
use Rattle.process_machine.specs.declared.call.Reply.TheVariants.{Value, Error}
use Rattle.process_machine.specs.declared.program.Program.{Program}
use Rattle.process_machine.specs.Machine.{Machine}
use Rattle.process_machine.specs.Memory.{with_bytes}
use Rattle.process_machine.specs.Arguments.{arguments}

-- where a call wants its answer's bytes
abbrev pub answer_address : SyscallName → Arguments → ℕ
answer_address Host a = a.first
answer_address Read a = a.second
answer_address ListName a = a.third
answer_address PdGet a = a.second
answer_address Ioctl a = a.third
answer_address _ a = 0

-- registers 0, 1 and 2
abbrev pub three : List ℕ → ℕ → ℕ → ℕ → List ℕ
three registers zeroth first second = slice_set (slice_set (slice_set registers 0 zeroth) 1 first) 2 second

-- a value sets register 0 to 0, registers 1 and 2 to its two values, and puts its bytes into the pages; a refusal sets
-- register 0 to its number and the two others to 0; both move the counter on by one
abbrev pub answered : ℕ → Machine → Reply → Machine
answered address m (Value first second bytes) =
    record m {
      counter = m.counter + 1;
      registers = three m.registers 0 first second;
      pages = with_bytes m.pages address bytes;
    }
answered address m (Error errno) =
    record m { counter = m.counter + 1; registers = three m.registers (errno_number errno) 0 0 }

-- the answer of the call that an instruction makes
abbrev pub given_in : Option Instruction → Machine → Reply → Machine
given_in (Some (Sys n operands)) m reply = answered (answer_address n (arguments m operands)) m reply
given_in _ m reply = m

-- the image with the answer, of use where it stands at a system call
abbrev pub given : Program → Machine → Reply → Machine
given p m reply = given_in (slice_get p.code m.counter) m reply
