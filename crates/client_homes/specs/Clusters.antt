-- The kernels and programs of the cluster.
use Rattle.std.specs.Prelude.{ℕ, ◌-◌, ◌==◌, Bool, false, if◌then◌else◌, List, [], Option, Some, None, length, slice_get}
use Rattle.process_machine.specs.declared.Reply.{Reply}
use Rattle.process_machine.specs.Machine.{Machine}
use Rattle.process_machine.specs.Replies.{given}
use Rattle.unix_calls.specs.declared.KernelLine.{KernelLine}
use Rattle.unix_calls.specs.declared.ProgramLine.{ProgramLine}

-- whether a looked-up kernel serves no domain
abbrev pub serves_none : Option KernelLine → Bool
serves_none (Some line) = length line.serves == 0
serves_none None = false

-- whether the kernel is a client
abbrev pub is_client : List KernelLine → ℕ → Bool
is_client kernels kernel = serves_none (slice_get kernels (kernel - 1))

-- a looked-up kernel's name
abbrev pub name_in : Option KernelLine → List ℕ
name_in (Some line) = line.name
name_in None = []

-- the kernel's name
abbrev pub name_of : List KernelLine → ℕ → List ℕ
name_of kernels kernel = name_in (slice_get kernels (kernel - 1))

-- the program of that number
abbrev pub program_line : List ProgramLine → ℕ → Option ProgramLine
program_line programs number = if number == 0 then None else slice_get programs (number - 1)

-- the image with the reply of the call at which it stands, by a looked-up program
abbrev pub given_with : Machine → Reply → Option ProgramLine → Machine
given_with image reply (Some line) = given line.program image reply
given_with image reply None = image

abbrev pub given_by : List ProgramLine → Machine → Reply → Machine
given_by programs image reply = given_with image reply (program_line programs image.number)
