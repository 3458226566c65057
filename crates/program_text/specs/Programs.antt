-- The program that a text writes, or its first bad line.
use Rattle.std.specs.Prelude.{ℕ, List, ◌≡◌, ◌-◌, ◌^◌, Result, Ok, Err, Some, if◌then◌else◌, nat_lt, map}
use Rattle.std.specs.Option.{unwrap_or}
use Rattle.process_machine.specs.declared.instruction.Instruction.{Instruction}
use Rattle.process_machine.specs.declared.instruction.Instruction.TheVariants.{Jmp, Jeq, Jne, Jlt}
use Rattle.process_machine.specs.declared.program.Program.{Program}
use Rattle.program_text.specs.declared.assembly.AsmEnd.{AsmEnd}
use Rattle.program_text.specs.declared.assembly.AsmEnd.TheVariants as end
use Rattle.program_text.specs.declared.step.Jump.{Jump}
use Rattle.program_text.specs.declared.step.Jump.TheVariants.{Always, Equal, Different, Less}
use Rattle.program_text.specs.declared.step.Step.{Step}
use Rattle.program_text.specs.declared.step.Step.TheVariants.{Plain, ToLabel}
use Rattle.program_text.specs.declared.reading.Reading.{Reading}
use Rattle.text_lines.specs.Lines.{lines_of}
use Rattle.program_text.specs.Labels.{defines}
use Rattle.program_text.specs.Readings.{place_of, judged, unread}

-- the jump to a place
abbrev pub jump_to : Jump → ℕ → Instruction
jump_to Always place = Jmp place
jump_to (Equal a b) place = Jeq a b place
jump_to (Different a b) place = Jne a b place
jump_to (Less a b) place = Jlt a b place

-- the instruction of a step: a jump goes to the place of its label, which a program defines
abbrev pub aimed : List (List ℕ × ℕ) → Step → Instruction
aimed labels (Plain instruction) = instruction
aimed labels (ToLabel jump label) = jump_to jump (unwrap_or (place_of labels label) 0)

-- the program of all lines; one page where no line gives their number
abbrev pub program_by : Reading → Program
program_by r = record { number = 1; pages = unwrap_or r.pages 1; texts = r.texts; code = map (aimed r.labels) r.steps }

-- the program of what all lines gave, or the first bad line's number
abbrev pub finished : Result Reading ℕ → Result Program ℕ
finished (Ok r) = Ok (program_by r)
finished (Err n) = Err n

-- what all lines of a text give, or the number of its first bad line
abbrev pub verdict : ℕ → List ℕ → Result Reading ℕ
verdict version text = judged version (defines (lines_of text)) 0 (Some unread) (lines_of text)

-- the program that a text writes, or its first bad line's number from 1
abbrev pub program_of : ℕ → List ℕ → Result Program ℕ
program_of version text = finished (verdict version text)

-- a line's number as the error gives it, which has 32 bits
abbrev pub line_number : ℕ → ℕ
line_number n = if nat_lt n (2 ^ 32) then n else 2 ^ 32 - 1

-- the error that stands for a first bad line; want of memory stands for nothing of the text
abbrev pub IsBadAt : {A : Type 0} → Result A ℕ → AsmEnd → Type 0
IsBadAt (Ok value) (end.Line number) = ⊥
IsBadAt (Err n) (end.Line number) = number ≡ line_number n
IsBadAt (Ok value) end.NoMemory = Unit {0}
IsBadAt (Err n) end.NoMemory = Unit {0}
