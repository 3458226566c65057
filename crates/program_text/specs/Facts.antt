-- What holds of each program that a text writes, and of each first bad line.
use Rattle.std.specs.Prelude.{ℕ, List, ◌≡◌, ◌≤◌, ◌+◌, ◌*◌, Ok, Some, None, length, take, slice_get}
use Rattle.std.specs.List.{AllByRecursion}
use Rattle.std.specs.Option.{option_and_then}
use Rattle.process_machine.specs.declared.instruction.Instruction.{Instruction}
use Rattle.process_machine.specs.declared.instruction.Instruction.TheVariants.{Jmp, Jeq, Jne, Jlt}
use Rattle.process_machine.specs.declared.program.Program.{Program}
use Rattle.process_machine.specs.declared.program.Text.{Text}
use Rattle.program_text.specs.declared.assembly.AsmEnd.{AsmEnd}
use Rattle.program_text.specs.declared.assembly.AsmEnd.TheVariants as end
use Rattle.program_text.specs.declared.reading.Reading.{Reading}
use Rattle.text_lines.specs.Lines.{lines_of}
use Rattle.program_text.specs.Labels.{defines}
use Rattle.program_text.specs.Lines.{line_of}
use Rattle.program_text.specs.Readings.{judged, unread, with_line}
use Rattle.program_text.specs.Programs.{line_number}

-- a text ends inside so many bytes
abbrev pub EndsInside : ℕ → Text → Type 0
EndsInside bytes text = text.address + length text.bytes ≤ bytes

-- a jump goes to one of so many instructions, or behind the last
abbrev pub GoesWithin : ℕ → Instruction → Type 0
GoesWithin count (Jmp place) = place ≤ count
GoesWithin count (Jeq a b place) = place ≤ count
GoesWithin count (Jne a b place) = place ≤ count
GoesWithin count (Jlt a b place) = place ≤ count
GoesWithin count instruction = Unit {0}

-- a program within the limits
pub record IsWithinLimits (program : Program) : Type 0 where
  pub first : program.number ≡ 1
  pub steps : length program.code ≤ 512
  pub texts : length program.texts ≤ 64
  pub inside : AllByRecursion (EndsInside (program.pages * 4096)) program.texts
  pub within : AllByRecursion (GoesWithin (length program.code)) program.code

-- the line behind n others is the first bad one: those n are a reading, and it may not stand behind them
pub record IsFirstBad (version : ℕ) (lines : List (List ℕ)) (n : ℕ) : Type 0 where
  pub before : Reading
  pub line : List ℕ
  pub good : judged version (defines lines) 0 (Some unread) (take n lines) ≡ Ok before
  pub there : slice_get lines n ≡ Some line
  pub bad : option_and_then (with_line (defines lines) before) (line_of version line) ≡ None

-- the number of the first bad line of a text
pub record IsItsNumber (version : ℕ) (text : List ℕ) (number : ℕ) : Type 0 where
  pub place : ℕ
  pub counted : number ≡ line_number (place + 1)
  pub is_first : IsFirstBad version (lines_of text) place

-- the error gives the number of the first bad line
abbrev pub TellsFirst : ℕ → List ℕ → AsmEnd → Type 0
TellsFirst version text (end.Line number) = IsItsNumber version text number
TellsFirst version text end.NoMemory = Unit {0}
