-- Facts about images that runs keep.
use Rattle.std.specs.Prelude.{◌≡◌, ℕ, ◌<◌, ◌^◌, List, [], ◌∷◌, length, map, Option, Some, None, IsSome, option_map}
use Rattle.std.specs.List.{AllByRecursion}
use Rattle.process_machine.specs.declared.instruction.Instruction.{Instruction}
use Rattle.process_machine.specs.declared.instruction.Instruction.TheVariants.{Set}
use Rattle.process_machine.specs.declared.program.Text.{Text}
use Rattle.process_machine.specs.declared.program.Program.{Program}
use Rattle.process_machine.specs.declared.call.Reply.{Reply}
use Rattle.process_machine.specs.declared.call.Reply.TheVariants.{Value, Error}
use Rattle.process_machine.specs.Machine.{Machine}

-- which pages are there, and how long each of them is
abbrev pub shape : List (Option (List ℕ)) → List (Option ℕ)
shape pages = map (option_map length) pages

-- each page is there
abbrev pub AllPresent : List (Option (List ℕ)) → Type 0
AllPresent pages = AllByRecursion IsSome pages

-- pages of which some are away, and the whole of them
abbrev pub IsPart : List (Option (List ℕ)) → List (Option (List ℕ)) → Type 0
IsPart [] [] = Unit {0}
IsPart [] (page ∷ whole) = ⊥
IsPart (page ∷ part) [] = ⊥
IsPart (None ∷ part) (page ∷ whole) = IsPart part whole
IsPart (Some bytes ∷ part) (page ∷ whole) = (page ≡ Some bytes) × IsPart part whole

-- the image with these pages
abbrev pub filled : Machine → List (Option (List ℕ)) → Machine
filled m pages = record m { pages = pages }

-- the same program, as many registers, and the same pages present, as long as before
pub record Keeps (old new : Machine) : Type 0 where
  pub number : new.number ≡ old.number
  pub registers : length new.registers ≡ length old.registers
  pub pages : shape new.pages ≡ shape old.pages

-- a list of bytes
abbrev pub AreBytes : List ℕ → Type 0
AreBytes bytes = AllByRecursion (λ b. b < 256) bytes

-- a page that is away, or one of bytes
abbrev pub HasBytes : Option (List ℕ) → Type 0
HasBytes None = Unit {0}
HasBytes (Some bytes) = AreBytes bytes

-- eight registers of 64 bits, and pages of bytes
pub record InRange (m : Machine) : Type 0 where
  pub eight : length m.registers ≡ 8
  pub words : AllByRecursion (λ r. r < 2 ^ 64) m.registers
  pub bytes : AllByRecursion HasBytes m.pages

-- an instruction whose number, where it goes into a register, has 64 bits
abbrev pub FitsRegister : Instruction → Type 0
FitsRegister (Set d n) = n < 2 ^ 64
FitsRegister _ = Unit {0}

-- a text of bytes
abbrev pub HasText : Text → Type 0
HasText text = AreBytes text.bytes

-- a program of 64-bit numbers, and of texts of bytes
pub record ProgramInRange (p : Program) : Type 0 where
  pub code : AllByRecursion FitsRegister p.code
  pub texts : AllByRecursion HasText p.texts

-- an answer of 64-bit values and of bytes
abbrev pub ReplyInRange : Reply → Type 0
ReplyInRange (Value first second bytes) = (first < 2 ^ 64) × (second < 2 ^ 64) × AreBytes bytes
ReplyInRange (Error errno) = Unit {0}
