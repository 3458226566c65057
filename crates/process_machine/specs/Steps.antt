-- What one instruction does.
use Rattle.std.specs.Prelude.{◌≡◌, ℕ, ◌+◌, ◌-◌, ◌*◌, ◌/◌, ◌%◌, ◌^◌, List, Option, Some, None, Bool, true, false, ◌==◌, nat_lt, slice_get, if◌then◌else◌}
use Rattle.byteorder.specs.Endian.{little_number, little_bytes}
use Rattle.process_machine.specs.declared.instruction.Instruction.{Instruction}
use Rattle.process_machine.specs.declared.instruction.Instruction.TheVariants.{Set, Mov, Add, Sub, Mul, Addi, Div, Mod, Ldb, Stb, Ldw, Stw, Jmp, Jeq, Jne, Jlt, Sys}
use Rattle.process_machine.specs.declared.parts.Parts.{Parts}
use Rattle.process_machine.specs.declared.program.Program.{Program}
use Rattle.process_machine.specs.Machine.{Machine, register, put, at_place, with_pages}
use Rattle.process_machine.specs.Memory.{byte_at, bytes_at, with_byte, with_bytes, byte_access, word_access}
use Rattle.process_machine.specs.declared.memory.Access.{Access}
use Rattle.process_machine.specs.declared.memory.Access.TheVariants.{Present, Outside, Away}
use Rattle.process_machine.specs.declared.running.Stepped.{Stepped}
use Rattle.process_machine.specs.declared.running.Stepped.TheVariants as seen
use Rattle.process_machine.specs.Arguments.{arguments}
use Rattle.process_machine.specs.Parts.{parts_of, refusal, first_away}
use Rattle.sprite_ids.specs.declared.errno.Errno.{Errno}

-- the image after the instruction; or that it stands at a system call, at a bad step, or at an instruction whose first
-- absent page is that one
pub data Step : Type 0 where
  Moved : Machine → Step
  AtCall : Step
  AtBadStep : Step
  AtPage : ℕ → Step

-- a step that a divisor of 0 makes bad
abbrev pub divided : ℕ → Machine → Step
divided divisor next = if divisor == 0 then AtBadStep else Moved next

-- a step that touches the pages
abbrev pub touching : Access → Machine → Step
touching Present next = Moved next
touching Outside next = AtBadStep
touching (Away k) next = AtPage k

-- a jump, where its test holds
abbrev pub jumped : Bool → Machine → ℕ → Step
jumped true m place = Moved (at_place m place)
jumped false m place = Moved (at_place m (m.counter + 1))

-- a system call wants the first absent page of its parts
abbrev pub wanting : Option ℕ → Step
wanting None = AtCall
wanting (Some k) = AtPage k

-- a refused call wants none
abbrev pub calling : Option Errno → List (Option (List ℕ)) → Parts → Step
calling None pages parts = wanting (first_away 0 pages parts)
calling (Some errno) pages parts = AtCall

-- what each instruction does
abbrev pub done : Instruction → Machine → Step
done (Set d n) m = Moved (put m d n)
done (Mov d s) m = Moved (put m d (register m s))
done (Add d s) m = Moved (put m d ((register m d + register m s) % 2 ^ 64))
done (Sub d s) m = Moved (put m d ((register m d + 2 ^ 64 - register m s) % 2 ^ 64))
done (Mul d s) m = Moved (put m d (register m d * register m s % 2 ^ 64))
done (Addi d n) m = Moved (put m d ((register m d + n) % 2 ^ 64))
done (Div d s) m = divided (register m s) (put m d (register m d / register m s))
done (Mod d s) m = divided (register m s) (put m d (register m d % register m s))
done (Ldb d a) m = touching (byte_access m.pages (register m a)) (put m d (byte_at m.pages (register m a)))
done (Stb a s) m = touching (byte_access m.pages (register m a)) (with_pages m (with_byte m.pages (register m a) (register m s % 256)))
done (Ldw d a) m = touching (word_access m.pages (register m a)) (put m d (little_number 8 (bytes_at m.pages (register m a) 8)))
done (Stw a s) m = touching (word_access m.pages (register m a)) (with_pages m (with_bytes m.pages (register m a) (little_bytes 8 (register m s))))
done (Jmp place) m = Moved (at_place m place)
done (Jeq a b place) m = jumped (register m a == register m b) m place
done (Jne a b place) m = jumped (if register m a == register m b then false else true) m place
done (Jlt a b place) m = jumped (nat_lt (register m a) (register m b)) m place
done (Sys n operands) m =
    let parts = parts_of n (arguments m operands) in calling (refusal m.pages parts) m.pages parts

-- past the last instruction each step is bad
abbrev pub done_if : Option Instruction → Machine → Step
done_if None m = AtBadStep
done_if (Some i) m = done i m

-- one step of a program
abbrev pub step_of : Program → Machine → Step
step_of p m = done_if (slice_get p.code m.counter) m

-- what the code tells of a step, with the image after it
abbrev pub told : Stepped → Machine → Step
told seen.Moved m = Moved m
told seen.Call m = AtCall
told seen.BadStep m = AtBadStep
told (seen.PageNeeded k) m = AtPage k

-- a step that doesn't move leaves the image as it is
abbrev pub Kept : Stepped → Machine → Machine → Type 0
Kept seen.Moved old new = Unit {0}
Kept seen.Call old new = new ≡ old
Kept seen.BadStep old new = new ≡ old
Kept (seen.PageNeeded k) old new = new ≡ old
