-- Instructions, as the words of a line write them.
use Rattle.std.specs.Prelude.{codes, ℕ, List, [], ◌∷◌, Option, Some, None, if◌then◌else◌}
use Rattle.std.specs.Option.{option_map, option_and_then}
use Rattle.process_machine.specs.declared.instruction.Instruction.{Instruction}
use Rattle.process_machine.specs.declared.instruction.Instruction.TheVariants.{Set, Mov, Add, Sub, Mul, Addi, Div, Mod, Ldb, Stb, Ldw, Stw, Sys}
use Rattle.process_machine.specs.declared.instruction.SyscallName.{SyscallName}
use Rattle.program_text.specs.declared.step.Jump.{Jump}
use Rattle.program_text.specs.declared.step.Jump.TheVariants.{Always, Equal, Different, Less}
use Rattle.program_text.specs.declared.step.Step.{Step}
use Rattle.program_text.specs.declared.step.Step.TheVariants.{Plain, ToLabel}
use Rattle.text_lines.specs.Lines.{number_of}
use Rattle.program_text.specs.Words.{same}
use Rattle.program_text.specs.Operands.{register_of, operands_of}
use Rattle.program_text.specs.Calls.{call_in}

-- a call with its operands
abbrev pub call_with : List (List ℕ) → SyscallName → Option Step
call_with words name = option_map (λ operands. Plain (Sys name operands)) (operands_of words)

-- what stands behind `sys`: a call's name and operands
abbrev pub sys_of : ℕ → List (List ℕ) → Option Step
sys_of version [] = None
sys_of version (word ∷ words) = option_and_then (call_with words) (call_in version word)

-- a jump with no condition
abbrev pub jump_of : List ℕ → List ℕ → Option Step
jump_of name label = if same name (codes "jmp") then Some (ToLabel Always label) else None

-- the instruction of that name with two registers
abbrev pub of_registers : List ℕ → ℕ → ℕ → Option Instruction
of_registers name a b =
    if same name (codes "mov") then Some (Mov a b)
    else (if same name (codes "add") then Some (Add a b)
    else (if same name (codes "sub") then Some (Sub a b)
    else (if same name (codes "mul") then Some (Mul a b)
    else (if same name (codes "div") then Some (Div a b)
    else (if same name (codes "mod") then Some (Mod a b)
    else (if same name (codes "ldb") then Some (Ldb a b)
    else (if same name (codes "stb") then Some (Stb a b)
    else (if same name (codes "ldw") then Some (Ldw a b)
    else (if same name (codes "stw") then Some (Stw a b)
    else None)))))))))

-- the instruction of that name with a register and the word behind it
abbrev pub with_register : List ℕ → List ℕ → ℕ → Option Instruction
with_register name second a =
    if same name (codes "set")
    then option_map (Set a) (number_of second)
    else (if same name (codes "addi")
    then option_map (Addi a) (number_of second)
    else option_and_then (of_registers name a) (register_of second))

-- an instruction of a register, and a register or number
abbrev pub of_two : List ℕ → List ℕ → List ℕ → Option Step
of_two name first second = option_map Plain (option_and_then (with_register name second) (register_of first))

-- the condition of the jump of that name
abbrev pub branch_named : List ℕ → ℕ → ℕ → Option Jump
branch_named name a b =
    if same name (codes "jeq")
    then Some (Equal a b)
    else (if same name (codes "jne")
    then Some (Different a b)
    else (if same name (codes "jlt")
    then Some (Less a b)
    else None))

-- a jump with a condition on two registers
abbrev pub branch_of : List ℕ → List ℕ → List ℕ → List ℕ → Option Step
branch_of name first second label =
    option_and_then
    (λ a. option_and_then
    (λ b. option_map (λ jump. ToLabel jump label) (branch_named name a b))
    (register_of second))
    (register_of first)

-- what an instruction's name and the words behind it write, by how many words they are
abbrev pub by_count : List ℕ → List (List ℕ) → Option Step
by_count name [] = None
by_count name (label ∷ []) = jump_of name label
by_count name (first ∷ second ∷ []) = of_two name first second
by_count name (first ∷ second ∷ label ∷ []) = branch_of name first second label
by_count name (first ∷ second ∷ third ∷ more ∷ words) = None

-- the instruction that a line writes by its first word and the words behind it
abbrev pub step_of : ℕ → List ℕ → List (List ℕ) → Option Step
step_of version name words = if same name (codes "sys") then sys_of version words else by_count name words
