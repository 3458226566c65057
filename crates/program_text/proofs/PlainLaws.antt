-- No line writes a jump as a plain instruction.
use Rattle.std.proofs.Common.{codes, ℕ, List, [], ◌∷◌, Bool, Option, Some}
use Rattle.std.specs.Bool.{if◌then◌else◌}
use Rattle.process_machine.specs.declared.instruction.Instruction.{Instruction}
use Rattle.process_machine.specs.declared.instruction.Instruction.TheVariants.{Set, Mov, Add, Sub, Mul, Addi, Div, Mod, Ldb, Stb, Ldw, Stw, Sys, Jmp, Jeq, Jne, Jlt}
use Rattle.program_text.specs.declared.line.Line.{Line}
use Rattle.program_text.specs.declared.line.Line.TheVariants.{Blank, Label, Pages, Data, Code}
use Rattle.program_text.specs.declared.step.Jump.TheVariants.{Always}
use Rattle.program_text.specs.declared.step.Step.{Step}
use Rattle.program_text.specs.declared.step.Step.TheVariants.{Plain, ToLabel}
use Rattle.text_lines.specs.Lines.{number_of}
use Rattle.program_text.specs.Words.{same, words_of, past_word}
use Rattle.program_text.specs.Operands.{register_of, operands_of}
use Rattle.program_text.specs.Calls.{call_in}
use Rattle.program_text.specs.Labels.{label_in}
use Rattle.program_text.specs.Steps.{of_registers, with_register, of_two, branch_named, branch_of, call_with, sys_of, by_count, step_of}
use Rattle.program_text.proofs.ChoiceLaws.{Each, Any, any_holds, each_none, each_some, each_if, each_then, each_mapped}
use Rattle.program_text.specs.Lines.{is_comment, label_or_step, line_by, line_of, text_of, pages_of}

-- an instruction that is no jump
abbrev pub IsNoJump : Instruction → Type 0
IsNoJump (Jmp place) = ⊥
IsNoJump (Jeq a b place) = ⊥
IsNoJump (Jne a b place) = ⊥
IsNoJump (Jlt a b place) = ⊥
IsNoJump instruction = Unit {0}

-- a step that is no plain jump
abbrev pub IsPlain : Step → Type 0
IsPlain (Plain instruction) = IsNoJump instruction
IsPlain (ToLabel jump label) = Unit {0}

-- a line that writes no plain jump
abbrev pub HasPlain : Line → Type 0
HasPlain (Code step) = IsPlain step
HasPlain line = Unit {0}

-- one instruction that is no jump, or another
one : (t : Bool) (i : Instruction) (o : Option Instruction) → IsNoJump i → Each IsNoJump o → Each IsNoJump (if t then Some i else o)
one t i o h k = each_if IsNoJump t (Some i) o (λ e. each_some IsNoJump i h) (λ e. k)

registers_plain : (name : List ℕ) (a b : ℕ) → Each IsNoJump (of_registers name a b)
registers_plain name a b =
    one _ (Mov a b) _ tt (one _ (Add a b) _ tt (one _ (Sub a b) _ tt (one _ (Mul a b) _ tt (one _ (Div a b) _ tt (one _ (Mod a b) _ tt (one _ (Ldb a b) _ tt (one _ (Stb a b) _ tt (one _ (Ldw a b) _ tt (one _ (Stw a b) _ tt (each_none IsNoJump))))))))))

register_plain : (name second : List ℕ) (a : ℕ) → Each IsNoJump (with_register name second a)
register_plain name second a =
    each_if IsNoJump (same name (codes "set")) _ _
    (λ e. each_mapped Any IsNoJump (Set a) (number_of second) (any_holds (number_of second)) (λ n h. tt))
    (λ e. each_if IsNoJump (same name (codes "addi")) _ _
    (λ f. each_mapped Any IsNoJump (Addi a) (number_of second) (any_holds (number_of second)) (λ n h. tt))
    (λ f. each_then Any IsNoJump (of_registers name a) (register_of second) (any_holds (register_of second)) (λ b h. registers_plain name a b)))

two_plain : (name first second : List ℕ) → Each IsPlain (of_two name first second)
two_plain name first second =
    each_mapped IsNoJump IsPlain Plain _
    (each_then Any IsNoJump (with_register name second) (register_of first) (any_holds (register_of first)) (λ a h. register_plain name second a))
    (λ i h. h)

branch_plain : (name first second label : List ℕ) → Each IsPlain (branch_of name first second label)
branch_plain name first second label =
    each_then Any IsPlain _ (register_of first) (any_holds (register_of first))
    (λ a h. each_then Any IsPlain _ (register_of second) (any_holds (register_of second))
    (λ b k. each_mapped Any IsPlain _ (branch_named name a b) (any_holds (branch_named name a b)) (λ jump l. tt)))

count_plain : (name : List ℕ) (words : List (List ℕ)) → Each IsPlain (by_count name words)
count_plain name [] = each_none IsPlain
count_plain name (label ∷ []) = each_if IsPlain (same name (codes "jmp")) _ _ (λ e. each_some IsPlain (ToLabel Always label) tt) (λ e. each_none IsPlain)
count_plain name (first ∷ second ∷ []) = two_plain name first second
count_plain name (first ∷ second ∷ label ∷ []) = branch_plain name first second label
count_plain name (first ∷ second ∷ third ∷ more ∷ words) = each_none IsPlain

sys_plain : (version : ℕ) (words : List (List ℕ)) → Each IsPlain (sys_of version words)
sys_plain version [] = each_none IsPlain
sys_plain version (word ∷ words) =
    each_then Any IsPlain (call_with words) (call_in version word) (any_holds (call_in version word))
    (λ name h. each_mapped Any IsPlain (λ operands. Plain (Sys name operands)) (operands_of words) (any_holds (operands_of words)) (λ operands k. tt))

step_plain : (version : ℕ) (name : List ℕ) (words : List (List ℕ)) → Each IsPlain (step_of version name words)
step_plain version name words = each_if IsPlain (same name (codes "sys")) _ _ (λ e. sys_plain version words) (λ e. count_plain name words)

rest_plain : (version : ℕ) (word : List ℕ) (words : List (List ℕ)) → Each HasPlain (label_or_step version word words)
rest_plain version word [] = each_mapped Any HasPlain Label (label_in word) (any_holds (label_in word)) (λ name h. tt)
rest_plain version word (more ∷ words) = each_mapped IsPlain HasPlain Code _ (step_plain version word (more ∷ words)) (λ step h. h)

by_plain : (version : ℕ) (bytes : List ℕ) (words : List (List ℕ)) → Each HasPlain (line_by version bytes words)
by_plain version bytes [] = each_some HasPlain Blank tt
by_plain version bytes (word ∷ words) =
    each_if HasPlain (is_comment word) _ _
    (λ e. each_some HasPlain Blank tt)
    (λ e. each_if HasPlain (same word (codes "text")) _ _
    (λ f. each_mapped Any HasPlain Data (text_of (past_word bytes)) (any_holds (text_of (past_word bytes))) (λ text h. tt))
    (λ f. each_if HasPlain (same word (codes "pages")) _ _
    (λ g. each_mapped Any HasPlain Pages (pages_of words) (any_holds (pages_of words)) (λ pages h. tt))
    (λ g. rest_plain version word words)))

-- no line writes a jump as a plain instruction
pub line_plain : (version : ℕ) (bytes : List ℕ) → Each HasPlain (line_of version bytes)
line_plain version bytes = by_plain version bytes (words_of bytes)
