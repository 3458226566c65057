-- A program that a text writes is a lawful one.
use Rattle.std.proofs.Common.{◌≡◌, ℕ, ◌+◌, ◌*◌, List, [], ◌∷◌, codes, length, map, Bool, true, false, ◌&&◌, Option, Some, None, Result, Ok, Err, refl, sym, subst, arith, nat_le}
use Rattle.std.specs.Bool.{if◌then◌else◌}
use Rattle.std.specs.List.{AllByRecursion, list_all}
use Rattle.std.specs.Option.{unwrap_or, option_and_then, option_or}
use Rattle.std.proofs.lemmas.Bool.{and_parts, and_from, le-leb, lt-ltb, leb-true, true≢false}
use Rattle.sprite_ids.proofs.ListLaws.{each_push}
use Rattle.process_machine.specs.declared.instruction.Instruction.{Instruction}
use Rattle.process_machine.specs.declared.instruction.Instruction.TheVariants.{Set, Mov, Add, Sub, Mul, Addi, Div, Mod, Ldb, Stb, Ldw, Stw, Sys, Jmp, Jeq, Jne, Jlt}
use Rattle.process_machine.specs.declared.instruction.SyscallName.{SyscallName}
use Rattle.process_machine.specs.declared.instruction.SyscallName.TheVariants as name
use Rattle.process_machine.specs.declared.program.Program.{Program}
use Rattle.process_machine.specs.declared.program.Text.{Text}
use Rattle.program_text.specs.declared.line.Line.{Line}
use Rattle.program_text.specs.declared.line.Line.TheVariants as line
use Rattle.program_text.specs.declared.step.Jump.{Jump}
use Rattle.program_text.specs.declared.step.Jump.TheVariants.{Always, Equal, Different, Less}
use Rattle.program_text.specs.declared.step.Step.{Step}
use Rattle.program_text.specs.declared.step.Step.TheVariants.{Plain, ToLabel}
use Rattle.program_text.specs.declared.reading.Reading.{Reading}
use Rattle.text_lines.specs.Lines.{lines_of, number_of}
use Rattle.program_text.specs.Words.{same, words_of, past_word}
use Rattle.program_text.specs.Operands.{register_of, operands_of}
use Rattle.program_text.specs.Calls.{process_calls, stream_calls, name_calls, among, call_in}
use Rattle.program_text.specs.Labels.{label_in, defines}
use Rattle.program_text.specs.Steps.{of_registers, with_register, of_two, branch_named, branch_of, call_with, sys_of, by_count, step_of}
use Rattle.program_text.specs.Lines.{is_comment, page_count, label_or_step, line_by, line_of, text_of, pages_of}
use Rattle.program_text.specs.Readings.{with_line, judged, unread}
use Rattle.program_text.specs.Programs.{aimed, jump_to, program_by, finished, verdict, program_of}
use Rattle.program_text.specs.Facts.{EndsInside, GoesWithin, IsWithinLimits}
use Rattle.program_text.proofs.ChoiceLaws.{Each, Any, any_holds, each_none, each_some, each_if, each_then, each_mapped}
use Rattle.program_text.proofs.LimitLaws.{reading_within}
use Rattle.unix_calls.specs.Lawful.{is_within, has_call, ends_inside, is_instruction, is_program}

-- ---- calls

-- each call but `rexec` has a name in every version
abbrev is_old : SyscallName → Bool
is_old name.Rexec = false
is_old _ = true

-- those have a name in each version
old_call : (version : ℕ) (called : SyscallName) → is_old called ≡ true → has_call version called ≡ true
old_call version name.Rexec e = absurd (true≢false (sym e))
old_call version _ e = refl

-- a fact of one of two
each_or : {A : Type 0} (P : A → Type 0) (o p : Option A) → Each P o → Each P p → Each P (option_or o p)
each_or P None p h k = k
each_or P (Some x) p h k = h

-- of calls that all have a name, the one that is found has one
old_among : (version : ℕ) (rows : List (List ℕ × SyscallName)) (word : List ℕ) → list_all (λ (row : List ℕ × SyscallName). is_old row.1) rows ≡ true → Each (λ (called : SyscallName). has_call version called ≡ true) (among rows word)
old_among version [] word h = each_none _
old_among version (row ∷ rows) word h =
    let both = and_parts (is_old row.1) (list_all (λ (r : List ℕ × SyscallName). is_old r.1) rows) h in
    each_if _ (same word row.0) (Some row.1) (among rows word) (λ e. each_some _ row.1 (old_call version row.1 both.0)) (λ e. old_among version rows word both.1)

-- each call that a word names has a name in that version
call_has : (version : ℕ) (word : List ℕ) → Each (λ (called : SyscallName). has_call version called ≡ true) (call_in version word)
call_has version word =
    each_if _ (same word (codes "rexec")) _ _
    (λ e. each_if _ (nat_le 2 version) (Some name.Rexec) None (λ f. each_some _ name.Rexec (lt-ltb 1 version (let two = leb-true 2 version f in omega (arith, two)))) (λ f. each_none _))
    (λ e. each_or _ _ _ (each_or _ _ _ (old_among version process_calls word refl) (old_among version stream_calls word refl)) (old_among version name_calls word refl))

-- ---- lines

-- an instruction whose call has a name
abbrev is_called : ℕ → Instruction → Bool
is_called version (Sys called operands) = has_call version called
is_called version other = true

-- the same as a type
abbrev IsCalled : ℕ → Instruction → Type 0
IsCalled version instruction = is_called version instruction ≡ true

-- a step that is a jump, or whose call has a name
abbrev Suits : ℕ → Step → Type 0
Suits version (Plain instruction) = is_called version instruction ≡ true
Suits version (ToLabel jump label) = Unit {0}

-- a line whose step suits, or whose pages are 1 to 8
abbrev Fits : ℕ → Line → Type 0
Fits version (line.Code step) = Suits version step
Fits version (line.Pages pages) = is_within 1 8 pages ≡ true
Fits version other = Unit {0}

-- one more instruction that a name may give
one : (version : ℕ) (t : Bool) (i : Instruction) (o : Option Instruction) → IsCalled version i → Each (IsCalled version) o → Each (IsCalled version) (if t then Some i else o)
one version t i o h k = each_if (IsCalled version) t (Some i) o (λ e. each_some (IsCalled version) i h) (λ e. k)

-- instructions of two registers are no calls
registers_called : (version : ℕ) (word : List ℕ) (a b : ℕ) → Each (IsCalled version) (of_registers word a b)
registers_called version word a b =
    one version _ (Mov a b) _ refl (one version _ (Add a b) _ refl (one version _ (Sub a b) _ refl (one version _ (Mul a b) _ refl (one version _ (Div a b) _ refl (one version _ (Mod a b) _ refl (one version _ (Ldb a b) _ refl (one version _ (Stb a b) _ refl (one version _ (Ldw a b) _ refl (one version _ (Stw a b) _ refl (each_none (IsCalled version)))))))))))

-- nor are those of a register and a number
register_called : (version : ℕ) (word second : List ℕ) (a : ℕ) → Each (IsCalled version) (with_register word second a)
register_called version word second a =
    each_if (IsCalled version) (same word (codes "set")) _ _
    (λ e. each_mapped Any (IsCalled version) (Set a) (number_of second) (any_holds (number_of second)) (λ n h. refl))
    (λ e. each_if (IsCalled version) (same word (codes "addi")) _ _
    (λ f. each_mapped Any (IsCalled version) (Addi a) (number_of second) (any_holds (number_of second)) (λ n h. refl))
    (λ f. each_then Any (IsCalled version) (of_registers word a) (register_of second) (any_holds (register_of second)) (λ b h. registers_called version word a b)))

-- nor is what a name and two words write
two_suit : (version : ℕ) (word first second : List ℕ) → Each (Suits version) (of_two word first second)
two_suit version word first second =
    each_mapped (IsCalled version) (Suits version) Plain _
    (each_then Any (IsCalled version) (with_register word second) (register_of first) (any_holds (register_of first)) (λ a h. register_called version word second a))
    (λ i h. h)

-- a jump with a condition is none
branch_suits : (version : ℕ) (word first second label : List ℕ) → Each (Suits version) (branch_of word first second label)
branch_suits version word first second label =
    each_then Any (Suits version) _ (register_of first) (any_holds (register_of first))
    (λ a h. each_then Any (Suits version) _ (register_of second) (any_holds (register_of second))
    (λ b k. each_mapped Any (Suits version) _ (branch_named word a b) (any_holds (branch_named word a b)) (λ jump l. tt)))

-- so no instruction but `sys` is one
count_suits : (version : ℕ) (word : List ℕ) (words : List (List ℕ)) → Each (Suits version) (by_count word words)
count_suits version word [] = each_none (Suits version)
count_suits version word (label ∷ []) = each_if (Suits version) (same word (codes "jmp")) _ _ (λ e. each_some (Suits version) (ToLabel Always label) tt) (λ e. each_none (Suits version))
count_suits version word (first ∷ second ∷ []) = two_suit version word first second
count_suits version word (first ∷ second ∷ label ∷ []) = branch_suits version word first second label
count_suits version word (first ∷ second ∷ third ∷ more ∷ words) = each_none (Suits version)

-- `sys` writes a call that has a name
sys_suits : (version : ℕ) (words : List (List ℕ)) → Each (Suits version) (sys_of version words)
sys_suits version [] = each_none (Suits version)
sys_suits version (word ∷ words) =
    each_then (λ (called : SyscallName). has_call version called ≡ true) (Suits version) (call_with words) (call_in version word) (call_has version word)
    (λ called h. each_mapped Any (Suits version) (λ operands. Plain (Sys called operands)) (operands_of words) (any_holds (operands_of words)) (λ operands k. h))

-- each step suits
step_suits : (version : ℕ) (word : List ℕ) (words : List (List ℕ)) → Each (Suits version) (step_of version word words)
step_suits version word words = each_if (Suits version) (same word (codes "sys")) _ _ (λ e. sys_suits version words) (λ e. count_suits version word words)

-- a line that is a label or an instruction
rest_fits : (version : ℕ) (word : List ℕ) (words : List (List ℕ)) → Each (Fits version) (label_or_step version word words)
rest_fits version word [] = each_mapped Any (Fits version) line.Label (label_in word) (any_holds (label_in word)) (λ label h. tt)
rest_fits version word (more ∷ words) = each_mapped (Suits version) (Fits version) line.Code _ (step_suits version word (more ∷ words)) (λ step h. h)

-- the pages are 1 to 8
abbrev AreFew : ℕ → Type 0
AreFew pages = is_within 1 8 pages ≡ true

-- a number of pages that is read
count_few : (n : ℕ) → Each AreFew (page_count n)
count_few n = each_if AreFew (nat_le 1 n && nat_le n 8) (Some n) None (λ e. each_some AreFew n e) (λ e. each_none AreFew)

-- and the one that stands behind `pages`
pages_few : (words : List (List ℕ)) → Each AreFew (pages_of words)
pages_few [] = each_none AreFew
pages_few (word ∷ []) = each_then Any AreFew page_count (number_of word) (any_holds (number_of word)) (λ n h. count_few n)
pages_few (word ∷ more ∷ words) = each_none AreFew

-- each line fits
by_fits : (version : ℕ) (bytes : List ℕ) (words : List (List ℕ)) → Each (Fits version) (line_by version bytes words)
by_fits version bytes [] = each_some (Fits version) line.Blank tt
by_fits version bytes (word ∷ words) =
    each_if (Fits version) (is_comment word) _ _
    (λ e. each_some (Fits version) line.Blank tt)
    (λ e. each_if (Fits version) (same word (codes "text")) _ _
    (λ f. each_mapped Any (Fits version) line.Data (text_of (past_word bytes)) (any_holds (text_of (past_word bytes))) (λ text h. tt))
    (λ f. each_if (Fits version) (same word (codes "pages")) _ _
    (λ g. each_mapped AreFew (Fits version) line.Pages (pages_of words) (pages_few words) (λ pages h. h))
    (λ g. rest_fits version word words)))

-- ---- all lines

-- where the number of pages is known, it is 1 to 8
abbrev HasFew : Option ℕ → Type 0
HasFew None = Unit {0}
HasFew (Some pages) = is_within 1 8 pages ≡ true

-- a reading whose steps suit and whose pages are 1 to 8
record Suited (version : ℕ) (r : Reading) : Type 0 where
  pages : HasFew r.pages
  steps : AllByRecursion (Suits version) r.steps

-- one more line keeps that
line_suited : (version : ℕ) (defined : List ℕ → Bool) (r : Reading) (l : Line) → Fits version l → Suited version r → Each (Suited version) (with_line defined r l)
line_suited version defined r line.Blank p h = each_some (Suited version) r h
line_suited version defined r (line.Label label) p h = each_if (Suited version) _ _ _ (λ e. each_none (Suited version)) (λ e. each_some (Suited version) _ (record { pages = h.pages; steps = h.steps }))
line_suited version defined r (line.Pages pages) p h = each_if (Suited version) _ _ _ (λ e. each_none (Suited version)) (λ e. each_some (Suited version) _ (record { pages = p; steps = h.steps }))
line_suited version defined r (line.Data text) p h = each_if (Suited version) _ _ _ (λ e. each_some (Suited version) _ (record { pages = h.pages; steps = h.steps })) (λ e. each_none (Suited version))
line_suited version defined r (line.Code step) p h = each_if (Suited version) _ _ _ (λ e. each_some (Suited version) _ (record { pages = h.pages; steps = each_push (Suits version) r.steps step h.steps p })) (λ e. each_none (Suited version))

-- where the line is one
more_suited : (version : ℕ) (defined : List ℕ → Bool) (r : Reading) (o : Option Line) → Each (Fits version) o → Suited version r → Each (Suited version) (option_and_then (with_line defined r) o)
more_suited version defined r o p h = each_then (Fits version) (Suited version) (with_line defined r) o p (λ l q. line_suited version defined r l q h)

-- all lines, one after another
judged_suited : (version : ℕ) (defined : List ℕ → Bool) (n : ℕ) (o : Option Reading) (lines : List (List ℕ)) (r : Reading) → Each (Suited version) o → judged version defined n o lines ≡ Ok r → Suited version r
judged_suited version defined n None lines r h e = cc
judged_suited version defined n (Some s) [] r h e = let same_one : s ≡ r = cc in subst (Suited version) same_one h.holds
judged_suited version defined n (Some s) (l ∷ lines) r h e =
    judged_suited version defined (n + 1) _ lines r (more_suited version defined s (line_of version l) (by_fits version l (words_of l)) h.holds) e

-- ---- the program

-- a jump is no call
jump_called : (version place : ℕ) (jump : Jump) → is_called version (jump_to jump place) ≡ true
jump_called version place Always = refl
jump_called version place (Equal a b) = refl
jump_called version place (Different a b) = refl
jump_called version place (Less a b) = refl

-- the instruction of a step that suits
step_called : (version : ℕ) (labels : List (List ℕ × ℕ)) (step : Step) → Suits version step → is_called version (aimed labels step) ≡ true
step_called version labels (Plain instruction) h = h
step_called version labels (ToLabel jump label) h = jump_called version _ jump

-- an instruction that goes within the program, and whose call has a name, is a lawful one
instruction_is : (version count : ℕ) (i : Instruction) → GoesWithin count i → is_called version i ≡ true → is_instruction version count i ≡ true
instruction_is version count (Jmp place) h k = le-leb place count h
instruction_is version count (Jeq a b place) h k = le-leb place count h
instruction_is version count (Jne a b place) h k = le-leb place count h
instruction_is version count (Jlt a b place) h k = le-leb place count h
instruction_is version count (Sys called operands) h k = k
instruction_is version count other h k = refl

-- and all are
code_is : (version count : ℕ) (labels : List (List ℕ × ℕ)) (steps : List Step) → AllByRecursion (GoesWithin count) (map (aimed labels) steps) → AllByRecursion (Suits version) steps → list_all (is_instruction version count) (map (aimed labels) steps) ≡ true
code_is version count labels [] h k = refl
code_is version count labels (step ∷ steps) h k =
    and_from (is_instruction version count (aimed labels step)) (list_all (is_instruction version count) (map (aimed labels) steps))
    (instruction_is version count (aimed labels step) h.0 (step_called version labels step k.0)) (code_is version count labels steps h.1 k.1)

-- all texts end inside the pages
texts_inside : (size : ℕ) (texts : List Text) → AllByRecursion (EndsInside size) texts → list_all (ends_inside size) texts ≡ true
texts_inside size [] h = refl
texts_inside size (text ∷ texts) h =
    and_from (ends_inside size text) (list_all (ends_inside size) texts) (le-leb (text.address + length text.bytes) size h.0) (texts_inside size texts h.1)

-- the pages are 1 to 8, and one where no line gives their number
pages_within : (pages : Option ℕ) → HasFew pages → is_within 1 8 (unwrap_or pages 1) ≡ true
pages_within None h = refl
pages_within (Some n) h = h

-- the program of a reading is lawful
reading_is : (version : ℕ) (r : Reading) → IsWithinLimits (program_by r) → Suited version r → is_program version (program_by r) ≡ true
reading_is version r h k =
    let p : Program = program_by r in
    and_from (is_within 1 8 p.pages && nat_le (length p.code) 512 && nat_le (length p.texts) 64 && list_all (ends_inside (p.pages * 4096)) p.texts) (list_all (is_instruction version (length p.code)) p.code)
    (and_from (is_within 1 8 p.pages && nat_le (length p.code) 512 && nat_le (length p.texts) 64) (list_all (ends_inside (p.pages * 4096)) p.texts)
    (and_from (is_within 1 8 p.pages && nat_le (length p.code) 512) (nat_le (length p.texts) 64)
    (and_from (is_within 1 8 p.pages) (nat_le (length p.code) 512) (pages_within r.pages k.pages) (le-leb (length p.code) 512 h.steps))
    (le-leb (length p.texts) 64 h.texts))
    (texts_inside (p.pages * 4096) p.texts h.inside))
    (code_is version (length p.code) r.labels r.steps h.within k.steps)

-- the same of a verdict
finished_is : (version : ℕ) (text : List ℕ) (v : Result Reading ℕ) (p : Program) → verdict version text ≡ v → finished v ≡ Ok p → is_program version p ≡ true
finished_is version text (Err n) p is e = absurd (cc)
finished_is version text (Ok r) p is e =
    let same_one : program_by r ≡ p = cc in
    subst (λ (q : Program). is_program version q ≡ true) same_one
    (reading_is version r (reading_within version text r is) (judged_suited version (defines (lines_of text)) 0 (Some unread) (lines_of text) r (each_some (Suited version) unread (record { pages = tt; steps = tt })) is))

-- each program that a text writes is a program of that version
pub program_is : (version : ℕ) (text : List ℕ) (p : Program) → program_of version text ≡ Ok p → is_program version p ≡ true
program_is version text p e = finished_is version text (verdict version text) p refl e
