-- The table with which a kernel begins.
use Rattle.std.proofs.Common.{arith, ◌≡◌, refl, sym, ap, ◌∙◌, ℕ, zero, suc, ◌+◌, ◌-◌, ◌*◌, ◌<◌, ◌≤◌, ◌==◌, Bool, true, false, cond, not, List, [], ◌∷◌, length, Option, Some, None, option_map, slice_get, length-append}
use Rattle.std.proofs.lemmas.Bool.{eqb-true, lt-ltb}
use Rattle.process_machine.specs.declared.Program.{Program}
use Rattle.process_machine.specs.Fresh.{fresh_machine}
use Rattle.process_machine.specs.Machine.{Machine}
use Rattle.home_table.specs.declared.birth.Life.TheVariants.{Living}
use Rattle.home_table.specs.Home.{Table, born}
use Rattle.unix_calls.specs.declared.Description.{Description}
use Rattle.unix_calls.specs.declared.ProgramLine.{ProgramLine}
use Rattle.unix_calls.specs.declared.StartLine.{StartLine}
use Rattle.unix_calls.specs.Answers.{program_at}
use Rattle.home_laws.specs.Start.{first_table, with_line, with_lines, with_start}
use Rattle.client_homes.specs.Clusters.{program_line}
use Rattle.client_procs.specs.Boot.{bears_if, boots, nothing_begun, puts_first, starts_all, starts_line}
use Rattle.client_procs.specs.Launching.{fresh_with}

no_successor : (place : ℕ) (b : Bool) → (suc place == 0) ≡ b → b ≡ false
no_successor place true e = let none = eqb-true (suc place) 0 e in absurd (omega (arith, none))
no_successor place false e = refl

program_same : (programs : List ProgramLine) (number : ℕ) → program_at programs number ≡ option_map (λ (line : ProgramLine). line.program) (program_line programs number)
program_same programs zero = refl
program_same programs (suc place) =
    (let behind : place ≡ suc place - 1 = omega arith in ap (λ n. option_map (λ (line : ProgramLine). line.program) (slice_get programs n)) behind)
    ∙ ap (λ b. option_map (λ (line : ProgramLine). line.program) (cond b None (slice_get programs (suc place - 1)))) (sym (no_successor place (suc place == 0) refl))

-- a line starts a process in both; the kernel's value that has the table is any
started_by : {B : Type 0} (bears : Option Machine → B → B) (home : B → Table) (b : B) (arg : ℕ) (o : Option ProgramLine) (mine : Bool) → home (bears None b) ≡ home b → ((image : Machine) → home (bears (Some image) b) ≡ born (home b) None)
    → home (cond (not mine) b (bears (fresh_with arg o) b)) ≡ cond mine (with_start (home b) (option_map (λ (line : ProgramLine). line.program) o)) (home b)
started_by bears home b arg o false none some = refl
started_by bears home b arg None true none some = none
started_by bears home b arg (Some line) true none some = some (fresh_machine line.program arg)

few_more : (programs : List ProgramLine) (line : StartLine) (table : Table) → length (with_line programs line table).births ≤ 1 + length table.births
few_more programs line table = by (program_at programs line.program) (line.host == table.home)
  where
    by : (found : Option Program) (mine : Bool) → length (cond mine (with_start table found) table).births ≤ 1 + length table.births
    by None true = omega arith
    by None false = omega arith
    by (Some program) true = let more = length-append table.births (record { parent = None; place = table.home; life = Living false } ∷ []) in omega (arith, more)
    by (Some program) false = omega arith

started_all : {B : Type 0} (one : StartLine → B → B) (all : List StartLine → B → B) (home : B → Table) (programs : List ProgramLine)
    → ((b : B) → all [] b ≡ b) → ((line : StartLine) (lines : List StartLine) (b : B) → all (line ∷ lines) b ≡ all lines (one line b))
    → ((line : StartLine) (b : B) → length (home b).births < 200 → home (one line b) ≡ with_line programs line (home b))
    → (lines : List StartLine) (b : B) → length (home b).births + length lines ≤ 200 → home (all lines b) ≡ with_lines programs lines (home b)
started_all one all home programs none more starts [] b few = ap home (none b)
started_all one all home programs none more starts (line ∷ lines) b few =
    let begun : home (one line b) ≡ with_line programs line (home b) = starts line b (omega (arith, few)) in
    let born_few = few_more programs line (home b) in
    let same : length (home (one line b)).births ≡ length (with_line programs line (home b)).births = ap (λ (t : Table). length t.births) begun in
    ap home (more line lines b) ∙ started_all one all home programs none more starts lines (one line b) (omega (arith, few, born_few, same)) ∙ ap (with_lines programs lines) begun

pub boots_with_first : (c : Description) (kernel : ℕ) → length c.starts ≤ 200 → (boots c kernel).home ≡ first_table c kernel
boots_with_first c kernel few =
    started_all (starts_line c.programs) (starts_all c.programs) (λ b. b.home) c.programs (λ b. refl) (λ line lines b. refl)
    (λ line b under.
    started_by bears_if (λ d. d.home) b line.arg (program_line c.programs line.program) (line.host == b.home.home) refl
    (λ image. ap (λ (room : Bool). (cond room (puts_first (1000 * b.home.home + length b.home.births + 1) image (record b { home = born b.home None })) b).home) (lt-ltb (length b.home.births) 200 under))
    ∙ ap (λ (o : Option Program). cond (line.host == b.home.home) (with_start b.home o) b.home) (sym (program_same c.programs line.program)))
    c.starts (nothing_begun kernel) (omega (arith, few))
