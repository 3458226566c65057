-- The image at a process's next call: it stands there, and is of the same program.
use Rattle.std.proofs.Common.{◌≡◌, ◌==◌, ℕ, zero, suc, Bool, true, false, cond, List, Option, Some, None, refl, sym, ap, subst, ◌∙◌, arith}
use Rattle.std.specs.Prelude.{slice_get}
use Rattle.sprite_ids.proofs.ListLaws.{some_is}
use Rattle.sprite_ids.specs.declared.Errno.{Errno}
use Rattle.process_machine.specs.declared.instruction.Instruction.{Instruction}
use Rattle.process_machine.specs.declared.instruction.Instruction.TheVariants.{Set, Mov, Add, Sub, Mul, Addi, Div, Mod, Ldb, Stb, Ldw, Stw, Jmp, Jeq, Jne, Jlt, Sys}
use Rattle.process_machine.specs.declared.memory.Access.{Access}
use Rattle.process_machine.specs.declared.memory.Access.TheVariants.{Present, Outside, Away}
use Rattle.process_machine.specs.declared.parts.Parts.{Parts}
use Rattle.process_machine.specs.declared.program.Program.{Program}
use Rattle.process_machine.specs.Arguments.{arguments}
use Rattle.process_machine.specs.Machine.{Machine, register}
use Rattle.process_machine.specs.Memory.{byte_access, word_access}
use Rattle.process_machine.specs.Parts.{first_away, parts_of, refusal}
use Rattle.process_machine.specs.Runs.{at_next_call, call_bound, call_within, go_on}
use Rattle.process_machine.specs.Steps.{AtBadStep, AtCall, AtPage, Moved, Step, calling, divided, done, done_if, jumped, step_of, touching, wanting}
use Rattle.process_machine.proofs.MachineLaws.{Stands, at_bad_step, at_call, next_found}

-- a step that moves keeps the number of the program
abbrev NumberIn : ℕ → Step → Type 0
NumberIn n (Moved m) = m.number ≡ n
NumberIn n AtCall = Unit {0}
NumberIn n AtBadStep = Unit {0}
NumberIn n (AtPage k) = Unit {0}

record OfNumber (n : ℕ) (s : Step) : Type 0 where
  is : NumberIn n s

of_divided : (divisor : ℕ) (m : Machine) → OfNumber m.number (divided divisor m)
of_divided divisor m = by (divisor == 0)
  where
    by : (b : Bool) → OfNumber m.number (cond b AtBadStep (Moved m))
    by true = record { is = tt }
    by false = record { is = refl }

of_touching : (a : Access) (m : Machine) → OfNumber m.number (touching a m)
of_touching Present m = record { is = refl }
of_touching Outside m = record { is = tt }
of_touching (Away k) m = record { is = tt }

of_jumped : (b : Bool) (m : Machine) (place : ℕ) → OfNumber m.number (jumped b m place)
of_jumped true m place = record { is = refl }
of_jumped false m place = record { is = refl }

of_calling : (n : ℕ) (e : Option Errno) (pages : List (Option (List ℕ))) (parts : Parts) → OfNumber n (calling e pages parts)
of_calling n (Some e) pages parts = record { is = tt }
of_calling n None pages parts = by (first_away 0 pages parts)
  where
    by : (o : Option ℕ) → OfNumber n (wanting o)
    by None = record { is = tt }
    by (Some k) = record { is = tt }

of_done : (i : Instruction) (m : Machine) → OfNumber m.number (done i m)
of_done (Set d n) m = record { is = refl }
of_done (Mov d s) m = record { is = refl }
of_done (Add d s) m = record { is = refl }
of_done (Sub d s) m = record { is = refl }
of_done (Mul d s) m = record { is = refl }
of_done (Addi d n) m = record { is = refl }
of_done (Div d s) m = of_divided (register m s) _
of_done (Mod d s) m = of_divided (register m s) _
of_done (Ldb d a) m = of_touching (byte_access m.pages (register m a)) _
of_done (Stb a s) m = of_touching (byte_access m.pages (register m a)) _
of_done (Ldw d a) m = of_touching (word_access m.pages (register m a)) _
of_done (Stw a s) m = of_touching (word_access m.pages (register m a)) _
of_done (Jmp place) m = record { is = refl }
of_done (Jeq a b place) m = of_jumped _ m place
of_done (Jne a b place) m = of_jumped _ m place
of_done (Jlt a b place) m = of_jumped _ m place
of_done (Sys n operands) m = of_calling m.number (refusal m.pages (parts_of n (arguments m operands))) m.pages (parts_of n (arguments m operands))

of_step : (p : Program) (m : Machine) → OfNumber m.number (step_of p m)
of_step p m = by (slice_get p.code m.counter)
  where
    by : (o : Option Instruction) → OfNumber m.number (done_if o m)
    by None = record { is = tt }
    by (Some i) = of_done i m

-- what a search finds
pub record Found (p : Program) (m last : Machine) : Type 0 where
  pub stands : Stands p last
  pub number : last.number ≡ m.number

found_by : (p : Program) (next : Machine → Option Machine) (m last : Machine) (s : Step) → step_of p m ≡ s → OfNumber m.number s → ((later : Machine) → next later ≡ Some last → Found p later last) → go_on next m s ≡ Some last → Found p m last
found_by p next m last (Moved later) e n on h = let f = on later h in record { stands = f.stands; number = f.number ∙ n.is }
found_by p next m last AtCall e n on h = let same : m ≡ last = some_is m last h in record { stands = subst (Stands p) same (at_call p m e); number = sym (ap (λ (k : Machine). k.number) same) }
found_by p next m last AtBadStep e n on h = let same : m ≡ last = some_is m last h in record { stands = subst (Stands p) same (at_bad_step p m e); number = sym (ap (λ (k : Machine). k.number) same) }
found_by p next m last (AtPage k) e n on h = absurd (cc)

found_within : (p : Program) (fuel : ℕ) (m last : Machine) → call_within p fuel m ≡ Some last → Found p m last
found_within p zero m last h = found_by p (λ later. None) m last (step_of p m) refl (of_step p m) (λ later none. absurd (cc)) h
found_within p (suc fuel) m last h = found_by p (call_within p fuel) m last (step_of p m) refl (of_step p m) (λ later rest. found_within p fuel later last rest) h

pub found_next : (p : Program) (m last : Machine) → at_next_call p m ≡ Some last → Found p m last
found_next p m last h = found_within p call_bound m last h

-- an image that stands at its next call is at it
pub found_again : (p : Program) (m last : Machine) → at_next_call p m ≡ Some last → at_next_call p last ≡ Some last
found_again p m last h = next_found p last last 0 (omega arith) refl (found_next p m last h).stands
