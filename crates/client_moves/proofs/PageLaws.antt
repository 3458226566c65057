-- The page that a step wants.
use Rattle.std.proofs.Common.{◌≡◌, ℕ, zero, suc, ◌<◌, Some, None, sym, ap, arith}
use Rattle.process_machine.specs.declared.Program.{Program}
use Rattle.process_machine.specs.Machine.{Machine}
use Rattle.process_machine.specs.Runs.{ahead}
use Rattle.process_machine.specs.Steps.{Step, AtCall, AtPage, step_of}
use Rattle.client_moves.specs.Paging.{named_by, wanted}

step_at : (p : Program) (m n : Machine) (s : Step) → Some m ≡ Some n → step_of p n ≡ s → step_of p m ≡ s
step_at p m n s a e = cc

-- a burst of one step that ends for want of a page did none
pub wants_page : (p : Program) (m n : Machine) (count page : ℕ) → ahead p m count ≡ Some n → (step_of p n ≡ AtPage page) × (count < 1) → Some page ≡ named_by p m
wants_page p m n zero page a e = sym (ap wanted (step_at p m n (AtPage page) a e.0))
wants_page p m n (suc count) page a e = absurd (omega (arith, e.1))

-- and so did one that ends at a call
pub wants_none : (p : Program) (m n : Machine) (count : ℕ) → ahead p m count ≡ Some n → (step_of p n ≡ AtCall) × (count < 1) → None ≡ named_by p m
wants_none p m n zero a e = sym (ap wanted (step_at p m n AtCall a e.0))
wants_none p m n (suc count) a e = absurd (omega (arith, e.1))
