-- A home's table against the processes of the one-kernel Unix.
use Rattle.std.specs.Prelude.{◌≡◌, ◌≤◌, ℕ, ◌+◌, ◌-◌, ◌==◌, Bool, true, false, List, [], ◌∷◌, length, filter, slice_get, Option, Some, None}
use Rattle.sprite_ids.specs.Pid.{home_of}
use Rattle.sprite_ids.specs.declared.Ending.{Ending}
use Rattle.unix_calls.specs.declared.state.Process.{Process}
use Rattle.unix_calls.specs.State.{Unix}
use Rattle.home_table.specs.declared.Birth.{Birth}
use Rattle.home_table.specs.declared.Life.{Life}
use Rattle.home_table.specs.declared.Life.TheVariants.{Living, Ended, Waited}
use Rattle.home_table.specs.Home.{Table, pid_at, is_living, is_pending}

-- the processes of one home, by ascending number
abbrev pub of_home : ℕ → List Process → List Process
of_home home ps = filter (λ (p : Process). home_of p.pid == home) ps

-- the ending that a life has
abbrev pub ending_in : Life → Option Ending
ending_in (Living pending) = None
ending_in (Ended how) = Some how
ending_in (Waited how) = Some how

abbrev pub was_waited : Life → Bool
was_waited (Waited how) = true
was_waited (Ended how) = false
was_waited (Living pending) = false

-- a process is the birth that stands at a place of its home: it has that parent, has ended and was waited for as the home knows it,
-- and while it lives a kill of it is pending where the home has one
pub record IsBorn (home at : ℕ) (b : Birth) (p : Process) : Type 0 where
  pub pid : p.pid ≡ pid_at home at
  pub parent : p.parent ≡ b.parent
  pub ending : p.ending ≡ ending_in b.life
  pub waited : p.waited ≡ was_waited b.life
  pub killed : is_living b.life ≡ true → p.killed ≡ is_pending b.life

-- some processes are the births of a home from a place on
abbrev pub AreBorn : ℕ → ℕ → List Birth → List Process → Type 0
AreBorn home at [] [] = Unit {0}
AreBorn home at (b ∷ bs) (p ∷ ps) = IsBorn home at b p × AreBorn home (at + 1) bs ps
AreBorn home at [] (p ∷ ps) = ⊥
AreBorn home at (b ∷ bs) [] = ⊥

-- the table tells the same as the one-kernel Unix: its births are the processes of its home, and its count of ticks is that home's
pub record TellsTheSame (table : Table) (u : Unix) : Type 0 where
  pub numbered : 1 ≤ table.home
  pub few : length table.births ≤ 200
  pub births : AreBorn table.home 0 table.births (of_home table.home u.processes)
  pub ticks : slice_get u.ticks (table.home - 1) ≡ Some table.ticks
