-- How the processes of the one-kernel Unix stand.
use Rattle.std.specs.Prelude.{◌≡◌, ◌≤◌, ◌<◌, ℕ, List, [], ◌∷◌, length, Option, Some, None}
use Rattle.std.specs.List.{AllByRecursion}
use Rattle.sprite_ids.specs.Pid.{home_of, birth_of}
use Rattle.unix_calls.specs.declared.Description.{Description}
use Rattle.unix_calls.specs.declared.Entry.{Entry}
use Rattle.unix_calls.specs.declared.state.Process.{Process}
use Rattle.unix_calls.specs.State.{Unix}
use Rattle.unix_calls.specs.After.{state_of}

-- a process's parent is of the same home, and is one of its births
abbrev pub IsOfHome : ℕ → Option ℕ → Type 0
IsOfHome pid None = Unit {0}
IsOfHome pid (Some parent) = (home_of parent ≡ home_of pid) × (1 ≤ birth_of parent)

abbrev pub IsKin : Process → Type 0
IsKin p = IsOfHome p.pid p.parent

-- the numbers behind one
abbrev pub Behind : ℕ → Process → Type 0
Behind pid p = pid < p.pid

abbrev pub Ascending : List Process → Type 0
Ascending [] = Unit {0}
Ascending (p ∷ ps) = AllByRecursion (Behind p.pid) ps × Ascending ps

-- a process has the number of one of its home's births
abbrev pub IsNumbered : Process → Type 0
IsNumbered p = 1 ≤ birth_of p.pid

-- the processes stand by ascending number, and each with its parent's home
pub record AreInOrder (ps : List Process) : Type 0 where
  pub ascending : Ascending ps
  pub kin : AllByRecursion IsKin ps

-- so they stand in each state of a history, where at most 200 processes start
abbrev pub StatesAreInOrder : Type 0
StatesAreInOrder = (c : Description) (journal : List Entry) (u : Unix) → length c.starts ≤ 200 → state_of c journal ≡ Some u → AreInOrder u.processes
