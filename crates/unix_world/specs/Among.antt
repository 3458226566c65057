-- The processes by ascending number, where one of them stands, and the number of the next one.
use Rattle.std.specs.Prelude.{◌≡◌, ◌<◌, ℕ, true, false, List, [], ◌∷◌, nat_le, Option, Some, None, slice_get, slice_set}
use Rattle.std.specs.List.{AllByRecursion}
use Rattle.unix_calls.specs.declared.state.Process.{Process}
use Rattle.unix_calls.specs.State.{births, next_pid, process_at, put_process}

abbrev pub Behind : ℕ → Process → Type 0
Behind pid p = pid < p.pid

-- by ascending number
abbrev pub Ascending : List Process → Type 0
Ascending [] = Unit {0}
Ascending (p ∷ ps) = AllByRecursion (Behind p.pid) ps × Ascending ps

-- the process of that number stands there: it is the one found, and another of the number in its place is one put
pub record IsAt (ps : List Process) (pid at : ℕ) : Type 0 where
  pub process : Process
  pub there : slice_get ps at ≡ Some process
  pub found : process_at ps pid ≡ Some process
  pub puts : (r : Process) → r.pid ≡ pid → slice_set ps at r ≡ put_process r ps

-- where a process of that number stands, if there is one
abbrev pub StandsAt : List Process → ℕ → Option ℕ → Type 0
StandsAt ps pid None = process_at ps pid ≡ None
StandsAt ps pid (Some at) = IsAt ps pid at

-- the number of a home's next process; none where it made 200
abbrev pub IsNext : List Process → ℕ → Option ℕ → Type 0
IsNext ps home None = nat_le 200 (births ps home) ≡ true
IsNext ps home (Some pid) = (nat_le 200 (births ps home) ≡ false) × (pid ≡ next_pid ps home)
