-- What a home's table tells of each process.
use Rattle.std.specs.Prelude.{◌≡◌, ◌≤◌, ◌&&◌, ℕ, Bool, false, length, Option, Some, None}
use Rattle.std.specs.Option.{option_map}
use Rattle.sprite_ids.specs.Pid.{birth_of, home_of}
use Rattle.home_table.specs.declared.Birth.{Birth}
use Rattle.home_table.specs.Home.{Table, birth_at, is_pending_at, pid_at}
use Rattle.unix_calls.specs.declared.state.Process.{Process}
use Rattle.unix_calls.specs.State.{Unix, births, lives, next_pid, process_at}
use Rattle.home_laws.specs.Homes.{TellsTheSame, ending_in, was_waited}

-- whether a looked-up process lives and a kill of it is pending
abbrev pub is_dying : Option Process → Bool
is_dying None = false
is_dying (Some p) = lives p && p.killed

-- the births are the processes, with their parents; they have ended alike; they were waited for alike; and the same kills are pending
pub record TellsOf (table : Table) (u : Unix) (pid : ℕ) : Type 0 where
  pub parent : option_map (λ (b : Birth). b.parent) (birth_at table.births pid) ≡ option_map (λ (p : Process). p.parent) (process_at u.processes pid)
  pub ending : option_map (λ (b : Birth). ending_in b.life) (birth_at table.births pid) ≡ option_map (λ (p : Process). p.ending) (process_at u.processes pid)
  pub waited : option_map (λ (b : Birth). was_waited b.life) (birth_at table.births pid) ≡ option_map (λ (p : Process). p.waited) (process_at u.processes pid)
  pub pending : is_pending_at table pid ≡ is_dying (process_at u.processes pid)

-- and there are as many, so the next number is the same
pub record Tells (table : Table) (u : Unix) : Type 0 where
  pub each : (pid : ℕ) → home_of pid ≡ table.home → 1 ≤ birth_of pid → TellsOf table u pid
  pub many : births u.processes table.home ≡ length table.births
  pub next : next_pid u.processes table.home ≡ pid_at table.home (length table.births)

abbrev pub TablesTell : Type 0
TablesTell = (table : Table) (u : Unix) → TellsTheSame table u → Tells table u
