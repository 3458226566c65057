-- What the number of a process tells.
use Rattle.std.specs.Prelude.{ℕ, ◌/◌, ◌%◌, ◌≤◌}

-- the number of the process's home kernel
abbrev pub home_of : ℕ → ℕ
home_of pid = pid / 1000

-- which birth of its home the process is
abbrev pub birth_of : ℕ → ℕ
birth_of pid = pid % 1000

-- a home of 1 to 16, and a birth of 1 to 200
pub record IsPid (pid : ℕ) : Type 0 where
  pub home_from : 1 ≤ home_of pid
  pub home_to : home_of pid ≤ 16
  pub birth_from : 1 ≤ birth_of pid
  pub birth_to : birth_of pid ≤ 200
