-- The processes that were born here, each call with the test that it needs: of others nothing is known.
use Rattle.std.specs.Prelude.{ℕ, ◌+◌, ◌*◌, ◌==◌, nat_lt, Bool, false, ◌&&◌, if◌then◌else◌, Option, Some, None, length}
use Rattle.sprite_ids.specs.Pid.{home_of}
use Rattle.sprite_ids.specs.declared.Ending.{Ending}
use Rattle.home_table.specs.declared.WaitAnswer.{WaitAnswer}
use Rattle.home_table.specs.declared.WaitAnswer.TheVariants.{NoChild}
use Rattle.home_table.specs.Home as homes
use Rattle.client_homes.specs.declared.client.ClientProcs.{ClientProcs}

-- whether this kernel is the process's home
abbrev pub is_native : ℕ → ClientProcs → Bool
is_native pid s = home_of pid == s.home.home

-- where it is
abbrev pub place_in : ℕ → ClientProcs → ℕ
place_in pid s = if is_native pid s then homes.place_at s.home pid else s.home.home

-- it has come to that kernel
abbrev pub moves_to : ℕ → ℕ → ClientProcs → ClientProcs
moves_to pid kernel s = if is_native pid s then record s { home = homes.moved s.home pid kernel } else s

-- whether it lives and a kill of it is pending
abbrev pub is_killed : ℕ → ClientProcs → Bool
is_killed pid s = is_native pid s && homes.is_pending_at s.home pid

-- whether it has ended
abbrev pub has_ended : ℕ → ClientProcs → Bool
has_ended pid s = is_native pid s && homes.has_ended_at s.home pid

-- its parent, where it lives
abbrev pub parent_in : ℕ → ClientProcs → Option ℕ
parent_in pid s = if is_native pid s then homes.parent_at s.home pid else None

-- the next child, unless 200 were made
abbrev pub next_born : homes.Table → Option ℕ
next_born table = if nat_lt (length table.births) 200 then Some (1000 * table.home + length table.births + 1) else None

abbrev pub with_born : ℕ → homes.Table → homes.Table
with_born parent table = if nat_lt (length table.births) 200 then homes.born table (Some parent) else table

abbrev pub born_pid : ℕ → ClientProcs → Option ℕ
born_pid parent s = if is_native parent s then next_born s.home else None

abbrev pub bears : ℕ → ClientProcs → ClientProcs
bears parent s = if is_native parent s then record s { home = with_born parent s.home } else s

-- it has ended so
abbrev pub ends_at : ℕ → Ending → ClientProcs → ClientProcs
ends_at pid ending s = if is_native pid s then record s { home = homes.ended s.home pid ending } else s

-- what its `wait` is told
abbrev pub told_to_wait : ℕ → ClientProcs → WaitAnswer
told_to_wait pid s = if is_native pid s then homes.wait_answer s.home pid else NoChild

abbrev pub waited_at : ℕ → ClientProcs → ClientProcs
waited_at pid s = if is_native pid s then record s { home = homes.waited s.home pid } else s

-- whether it lives
abbrev pub lives_at : ℕ → ClientProcs → Bool
lives_at pid s = if is_native pid s then homes.is_living_at s.home pid else false

-- a kill of it is pending
abbrev pub kills_at : ℕ → ClientProcs → ClientProcs
kills_at pid s = if is_native pid s then record s { home = homes.killed s.home pid } else s

-- the count of ticks is raised
abbrev pub ticks : ClientProcs → ClientProcs
ticks s = record s { home = record s.home { ticks = s.home.ticks + 1 } }
