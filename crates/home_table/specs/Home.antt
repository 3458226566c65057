-- The processes of one home.
use Rattle.std.specs.Prelude.{ℕ, ◌+◌, ◌-◌, ◌*◌, ◌==◌, Bool, true, false, ◌&&◌, not, if◌then◌else◌, List, [], ◌∷◌, ◌++◌, Option, Some, None, is_some, option_map, slice_get, slice_set}
use Rattle.std.specs.List.{list_any, position}
use Rattle.sprite_ids.specs.Pid.{home_of, birth_of}
use Rattle.sprite_ids.specs.declared.Ending.{Ending}
use Rattle.sprite_ids.specs.declared.Ending.TheVariants.{Exit, Bad, Killed}
use Rattle.home_table.specs.declared.birth.Birth.{Birth}
use Rattle.home_table.specs.declared.birth.Life.{Life}
use Rattle.home_table.specs.declared.birth.Life.TheVariants.{Living, Ended, Waited}
use Rattle.home_table.specs.declared.end.WaitAnswer.{WaitAnswer}
use Rattle.home_table.specs.declared.end.WaitAnswer.TheVariants.{Child, NoChild, NotYet}

-- the home's kernel, its processes in the order of their births, and its count of ticks
pub record Table : Type 0 where
  pub home : ℕ
  pub births : List Birth
  pub ticks : ℕ

-- where the process stands among the births
abbrev pub index_of : ℕ → ℕ
index_of pid = birth_of pid - 1

-- the process of the birth that stands there
abbrev pub pid_at : ℕ → ℕ → ℕ
pid_at home at = 1000 * home + at + 1

-- whether a process that is named is of that home
abbrev pub is_of : ℕ → Option ℕ → Bool
is_of home (Some pid) = home_of pid == home
is_of home None = true

-- what is known of the process, where it was born
abbrev pub birth_at : List Birth → ℕ → Option Birth
birth_at births pid = slice_get births (index_of pid)

-- how far the process has come
abbrev pub life_at : List Birth → ℕ → Option Life
life_at births pid = option_map (λ birth. birth.life) (birth_at births pid)

-- the status that a `wait` is told
abbrev pub status_of : Ending → ℕ
status_of (Exit code) = code
status_of Bad = 256
status_of Killed = 257

-- whether the process lives
abbrev pub is_living : Life → Bool
is_living (Living pending) = true
is_living (Ended ending) = false
is_living (Waited ending) = false

-- whether it has ended, and no `wait` was told so
abbrev pub is_ended : Life → Bool
is_ended (Living pending) = false
is_ended (Ended ending) = true
is_ended (Waited ending) = false

-- whether no `wait` was told that it has ended
abbrev pub is_unwaited : Life → Bool
is_unwaited (Living pending) = true
is_unwaited (Ended ending) = true
is_unwaited (Waited ending) = false

-- whether it lives and a kill is pending
abbrev pub is_pending : Life → Bool
is_pending (Living pending) = pending
is_pending (Ended ending) = false
is_pending (Waited ending) = false

-- whether it is that process
abbrev pub is_parent : ℕ → Option ℕ → Bool
is_parent pid (Some known) = known == pid
is_parent pid None = false

-- whether it is a child of that process
abbrev pub is_child : ℕ → Birth → Bool
is_child parent birth = is_parent parent birth.parent

-- whether it is a child that has ended, and no `wait` was told so
abbrev pub is_ended_child : ℕ → Birth → Bool
is_ended_child parent birth = is_child parent birth && is_ended birth.life

-- whether it is a child of which no `wait` was told
abbrev pub is_unwaited_child : ℕ → Birth → Bool
is_unwaited_child parent birth = is_child parent birth && is_unwaited birth.life

-- whether the process was born
abbrev pub was_born : Table → ℕ → Bool
was_born table pid = is_some (birth_at table.births pid)

-- a looked-up answer, `no` where there is none
abbrev pub is_so : (Life → Bool) → Option Life → Bool
is_so test (Some life) = test life
is_so test None = false

-- whether the process lives
abbrev pub is_living_at : Table → ℕ → Bool
is_living_at table pid = is_so is_living (life_at table.births pid)

-- whether the process has ended
abbrev pub has_ended_at : Table → ℕ → Bool
has_ended_at table pid = is_so (λ life. not (is_living life)) (life_at table.births pid)

-- whether the process lives and a kill of it is pending
abbrev pub is_pending_at : Table → ℕ → Bool
is_pending_at table pid = is_so is_pending (life_at table.births pid)

-- whether any process of the home lives
abbrev pub is_any_living : Table → Bool
is_any_living table = list_any (λ birth. is_living birth.life) table.births

-- the place of a looked-up process, else the home
abbrev pub place_or : ℕ → Option Birth → ℕ
place_or home (Some birth) = birth.place
place_or home None = home

-- where the process is
abbrev pub place_at : Table → ℕ → ℕ
place_at table pid = place_or table.home (birth_at table.births pid)

-- where a child of that parent is born
abbrev pub place_for : Table → Option ℕ → ℕ
place_for table (Some parent) = place_at table parent
place_for table None = table.home

-- the parent, where it lives
abbrev pub living_parent : Table → Option ℕ → Option ℕ
living_parent table (Some parent) = if is_living_at table parent then Some parent else None
living_parent table None = None

-- the parent of a looked-up process, where it lives
abbrev pub parent_of : Table → Option Birth → Option ℕ
parent_of table (Some birth) = living_parent table birth.parent
parent_of table None = None

-- the parent of the process, where it lives
abbrev pub parent_at : Table → ℕ → Option ℕ
parent_at table pid = parent_of table (birth_at table.births pid)

-- the births with one of them changed, where there is one
abbrev pub put : List Birth → ℕ → Option Birth → List Birth
put births at (Some birth) = slice_set births at birth
put births at None = births

-- the births after the life of one changed
abbrev pub with_life : List Birth → ℕ → Life → List Birth
with_life births at life = put births at (option_map {T = Birth} (λ birth. record birth { life = life }) (slice_get births at))

-- the births after the place of one changed
abbrev pub with_place : List Birth → ℕ → ℕ → List Birth
with_place births at place = put births at (option_map {T = Birth} (λ birth. record birth { place = place }) (slice_get births at))

-- one more birth
abbrev pub born : Table → Option ℕ → Table
born table parent = record table { births = table.births ++ record { parent = parent; place = place_for table parent; life = Living false } ∷ [] }

-- the births after an ending of a looked-up process: only a living one ends
abbrev pub ending : List Birth → ℕ → Ending → Option Life → List Birth
ending births at how (Some (Living pending)) = with_life births at (Ended how)
ending births at how (Some (Ended before)) = births
ending births at how (Some (Waited before)) = births
ending births at how None = births

-- the table after an ending
abbrev pub ended : Table → ℕ → Ending → Table
ended table pid how = record table { births = ending table.births (index_of pid) how (life_at table.births pid) }

-- the births after a kill of a looked-up process: only a living one is killed
abbrev pub killing : List Birth → ℕ → Option Life → List Birth
killing births at (Some (Living pending)) = with_life births at (Living true)
killing births at (Some (Ended before)) = births
killing births at (Some (Waited before)) = births
killing births at None = births

-- the table after a kill
abbrev pub killed : Table → ℕ → Table
killed table pid = record table { births = killing table.births (index_of pid) (life_at table.births pid) }

-- the table after a move
abbrev pub moved : Table → ℕ → ℕ → Table
moved table pid place = record table { births = with_place table.births (index_of pid) place }

-- what a `wait` is told of a child that has ended
abbrev pub told : ℕ → Option Life → WaitAnswer
told pid (Some (Ended how)) = Child pid (status_of how)
told pid (Some (Living pending)) = NotYet
told pid (Some (Waited how)) = NotYet
told pid None = NotYet

-- a child of which a `wait` was told
abbrev pub telling : List Birth → ℕ → Option Life → List Birth
telling births at (Some (Ended how)) = with_life births at (Waited how)
telling births at (Some (Living pending)) = births
telling births at (Some (Waited how)) = births
telling births at None = births

-- what a `wait` of the process is told, by the place of the first child that has ended and the children left
abbrev pub answer : Table → Option ℕ → Bool → WaitAnswer
answer table (Some at) left = told (pid_at table.home at) (option_map (λ birth. birth.life) (slice_get table.births at))
answer table None true = NotYet
answer table None false = NoChild

-- what a `wait` of the process is told
abbrev pub wait_answer : Table → ℕ → WaitAnswer
wait_answer table pid = answer table (position (is_ended_child pid) table.births) (list_any (is_unwaited_child pid) table.births)

-- the births after a `wait`, by the place of the first child that has ended
abbrev pub waiting : List Birth → Option ℕ → List Birth
waiting births (Some at) = telling births at (option_map (λ birth. birth.life) (slice_get births at))
waiting births None = births

-- the table after a `wait` of the process
abbrev pub waited : Table → ℕ → Table
waited table pid = record table { births = waiting table.births (position (is_ended_child pid) table.births) }
