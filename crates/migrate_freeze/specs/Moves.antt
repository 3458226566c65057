-- The moves of a frozen process's streams, one after another.
use Rattle.std.specs.Prelude.{ℕ, ◌==◌, nat_lt, Bool, true, false, ◌&&◌, ◌||◌, if◌then◌else◌, List, [], ◌∷◌, Option, Some, None, replicate}
use Rattle.std.specs.List.{list_any}
use Rattle.sprite_ids.specs.Lists.{changed}
use Rattle.sprite_ids.specs.declared.StreamNo.{StreamNo}
use Rattle.sprite_ids.specs.declared.Grant.{Grant}
use Rattle.stream_table.specs.declared.Carried.{Carried}
use Rattle.stream_table.specs.declared.Place.{Place}
use Rattle.migrate_freeze.specs.declared.moves.MovedStream.{MovedStream}
use Rattle.migrate_freeze.specs.declared.process.Process.{Process}
use Rattle.migrate_freeze.specs.declared.freeze.Freeze.{Freeze}
use Rattle.migrate_freeze.specs.OneMove.{OneMove}
use Rattle.migrate_freeze.specs.declared.frozen.MoveStep.{MoveStep}
use Rattle.migrate_freeze.specs.declared.frozen.MoveStep.TheVariants as steps

-- whether the two numbers are of one stream
abbrev pub is_stream : StreamNo → StreamNo → Bool
is_stream number other = (other.kernel == number.kernel) && (other.number == number.number)

-- whether that stream's move stands at a place
abbrev pub names : StreamNo → Option MovedStream → Bool
names number (Some moved) = is_stream number moved.number
names number None = false

-- whether the stream has moved
abbrev pub is_moved : StreamNo → List (Option MovedStream) → Bool
is_moved number moved = list_any (names number) moved

-- whether the first number is the lower one: by the kernel, then by its count
abbrev pub is_before : StreamNo → StreamNo → Bool
is_before number other = nat_lt number.kernel other.kernel || ((number.kernel == other.kernel) && nat_lt number.number other.number)

-- the one of the lower number, where this one has not moved
abbrev pub lower : Bool → Option Carried → Carried → Option Carried
lower true least item = least
lower false (Some other) item = if is_before item.number other.number then Some item else Some other
lower false None item = Some item

-- the same of a descriptor that may have moved
abbrev pub better : List (Option MovedStream) → Option Carried → Carried → Option Carried
better moved least item = lower (is_moved item.number moved) least item

-- the first descriptor of the least stream that has not moved, by going over the descriptors
abbrev pub next_from : List (Option MovedStream) → Option Carried → List Carried → Option Carried
next_from moved least [] = least
next_from moved least (item ∷ rest) = next_from moved (better moved least item) rest

-- whether a place is free
abbrev pub is_free : Option MovedStream → Bool
is_free (Some moved) = false
is_free None = true

-- the places with one more move, at the first that is free
abbrev pub noted : MovedStream → List (Option MovedStream) → List (Option MovedStream)
noted moved places = changed is_free (λ _. Some moved) places

-- a process that was frozen just now
abbrev pub frozen_for : Process → ℕ → Option ℕ → Freeze
frozen_for process to program = record { process = process; to = to; program = program; moved = replicate 16 None }

-- what comes next, where that is the descriptor of the least stream that has not moved
abbrev pub step_by : Freeze → Option Carried → MoveStep
step_by freeze (Some item) = steps.Moving (record { freeze = freeze; item = item })
step_by freeze None = steps.Sent freeze

-- what comes next for a frozen process
abbrev pub step_of : Freeze → MoveStep
step_of freeze = step_by freeze (next_from freeze.moved None freeze.process.streams)

-- the stream as it is after its move
abbrev pub moved_stream : Carried → Place → Option Grant → ℕ → MovedStream
moved_stream item place grant grants = record { number = item.number; stream = record item.stream { place = place; grants = grants }; grant = grant }

-- the frozen process after that move
abbrev pub moved_on : OneMove → Place → Option Grant → ℕ → Freeze
moved_on move place grant grants = record move.freeze { moved = noted (moved_stream move.item place grant grants) move.freeze.moved }
