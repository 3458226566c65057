-- A process that moves lands as it was frozen.
use Rattle.std.specs.Prelude.{◌≡◌, ◌⊎◌, ◌≤◌, ℕ, true, List, [], ◌∷◌, length, Option, Some, None, map, IsTrue}
use Rattle.std.specs.List.{AllByRecursion, find}
use Rattle.sprite_ids.specs.declared.Grant.{Grant}
use Rattle.sprite_ids.specs.declared.StreamNo.{StreamNo}
use Rattle.process_machine.specs.Machine.{Machine}
use Rattle.stream_table.specs.declared.Carried.{Carried}
use Rattle.stream_table.specs.declared.Place.{Place}
use Rattle.stream_table.specs.declared.Stream.{Stream}
use Rattle.migrate_freeze.specs.declared.moves.MovedStream.{MovedStream}
use Rattle.migrate_freeze.specs.declared.process.Process.{Process}
use Rattle.migrate_freeze.specs.declared.freeze.Freeze.{Freeze}
use Rattle.migrate_freeze.specs.declared.arrival.Arrival.{Arrival}
use Rattle.migrate_freeze.specs.Moves.{frozen_for, moved_on, names, next_from}
use Rattle.migrate_freeze.specs.Packing.{body_of, can_move}
use Rattle.migrate_freeze.specs.Arriving.{arrived_of, grant_of, launched_of, process_with, thawed}

-- what a move of a stream took
pub record Took : Type 0 where
  pub place : Place
  pub grant : Option Grant
  pub grants : ℕ

-- the frozen process after the move of that descriptor's stream
abbrev pub moved_once : Took → Freeze → Option Carried → Freeze
moved_once took freeze (Some item) = moved_on (record { freeze = freeze; item = item }) took.place took.grant took.grants
moved_once took freeze None = freeze

-- the descriptor of the least stream that has not moved
abbrev pub next_of : Freeze → Option Carried
next_of freeze = next_from freeze.moved None freeze.process.streams

-- the frozen process after so many moves
abbrev pub moved_all : List Took → Freeze → Freeze
moved_all [] freeze = freeze
moved_all (took ∷ rest) freeze = moved_all rest (moved_once took freeze (next_of freeze))

-- the stream of a looked-up move, else that one
abbrev pub landed_stream : Stream → Option (Option MovedStream) → Stream
landed_stream stream (Some (Some moved)) = moved.stream
landed_stream stream (Some None) = stream
landed_stream stream None = stream

-- the descriptor with its stream as it is after its move
abbrev pub landed : List (Option MovedStream) → Carried → Carried
landed moved item = record item { stream = landed_stream item.stream (find (names item.number) moved) }

-- the process after the moves of its streams
abbrev pub landed_process : Freeze → Process
landed_process freeze = record freeze.process { streams = map (landed freeze.moved) freeze.process.streams }

-- the process with a fresh image, after its `rexec`
abbrev pub launched_process : Freeze → Machine → Process
launched_process freeze image = record (landed_process freeze) { image = image; moving = true }

-- the grant that a looked-up move took
abbrev pub taken_grant : Option (Option MovedStream) → Option Grant
taken_grant (Some (Some moved)) = moved.grant
taken_grant (Some None) = None
taken_grant None = None

-- the descriptor is one of these
abbrev pub IsOneOf : List Carried → Carried → Type 0
IsOneOf [] item = ⊥
IsOneOf (other ∷ rest) item = (item ≡ other) ⊎ IsOneOf rest item

-- a move is of a stream of the process, which is as it was but for where its offset is and how many grants of it there are
pub record IsMoveOf (streams : List Carried) (moved : MovedStream) : Type 0 where
  pub item : Carried
  pub one : IsOneOf streams item
  pub number : moved.number ≡ item.number
  pub stream : moved.stream ≡ record item.stream { place = moved.stream.place; grants = moved.stream.grants }

-- likewise of what stands at a place
abbrev pub MayBe : List Carried → Option MovedStream → Type 0
MayBe streams (Some moved) = IsMoveOf streams moved
MayBe streams None = Unit {0}

-- a frozen process all of whose streams have moved: each move was of one of them, and the request that tells of it brings it
-- as it was frozen, but for what the moves took, or ready for its next program, with the grants that they took
pub record Lands (freeze : Freeze) : Type 0 where
  pub moves : AllByRecursion (MayBe freeze.process.streams) freeze.moved
  pub arrival : Arrival
  pub brings : arrived_of (body_of freeze) ≡ Some arrival
  pub program : launched_of arrival.load ≡ freeze.program
  pub grants : (number : StreamNo) → grant_of arrival.streams number ≡ taken_grant (find (names number) freeze.moved)
  pub whole : freeze.program ≡ None → thawed arrival ≡ Some (landed_process freeze)
  pub fresh : (program : ℕ) (image : Machine) → freeze.program ≡ Some program → process_with arrival image ≡ launched_process freeze image

-- a process that was frozen lands so when all its streams have moved
abbrev pub EachLands : Type 0
EachLands = (process : Process) (to : ℕ) (program : Option ℕ) (moves : List Took) → IsTrue (can_move process.streams) → next_of (moved_all moves (frozen_for process to program)) ≡ None → Lands (moved_all moves (frozen_for process to program))

-- after as many moves as the process has descriptors all its streams have moved
abbrev pub MovesEnd : Type 0
MovesEnd = (process : Process) (to : ℕ) (program : Option ℕ) (moves : List Took) → IsTrue (can_move process.streams) → length process.streams ≤ length moves → next_of (moved_all moves (frozen_for process to program)) ≡ None
