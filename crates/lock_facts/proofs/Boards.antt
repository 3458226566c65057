-- What the facts of locks and turns see of the files' side: its operations, the holders of locks, who waits for one, and the turns to fill blocks.
use Rattle.std.proofs.Common.{◌≡◌, ℕ, Bool, true, false, List, Some}
use Rattle.std.specs.List.{AllByRecursion, list_any}
use Rattle.sprite_ids.specs.declared.StreamNo.{StreamNo}
use Rattle.sprite_ids.specs.Lists.{EachOnce}
use Rattle.kernel_steps.specs.Rows.{is_under}
use Rattle.stream_table.specs.Entries.{Entry, has_lock, holder_of}
use Rattle.client_file_tables.specs.declared.client_files.ClientFiles.{ClientFiles}
use Rattle.client_file_tables.specs.declared.pending.Pending.{Pending}
use Rattle.client_file_tables.specs.Rows.{is_pid, same_pid}
use Rattle.client_facts.specs.FileFacts.{held_lock, is_filler, same_wait}

pub record Board : Type 0 where
  pub rows : List (ℕ × Pending)
  pub entries : List Entry
  pub waits : List (StreamNo × ℕ)
  pub fillers : List ℕ

abbrev pub board_of : ClientFiles → Board
board_of s = record { rows = s.pending; entries = s.streams.entries; waits = s.lock_waits; fillers = s.fillers }

-- whether the process stands among those that fill
abbrev pub has_turn : ℕ → List ℕ → Bool
has_turn pid fillers = list_any (is_pid pid) fillers

-- an operation has the lock that it needs, and a turn where it needs blocks
pub record Fine (entries : List Entry) (fillers : List ℕ) (row : ℕ × Pending) : Type 0 where
  pub lock : (stream : StreamNo) → held_lock row.1 ≡ Some stream → holder_of entries stream ≡ Some row.0
  pub turn : is_filler row.1 ≡ true → has_turn row.0 fillers ≡ true

-- who waits for a lock hasn't it, and another has
abbrev pub IsKeptOut : List Entry → StreamNo × ℕ → Type 0
IsKeptOut entries row = has_lock row.1 (holder_of entries row.0) ≡ false

pub record Sound (b : Board) : Type 0 where
  pub rows : AllByRecursion (Fine b.entries b.fillers) b.rows
  pub once : EachOnce same_wait b.waits
  pub out : AllByRecursion (IsKeptOut b.entries) b.waits

-- the process's operation was taken out
pub record Off (pid : ℕ) (b : Board) : Type 0 where
  pub sound : Sound b
  pub none : list_any (is_under same_pid pid) b.rows ≡ false

-- and it holds the stream's lock
pub record Locked (pid : ℕ) (stream : StreamNo) (b : Board) : Type 0 where
  pub off : Off pid b
  pub lock : holder_of b.entries stream ≡ Some pid

-- and stands among those that fill
pub record Turning (pid : ℕ) (stream : StreamNo) (b : Board) : Type 0 where
  pub locked : Locked pid stream b
  pub turn : has_turn pid b.fillers ≡ true

abbrev pub Holds : ClientFiles → Type 0
Holds s = Sound (board_of s)

abbrev pub HoldsOff : ℕ → ClientFiles → Type 0
HoldsOff pid s = Off pid (board_of s)

abbrev pub HoldsLocked : ℕ → StreamNo → ClientFiles → Type 0
HoldsLocked pid stream s = Locked pid stream (board_of s)

abbrev pub HoldsTurning : ℕ → StreamNo → ClientFiles → Type 0
HoldsTurning pid stream s = Turning pid stream (board_of s)
