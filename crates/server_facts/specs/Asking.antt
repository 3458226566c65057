-- Which files are busy, and what waits for them.
use Rattle.std.specs.Prelude.{◌≡◌, ℕ, zero, suc, Bool, false, List, [], ◌∷◌, Option, Some, None}
use Rattle.std.specs.List.{list_any}
use Rattle.std.specs.Map.{lookup}
use Rattle.sprite_ids.specs.declared.FileId.{FileId}
use Rattle.sprite_ids.specs.Lists.{less}
use Rattle.kernel_steps.specs.Rows.{is_under}
use Rattle.version_table.specs.declared.Action.{Action}
use Rattle.version_table.specs.declared.Asking.{Asking}
use Rattle.version_table.specs.Versions.{Files, is_file}
use Rattle.server_kernel.specs.declared.Asked.{Asked}
use Rattle.server_kernel.specs.declared.Server.{Server}
use Rattle.server_kernel.specs.Facts.{BusyAreWaitedFor, BusyIsAsking}
use Rattle.server_kernel.specs.Files.{kept_of}
use Rattle.server_kernel.specs.Waits.{first_about, is_about}
use Rattle.server_walks.specs.Actions.{action_of}

-- at most that many items pass the test
abbrev pub AtMost : {X : Type 0} → ℕ → (X → Bool) → List X → Type 0
AtMost zero p xs = list_any p xs ≡ false
AtMost (suc n) p xs = AtMost n p (less p xs)

-- whether one of these requests is kept for the file
abbrev pub has_about : FileId → List (FileId × Asked) → Bool
has_about file rows = list_any (is_under is_about file) rows

-- each file stands in the table of opens once
abbrev pub AreFilesOnce : Files → Type 0
AreFilesOnce [] = Unit {0}
AreFilesOnce (entry ∷ rest) = (lookup (is_file entry.0) rest ≡ None) × AreFilesOnce rest

-- what waits for callbacks in the table of opens
abbrev pub action_in : Option Asking → Option Action
action_in (Some asking) = Some asking.action
action_in None = None

-- what waits in the table of opens is what the kept request asks
abbrev pub AskingIsAction : Server → Type 0
AskingIsAction s = (file : FileId) (asked : Asked) → first_about file s.asking ≡ Some asked → action_in (kept_of file s).asking ≡ action_of asked

-- a file is busy exactly where an open or a move of it is kept until callbacks are answered, one at most, which is the one that waits in the
-- table of opens; requests wait for busy files alone; and no file stands in the table of opens twice
pub record AskingStands (s : Server) : Type 0 where
  pub busy : BusyIsAsking s
  pub waited : BusyAreWaitedFor s
  pub action : AskingIsAction s
  pub once : (file : FileId) → AtMost 1 (is_under is_about file) s.asking
  pub files : AreFilesOnce s.versions.files
