-- Facts of the locks of a client's streams, and of its turns to fill blocks, that every step keeps.
use Rattle.std.specs.Prelude.{ℕ}
use Rattle.sprite_ids.specs.declared.TxNo.{TxNo}
use Rattle.kernel_steps.specs.declared.Input.{Input}
use Rattle.process_machine.specs.Machine.{Machine}
use Rattle.unix_calls.specs.declared.Description.{Description}
use Rattle.client_file_tables.specs.declared.client_files.ClientFiles.{ClientFiles}
use Rattle.client_homes.specs.declared.client.ClientProcs.{ClientProcs}
use Rattle.client_procs.specs.Boot.{boots}
use Rattle.client_procs.specs.Readers.{with_image}
use Rattle.client_files.specs.FileSteps.{files_step}
use Rattle.client_facts.specs.GoingOn.{MayCome, Rests}
use Rattle.client_facts.specs.FileFacts.{FillersHaveTurns, LocksAreHeld, QueuedLocksAreHeld}

-- what waits for anything but a lock has the lock of its stream; a lock with a queue is another's; and who needs blocks has a turn
pub record KeepsLockFacts (s : ClientFiles) : Type 0 where
  pub held : LocksAreHeld s
  pub kept_out : QueuedLocksAreHeld s
  pub turns : FillersHaveTurns s

-- so it is when the cluster begins
abbrev pub BeginsWithLockFacts : Type 0
BeginsWithLockFacts = (c : Description) (kernel : ℕ) → KeepsLockFacts (boots c kernel).files

-- each step of the files' side by itself keeps it
abbrev pub FileStepKeepsLockFacts : Type 0
FileStepKeepsLockFacts = (s : ClientFiles) (input : Input) (next : TxNo) (step : ℕ) → MayCome input s → Rests s → KeepsLockFacts s → KeepsLockFacts (files_step s input next step).0

-- and what a process does between two calls
abbrev pub ImageKeepsLockFacts : Type 0
ImageKeepsLockFacts = (s : ClientProcs) (pid : ℕ) (image : Machine) → KeepsLockFacts s.files → KeepsLockFacts (with_image pid image s).files
