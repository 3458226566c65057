-- Facts of the order in which operations of a client's files' side fill blocks, which every step keeps.
use Rattle.std.specs.Prelude.{◌≡◌, ℕ, Bool, true, List, [], ◌∷◌}
use Rattle.std.specs.List.{list_all}
use Rattle.sprite_ids.specs.declared.TxNo.{TxNo}
use Rattle.kernel_steps.specs.declared.Input.{Input}
use Rattle.client_file_tables.specs.declared.client_files.ClientFiles.{ClientFiles}
use Rattle.client_file_tables.specs.Rows.{first_of}
use Rattle.client_homes.specs.declared.client.ClientProcs.{ClientProcs}
use Rattle.client_procs.specs.Boot.{boots}
use Rattle.client_procs.specs.Readers.{with_image}
use Rattle.client_procs.specs.Steps.{client_step}
use Rattle.process_machine.specs.Machine.{Machine}
use Rattle.unix_calls.specs.declared.Description.{Description}
use Rattle.client_walks.specs.Hands.{brought}
use Rattle.client_walks.specs.PlacesOnce.{InHand, PlacesAreOnce}
use Rattle.client_rounds.specs.OneThing.{OneThingEach}
use Rattle.client_facts.specs.FileFacts.{does, is_filler, is_waiting_for_turn}
use Rattle.lock_facts.specs.LockFacts.{KeepsLockFacts}
use Rattle.lock_facts.specs.WaitFacts.{KeepsWaitFacts}

-- whether the process's operation needs blocks
abbrev pub needs_some : ClientFiles → ℕ → Bool
needs_some s pid = does is_filler (first_of pid s.pending)

-- who stands among those that fill needs blocks
abbrev pub FillersNeedBlocks : ClientFiles → Type 0
FillersNeedBlocks s = list_all (needs_some s) s.fillers ≡ true

-- all but the first wait for their turn
abbrev pub others_wait : List ℕ → ClientFiles → Bool
others_wait [] s = true
others_wait (first ∷ rest) s = list_all (is_waiting_for_turn s) rest

abbrev pub OthersWaitForTurns : ClientFiles → Type 0
OthersWaitForTurns s = others_wait s.fillers s ≡ true

-- between two steps, beside the facts of locks and queues
pub record KeepsTurnFacts (s : ClientFiles) : Type 0 where
  pub locks : KeepsLockFacts s
  pub waits : KeepsWaitFacts s
  pub needs : FillersNeedBlocks s
  pub others : OthersWaitForTurns s

-- each step of the whole kernel keeps them
abbrev pub StepKeepsTurnFacts : Type 0
StepKeepsTurnFacts = (s : ClientProcs) (input : Input) (next : TxNo) (step : ℕ) → InHand (brought input s) s → PlacesAreOnce s → OneThingEach s → KeepsTurnFacts s.files → KeepsTurnFacts (client_step s input next step).0.files

-- so it is when the cluster begins
abbrev pub BeginsWithTurnFacts : Type 0
BeginsWithTurnFacts = (c : Description) (kernel : ℕ) → KeepsTurnFacts (boots c kernel).files

-- and what a process does between two calls keeps it
abbrev pub ImageKeepsTurnFacts : Type 0
ImageKeepsTurnFacts = (s : ClientProcs) (pid : ℕ) (image : Machine) → KeepsTurnFacts s.files → KeepsTurnFacts (with_image pid image s).files
