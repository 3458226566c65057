-- That who stands in the queue of a lock waits for that lock, which every step of a client's kernel keeps.
use Rattle.std.specs.Prelude.{ℕ}
use Rattle.sprite_ids.specs.declared.TxNo.{TxNo}
use Rattle.kernel_steps.specs.declared.Input.{Input}
use Rattle.process_machine.specs.Machine.{Machine}
use Rattle.unix_calls.specs.declared.Description.{Description}
use Rattle.client_file_tables.specs.declared.client_files.ClientFiles.{ClientFiles}
use Rattle.client_homes.specs.declared.client.ClientProcs.{ClientProcs}
use Rattle.client_procs.specs.Boot.{boots}
use Rattle.client_procs.specs.Readers.{with_image}
use Rattle.client_procs.specs.Steps.{client_step}
use Rattle.client_facts.specs.FileFacts.{QueuedAreWaiting}
use Rattle.client_walks.specs.Hands.{brought}
use Rattle.client_walks.specs.PlacesOnce.{InHand, PlacesAreOnce}
use Rattle.client_rounds.specs.OneThing.{OneThingEach}
use Rattle.lock_facts.specs.TurnFacts.{KeepsTurnFacts}

-- between two steps, beside the facts of locks, queues and turns: who stands in a queue waits for that lock
pub record KeepsQueueFacts (s : ClientFiles) : Type 0 where
  pub turns : KeepsTurnFacts s
  pub waiting : QueuedAreWaiting s

-- so it is when the cluster begins
abbrev pub BeginsWithQueueFacts : Type 0
BeginsWithQueueFacts = (c : Description) (kernel : ℕ) → KeepsQueueFacts (boots c kernel).files

-- each step of the whole kernel keeps it, whatever comes
abbrev pub StepKeepsQueueFacts : Type 0
StepKeepsQueueFacts = (s : ClientProcs) (input : Input) (next : TxNo) (step : ℕ) → InHand (brought input s) s → PlacesAreOnce s → OneThingEach s → KeepsQueueFacts s.files → KeepsQueueFacts (client_step s input next step).0.files

-- and what a process does between two calls
abbrev pub ImageKeepsQueueFacts : Type 0
ImageKeepsQueueFacts = (s : ClientProcs) (pid : ℕ) (image : Machine) → KeepsQueueFacts s.files → KeepsQueueFacts (with_image pid image s).files
