-- That syncs of a client's files' side wait for answers between two steps, which every step keeps.
use Rattle.std.specs.Prelude.{◌≡◌, ℕ, []}
use Rattle.sprite_ids.specs.declared.TxNo.{TxNo}
use Rattle.kernel_steps.specs.declared.Input.{Input}
use Rattle.process_machine.specs.Machine.{Machine}
use Rattle.unix_calls.specs.declared.Description.{Description}
use Rattle.client_file_tables.specs.declared.client_files.ClientFiles.{ClientFiles}
use Rattle.client_homes.specs.declared.client.ClientProcs.{ClientProcs}
use Rattle.client_procs.specs.Boot.{boots}
use Rattle.client_procs.specs.Readers.{with_image}
use Rattle.client_procs.specs.Steps.{client_step}
use Rattle.client_files.specs.FileSteps.{files_step}
use Rattle.client_facts.specs.GoingOn.{MayCome, Rests}
use Rattle.client_walks.specs.Hands.{brought}
use Rattle.client_walks.specs.PlacesOnce.{InHand, PlacesAreOnce}
use Rattle.client_rounds.specs.OneThing.{OneThingEach}
use Rattle.pending_laws.specs.Waits.{SyncsWait}

-- between two steps: no sync looks, and nobody is to look at anything anew
pub record KeepsSyncFacts (s : ClientFiles) : Type 0 where
  pub wait : SyncsWait s
  pub rests : s.ready ≡ []

-- so it is when the cluster begins
abbrev pub BeginsWithSyncFacts : Type 0
BeginsWithSyncFacts = (c : Description) (kernel : ℕ) → KeepsSyncFacts (boots c kernel).files

-- each step of the files' side by itself keeps it
abbrev pub FileStepKeepsSyncFacts : Type 0
FileStepKeepsSyncFacts = (s : ClientFiles) (input : Input) (next : TxNo) (step : ℕ) → MayCome input s → Rests s → KeepsSyncFacts s → KeepsSyncFacts (files_step s input next step).0

-- each step of the whole kernel does, whatever comes
abbrev pub StepKeepsSyncFacts : Type 0
StepKeepsSyncFacts = (s : ClientProcs) (input : Input) (next : TxNo) (step : ℕ) → InHand (brought input s) s → PlacesAreOnce s → OneThingEach s → KeepsSyncFacts s.files → KeepsSyncFacts (client_step s input next step).0.files

-- and what a process does between two calls
abbrev pub ImageKeepsSyncFacts : Type 0
ImageKeepsSyncFacts = (s : ClientProcs) (pid : ℕ) (image : Machine) → KeepsSyncFacts s.files → KeepsSyncFacts (with_image pid image s).files
