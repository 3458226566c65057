-- A client's kernel without a cache caches no file, whatever it is granted, and none of its operations fills blocks: so at each of its steps.
use Rattle.std.specs.Prelude.{◌≡◌, ℕ, false, []}
use Rattle.sprite_ids.specs.declared.FileId.{FileId}
use Rattle.sprite_ids.specs.declared.TxNo.{TxNo}
use Rattle.kernel_steps.specs.declared.Input.{Input}
use Rattle.process_machine.specs.Machine.{Machine}
use Rattle.unix_calls.specs.declared.Description.{Description}
use Rattle.block_cache.specs.Files.{known}
use Rattle.block_cache.specs.Held.{Held}
use Rattle.client_file_tables.specs.declared.client_files.ClientFiles.{ClientFiles}
use Rattle.client_homes.specs.declared.client.ClientProcs.{ClientProcs}
use Rattle.client_procs.specs.Boot.{boots}
use Rattle.client_procs.specs.Readers.{with_image}
use Rattle.client_procs.specs.Steps.{client_step}
use Rattle.client_facts.specs.FileFacts.{TurnsAreInOrder}

-- there is room for no block, and no file is cached
pub record IsUnused (cache : Held) : Type 0 where
  pub size : cache.size ≡ 0
  pub off : (file : FileId) → (known cache.files file).on ≡ false

-- and nobody fills blocks or waits for a turn to do so
pub record HasNoCache (s : ClientFiles) : Type 0 where
  pub cache : IsUnused s.cache
  pub none : s.fillers ≡ []

-- then the order of turns is kept
abbrev pub NoTurnsAreInOrder : Type 0
NoTurnsAreInOrder = (s : ClientFiles) → HasNoCache s → TurnsAreInOrder s

-- each step of the whole kernel keeps it, whatever comes: a grant too that lets it cache
abbrev pub StepKeepsNoCache : Type 0
StepKeepsNoCache = (s : ClientProcs) (input : Input) (next : TxNo) (step : ℕ) → HasNoCache s.files → HasNoCache (client_step s input next step).0.files

-- so it is when a cluster begins whose clients have no cache
abbrev pub BeginsWithNoCache : Type 0
BeginsWithNoCache = (c : Description) (kernel : ℕ) → c.cache ≡ 0 → HasNoCache (boots c kernel).files

-- and what a process does between two calls keeps it
abbrev pub ImageKeepsNoCache : Type 0
ImageKeepsNoCache = (s : ClientProcs) (pid : ℕ) (image : Machine) → HasNoCache s.files → HasNoCache (with_image pid image s).files
