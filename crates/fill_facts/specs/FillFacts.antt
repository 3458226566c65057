-- The first of those that fill blocks does so, at every step of a client's kernel whose cache has room for eight blocks or more.
use Rattle.std.specs.Prelude.{◌≡◌, ℕ, ◌≤◌, nat_lt, Bool, true, ◌||◌, not, List, [], ◌∷◌, length}
use Rattle.std.specs.List.{list_all}
use Rattle.sprite_ids.specs.declared.TxNo.{TxNo}
use Rattle.kernel_steps.specs.declared.Input.{Input}
use Rattle.process_machine.specs.Machine.{Machine}
use Rattle.unix_calls.specs.declared.Description.{Description}
use Rattle.block_cache.specs.Blocks.{AreOnce}
use Rattle.block_cache.specs.Held.{Held}
use Rattle.client_file_tables.specs.declared.client_files.ClientFiles.{ClientFiles}
use Rattle.client_file_tables.specs.declared.pending.Pending.{Pending}
use Rattle.client_file_tables.specs.Rows.{first_of}
use Rattle.client_homes.specs.declared.client.ClientProcs.{ClientProcs}
use Rattle.client_procs.specs.Boot.{boots}
use Rattle.client_procs.specs.Readers.{with_image}
use Rattle.client_procs.specs.Steps.{client_step}
use Rattle.client_facts.specs.FileFacts.{TurnsAreInOrder, does, is_filling_now}
use Rattle.client_walks.specs.Hands.{brought}
use Rattle.client_walks.specs.PlacesOnce.{InHand, PlacesAreOnce}
use Rattle.client_rounds.specs.OneThing.{OneThingEach}
use Rattle.file_walks.specs.Fits.{moved_of}
use Rattle.lock_facts.specs.TurnFacts.{KeepsTurnFacts}

-- a cache has room for eight blocks or more, holds none twice, and no more than it has room for
pub record HasEight (cache : Held) : Type 0 where
  pub size : 8 ≤ cache.size
  pub fits : length cache.blocks ≤ cache.size
  pub once : AreOnce cache.blocks

-- whether an operation moves more bytes than a call of a program may
abbrev pub is_long : Pending → Bool
is_long operation = nat_lt 16384 (moved_of operation)

-- no operation does
abbrev pub AreShort : ClientFiles → Type 0
AreShort s = list_all (λ (row : ℕ × Pending). not (is_long row.1)) s.pending ≡ true

-- whether an operation fills, where it isn't longer than it may be
abbrev pub fills_if_short : Pending → Bool
fills_if_short operation = is_filling_now operation || is_long operation

-- the first of those that fill does so, where it isn't longer than it may be
abbrev pub first_fills : List ℕ → ClientFiles → Bool
first_fills [] s = true
first_fills (first ∷ rest) s = does fills_if_short (first_of first s.pending)

abbrev pub FirstFills : ClientFiles → Type 0
FirstFills s = first_fills s.fillers s ≡ true

-- between two steps, beside the facts of locks, queues and turns
pub record KeepsFillFacts (s : ClientFiles) : Type 0 where
  pub turns : KeepsTurnFacts s
  pub cache : HasEight s.cache
  pub first : FirstFills s

-- then the first fills and all others wait for their turn, where no operation is longer than a program's call may be
abbrev pub FillsAreInOrder : Type 0
FillsAreInOrder = (s : ClientFiles) → KeepsFillFacts s → AreShort s → TurnsAreInOrder s

-- each step of the whole kernel keeps these facts, whatever comes
abbrev pub StepKeepsFillFacts : Type 0
StepKeepsFillFacts = (s : ClientProcs) (input : Input) (next : TxNo) (step : ℕ) → InHand (brought input s) s → PlacesAreOnce s → OneThingEach s → KeepsFillFacts s.files → KeepsFillFacts (client_step s input next step).0.files

-- so it is when a cluster begins whose clients have caches of eight blocks or more
abbrev pub BeginsWithFillFacts : Type 0
BeginsWithFillFacts = (c : Description) (kernel : ℕ) → 8 ≤ c.cache → KeepsFillFacts (boots c kernel).files

-- and what a process does between two calls keeps it
abbrev pub ImageKeepsFillFacts : Type 0
ImageKeepsFillFacts = (s : ClientProcs) (pid : ℕ) (image : Machine) → KeepsFillFacts s.files → KeepsFillFacts (with_image pid image s).files
