-- Facts of the remote calls of a client's files' side that every step keeps.
use Rattle.std.specs.Prelude.{◌≡◌, ℕ, ◌<◌, ◌≤◌, Bool, true, false, List, [], Some}
use Rattle.std.specs.List.{AllByRecursion, list_any}
use Rattle.sprite_ids.specs.declared.TxNo.{TxNo}
use Rattle.kernel_steps.specs.Rows.{is_under}
use Rattle.kernel_steps.specs.declared.Input.{Input}
use Rattle.process_machine.specs.Machine.{Machine}
use Rattle.unix_calls.specs.declared.Description.{Description}
use Rattle.client_file_tables.specs.declared.client_files.ClientFiles.{ClientFiles}
use Rattle.client_file_tables.specs.declared.pending.Pending.{Pending}
use Rattle.client_file_tables.specs.declared.pending.Pending.TheVariants as operations
use Rattle.client_file_tables.specs.declared.works.WriteBackOut.{WriteBackOut}
use Rattle.client_file_tables.specs.Rows.{same_call}
use Rattle.client_homes.specs.declared.client.ClientProcs.{ClientProcs}
use Rattle.client_procs.specs.Boot.{boots}
use Rattle.client_procs.specs.Readers.{with_image}
use Rattle.client_files.specs.FileSteps.{files_step}
use Rattle.client_facts.specs.GoingOn.{MayCome, Rests}
use Rattle.client_facts.specs.FileFacts.{CallsAreKept, CallsAreOnce, WaitedWriteBacksAreOut, own_call}
use Rattle.file_walks.specs.Fits.{FitsItsCall}

-- whether a call has a lower number
abbrev pub IsBelow : {V : Type 0} → TxNo → TxNo × V → Type 0
IsBelow next row = row.0.0 < next.0

-- so have all of these
abbrev pub AreBelow : {V : Type 0} → TxNo → List (TxNo × V) → Type 0
AreBelow {V} next rows = AllByRecursion (IsBelow {V = V} next) rows

-- whether an operation is a sync, whose own call is a write-back
abbrev pub is_sync : Pending → Bool
is_sync (operations.Sync call) = true
is_sync _ = false

-- a remote call of an operation that isn't a sync is no write-back
abbrev pub IsNoWriteBack : List (TxNo × WriteBackOut) → ℕ × Pending → Type 0
IsNoWriteBack rows row = (tx : TxNo) → own_call row.1 ≡ Some tx → is_sync row.1 ≡ false → list_any (is_under same_call tx) rows ≡ false

abbrev pub CallsAreApart : ClientFiles → Type 0
CallsAreApart s = AllByRecursion (IsNoWriteBack s.write_backs) s.pending

-- between two steps, where the next remote call has that number or a higher one: each remote call of an operation is kept until its answer,
-- and once; each write-back that an operation waits for has no answer yet; both have lower numbers; and nobody is to look at anything anew
pub record KeepsCallFacts (next : TxNo) (s : ClientFiles) : Type 0 where
  pub kept : CallsAreKept s
  pub out : WaitedWriteBacksAreOut s
  pub once : CallsAreOnce s
  pub own_below : AreBelow next s.txs
  pub back_below : AreBelow next s.write_backs
  pub apart : CallsAreApart s
  pub rests : s.ready ≡ []

-- so it is when the cluster begins
abbrev pub BeginsWithCallFacts : Type 0
BeginsWithCallFacts = (c : Description) (kernel : ℕ) (next : TxNo) → KeepsCallFacts next (boots c kernel).files

-- and where the numbers grow
abbrev pub GrowingKeepsCallFacts : Type 0
GrowingKeepsCallFacts = (s : ClientFiles) (next later : TxNo) → next.0 ≤ later.0 → KeepsCallFacts next s → KeepsCallFacts later s

-- each step of the files' side by itself keeps it, where what comes fits the operation for which it comes: then the next call has the number
-- that the step leaves
abbrev pub FileStepKeepsCallFacts : Type 0
FileStepKeepsCallFacts = (s : ClientFiles) (input : Input) (next : TxNo) (step : ℕ) → MayCome input s → Rests s → FitsItsCall input s → KeepsCallFacts next s → KeepsCallFacts (files_step s input next step).1.next (files_step s input next step).0

-- and what a process does between two calls
abbrev pub ImageKeepsCallFacts : Type 0
ImageKeepsCallFacts = (s : ClientProcs) (pid : ℕ) (image : Machine) (next : TxNo) → KeepsCallFacts next s.files → KeepsCallFacts next (with_image pid image s).files
