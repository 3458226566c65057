-- The turns in which the files' side of a client's kernel works off what a step woke.
use Rattle.std.specs.Prelude.{◌≡◌, ℕ, nat_le, Bool, true, false, [], length}
use Rattle.std.specs.List.{list_all, list_any}
use Rattle.sprite_ids.specs.declared.TxNo.{TxNo}
use Rattle.kernel_steps.specs.declared.Input.{Input}
use Rattle.kernel_steps.specs.declared.Input.TheVariants as inputs
use Rattle.kernel_steps.specs.Rows.{is_under}
use Rattle.client_file_tables.specs.declared.client_files.ClientFiles.{ClientFiles}
use Rattle.client_file_tables.specs.declared.pending.Pending.{Pending}
use Rattle.client_file_tables.specs.declared.pending.Pending.TheVariants as operations
use Rattle.client_file_tables.specs.Rows.{same_pid}
use Rattle.client_files.specs.Turns.{goes_on}
use Rattle.client_files.specs.FileSteps.{files_step}
use Rattle.client_facts.specs.FileFacts.{OneOperationEach, QueuesAreOnce, TurnsAreOnce}

-- whether a close is of at most as many descriptors as a process has
abbrev pub few_fds : Pending → Bool
few_fds (operations.Close work) = nat_le (length work.fds) 16
few_fds _ = true

abbrev pub has_few_fds : ℕ × Pending → Bool
has_few_fds row = few_fds row.1

abbrev pub ClosesAreShort : ClientFiles → Type 0
ClosesAreShort s = list_all has_few_fds s.pending ≡ true

-- what must be so, that the turns are enough
pub record MayGoOn (s : ClientFiles) : Type 0 where
  pub one_each : OneOperationEach s
  pub turns : TurnsAreOnce s
  pub short : ClosesAreShort s

-- nobody is left who was woken
abbrev pub TurnsAreEnough : Type 0
TurnsAreEnough = (s : ClientFiles) → MayGoOn s → (goes_on s).ready ≡ []

-- this, and that nobody stands in a lock's queue twice
pub record GoesOn (s : ClientFiles) : Type 0 where
  pub may : MayGoOn s
  pub queues : QueuesAreOnce s

-- the turns keep it
abbrev pub GoingOnKeeps : Type 0
GoingOnKeeps = (s : ClientFiles) → GoesOn s → GoesOn (goes_on s)

-- whether the process that comes to a call has no operation
abbrev pub MayCome : Input → ClientFiles → Type 0
MayCome (inputs.Issued pid number call) s = list_any (is_under same_pid pid) s.pending ≡ false
MayCome (inputs.Request tx source body) s = Unit {0}
MayCome (inputs.Replied tx source body) s = Unit {0}
MayCome (inputs.GaveUp tx) s = Unit {0}
MayCome (inputs.Due file block) s = Unit {0}
MayCome (inputs.PageNeeded pid page) s = Unit {0}

-- what is so between two steps: this, and that nobody is woken
pub record Rests (s : ClientFiles) : Type 0 where
  pub goes : GoesOn s
  pub ready : s.ready ≡ []

-- whatever comes, a step of the files' side keeps it
abbrev pub StepKeepsRest : Type 0
StepKeepsRest = (s : ClientFiles) (input : Input) (next : TxNo) (step : ℕ) → MayCome input s → Rests s → Rests (files_step s input next step).0
