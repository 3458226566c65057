-- What the remote calls of a client's operations on files and its write-backs ask, behind each step.
use Rattle.std.specs.Prelude.{◌≡◌, ℕ, ◌+◌, List, Some, length, slice_get}
use Rattle.sprite_ids.specs.declared.TxNo.{TxNo}
use Rattle.kernel_steps.specs.declared.Input.{Input}
use Rattle.kernel_steps.specs.declared.Sending.{Sending}
use Rattle.client_file_tables.specs.declared.client_files.ClientFiles.{ClientFiles}
use Rattle.client_file_tables.specs.declared.pending.Pending.{Pending}
use Rattle.client_file_tables.specs.declared.works.WriteBackOut.{WriteBackOut}
use Rattle.client_homes.specs.declared.client.ClientProcs.{ClientProcs}
use Rattle.client_procs.specs.Steps.{client_step}
use Rattle.client_facts.specs.FileFacts.{own_call}
use Rattle.operation_calls.specs.Requests.{IsSent, wanted_of, write_back_wanted}

-- an operation of these waits for its own remote call of that number; and a write-back of these is out under that number
pub record WaitsFor (rows : List (ℕ × Pending)) (tx : TxNo) (row : ℕ × Pending) : Type 0 where
  pub at : ℕ
  pub there : slice_get rows at ≡ Some row
  pub own : own_call row.1 ≡ Some tx

pub record IsOut (rows : List (TxNo × WriteBackOut)) (row : TxNo × WriteBackOut) : Type 0 where
  pub at : ℕ
  pub there : slice_get rows at ≡ Some row

-- it waited so before, or the step begins that remote call, with that number, and sends what an operation sends that waits so
pub data AsksSo (before : ClientFiles) (first : ℕ) (sends : List Sending) (tx : TxNo) (row : ℕ × Pending) : Type 0 where
  WaitedSo : WaitsFor before.pending tx row → AsksSo before first sends tx row
  BeginsNow : IsSent first sends tx (wanted_of row.1) → AsksSo before first sends tx row

-- it was out before, or goes in the step
pub data GoesSo (before : ClientFiles) (first : ℕ) (sends : List Sending) (row : TxNo × WriteBackOut) : Type 0 where
  WasOut : IsOut before.write_backs row → GoesSo before first sends row
  GoesNow : IsSent first sends row.0 (write_back_wanted row.1) → GoesSo before first sends row

-- behind each step of a client, whatever comes: where an operation waits for its own remote call, it waited so before, the same way, or the
-- step begins that call for it
abbrev pub OperationsAskSo : Type 0
OperationsAskSo =
    (s : ClientProcs) (input : Input) (next : TxNo) (step : ℕ) (tx : TxNo) (row : ℕ × Pending) → WaitsFor (client_step s input next step).0.files.pending tx row
    → AsksSo s.files next.0 (client_step s input next step).1.sends tx row

-- and each write-back that is out was out before, or goes in the step
abbrev pub WriteBacksGoSo : Type 0
WriteBacksGoSo =
    (s : ClientProcs) (input : Input) (next : TxNo) (step : ℕ) (row : TxNo × WriteBackOut) → IsOut (client_step s input next step).0.files.write_backs row
    → GoesSo s.files next.0 (client_step s input next step).1.sends row

-- the number behind a step is that of its first remote call and as many as it begins
abbrev pub CallsAreNumbered : Type 0
CallsAreNumbered = (s : ClientProcs) (input : Input) (next : TxNo) (step : ℕ) → (client_step s input next step).1.next.0 ≡ next.0 + length (client_step s input next step).1.sends
