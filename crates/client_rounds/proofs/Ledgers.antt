-- What the rounds' law sees of the files' side of a client's kernel: the operations that wait, the replies and the reports; and what
-- a run of one operation does to them.
use Rattle.std.proofs.Common.{◌≡◌, ℕ, true, List, [], ◌∷◌, ◌++◌, Option}
use Rattle.sprite_ids.specs.declared.DeviceId.{DeviceId}
use Rattle.sprite_ids.specs.declared.Grant.{Grant}
use Rattle.process_machine.specs.declared.Reply.{Reply}
use Rattle.stream_table.specs.declared.Place.{Place}
use Rattle.client_file_tables.specs.declared.client_files.ClientFiles.{ClientFiles}
use Rattle.client_file_tables.specs.declared.moves.CloseWork.{CloseWork}
use Rattle.client_file_tables.specs.declared.moves.ClosingOf.{ClosingOf}
use Rattle.client_file_tables.specs.declared.moves.ClosingOf.TheVariants as closings
use Rattle.client_file_tables.specs.declared.moves.MoveWork.{MoveWork}
use Rattle.client_file_tables.specs.declared.moves.Report.{Report}
use Rattle.client_file_tables.specs.declared.moves.Report.TheVariants as reports
use Rattle.client_file_tables.specs.declared.pending.Pending.{Pending}
use Rattle.client_file_tables.specs.declared.pending.Pending.TheVariants as operations
use Rattle.client_file_tables.specs.declared.works.DataCall.{DataCall}
use Rattle.client_file_tables.specs.declared.works.SyncCall.{SyncCall}
use Rattle.client_rounds.specs.Rounds.{is_work}

pub record Ledger : Type 0 where
  pub rows : List (ℕ × Pending)
  pub given : List (ℕ × Reply)
  pub told : List Report

abbrev pub ledger_of : ClientFiles → Ledger
ledger_of s = record { rows = s.pending; given = s.out.replies; told = s.results }

abbrev pub kept_more : Ledger → ℕ → Pending → Ledger
kept_more v pid operation = record v { rows = v.rows ++ (pid, operation) ∷ [] }

abbrev pub given_more : Ledger → ℕ → Reply → Ledger
given_more v pid reply = record v { given = v.given ++ (pid, reply) ∷ [] }

abbrev pub told_more : Ledger → Report → Ledger
told_more v report = record v { told = v.told ++ report ∷ [] }

-- an operation on a file's data, a sync, a close or a move was taken out: before and behind its run
pub record RunsData (pid : ℕ) (Q R : Ledger → Type 0) : Type 0 where
  pub waits : (v : Ledger) (call : DataCall) → Q v → R (kept_more v pid (operations.Data call))
  pub ends : (v : Ledger) (reply : Reply) → Q v → R (given_more v pid reply)

pub record RunsSync (pid : ℕ) (Q R : Ledger → Type 0) : Type 0 where
  pub waits : (v : Ledger) (call : SyncCall) → Q v → R (kept_more v pid (operations.Sync call))
  pub ends : (v : Ledger) (reply : Reply) → Q v → R (given_more v pid reply)

abbrev pub closed_more : Ledger → ℕ → ClosingOf → Reply → Ledger
closed_more v pid (closings.Call number fd) reply = given_more v pid reply
closed_more v pid (closings.End about) reply = told_more v (reports.AllClosed pid)

pub record RunsClose (pid : ℕ) (cause : ClosingOf) (Q R : Ledger → Type 0) : Type 0 where
  pub waits : (v : Ledger) (work : CloseWork) → work.of ≡ cause → Q v → R (kept_more v pid (operations.Close work))
  pub tells : (v : Ledger) (device : DeviceId) → Q v → Q (told_more v (reports.MasterClosed device))
  pub ends : (v : Ledger) (reply : Reply) → Q v → R (closed_more v pid cause reply)

pub record RunsMove (pid : ℕ) (Q R : Ledger → Type 0) : Type 0 where
  pub waits : (v : Ledger) (work : MoveWork) → Q v → R (kept_more v pid (operations.Move work))
  pub ends : (v : Ledger) (place : Place) (grant : Option Grant) (many : ℕ) → Q v → R (told_more v (reports.Moved pid place grant many))
  pub lost : (v : Ledger) → Q v → R v

-- a call begins, or an answer to a name call came
pub record RunsCall (pid : ℕ) (Q R : Ledger → Type 0) : Type 0 where
  pub waits : (v : Ledger) (operation : Pending) → is_work operation ≡ true → Q v → R (kept_more v pid operation)
  pub ends : (v : Ledger) (reply : Reply) → Q v → R (given_more v pid reply)
  pub lost : (v : Ledger) → Q v → R v
