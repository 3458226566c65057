-- Calls of the files' side at their issue, and answers to name calls: what they say to the processes' side.
use Rattle.std.proofs.Common.{◌≡◌, ℕ, true, Option, refl}
use Rattle.sprite_ids.specs.declared.DeviceId.{DeviceId}
use Rattle.process_machine.specs.declared.Call.{Call}
use Rattle.packet_bodies.specs.declared.ReplyBody.{ReplyBody}
use Rattle.unix_calls.specs.declared.About.{About}
use Rattle.client_file_tables.specs.declared.client_files.ClientFiles.{ClientFiles}
use Rattle.client_file_tables.specs.declared.names.NameWork.{NameWork}
use Rattle.client_file_tables.specs.declared.pending.Pending.{Pending}
use Rattle.client_file_tables.specs.declared.pending.Pending.TheVariants as operations
use Rattle.client_file_tables.specs.declared.states.NameState.{NameState}
use Rattle.client_files.specs.Asked as asked
use Rattle.client_files.specs.CallIssues as issuing
use Rattle.file_walks.specs.Fits.{begins_so}
use Rattle.file_walks.proofs.CallWalks as call_walks
use Rattle.client_rounds.specs.Rounds.{is_work}
use Rattle.client_rounds.proofs.Ledgers.{Ledger, RunsCall, ledger_of}
use Rattle.client_rounds.proofs.OpLaws.{P, mute, on_if}

-- what a call begins is more than a move of a stream
work_begun : (operation : Pending) → begins_so operation ≡ true → is_work operation ≡ true
work_begun (operations.Name call) e = refl
work_begun (operations.Data call) e = refl
work_begun (operations.Sync call) e = refl
work_begun (operations.Close work) e = refl
work_begun (operations.Move work) e = absurd (cc)

-- A process in whose call nothing is on its way yet: it waits, has its reply, or is forgotten

module _ (Q : ℕ → Ledger → Type 0) (R : Ledger → Type 0) (runs : (pid : ℕ) → RunsCall pid (Q pid) R) where
  deeds : (pid : ℕ) → call_walks.RunsCall pid (P (Q pid)) (P R)
  deeds pid = record {
    quiet = mute (Q pid);
    adds = λ s number stream p. on_if (Q pid) _ _ s p p;
    dups = λ s fd p. p;
    begins = λ s operation begins leads p. (runs pid).waits (ledger_of s) operation (work_begun operation begins) p;
    echoes = λ s work server p. (runs pid).waits (ledger_of s) _ refl p;
    broadcasts = λ s work prefix p. (runs pid).waits (ledger_of s) _ refl p;
    asks = λ s work server p. (runs pid).waits (ledger_of s) _ refl p;
    ends = λ s reply p. (runs pid).ends (ledger_of s) reply p;
    lost = λ s p. (runs pid).lost (ledger_of s) p;
  }

  pub issues : (about : About) (call : Call) (device : Option DeviceId) (s : ClientFiles) → Q about.pid (ledger_of s) → R (ledger_of (issuing.issues about call device s))
  issues about call device s p = call_walks.issues (λ (pid : ℕ). P (Q pid)) (P R) deeds about call device s p

  pub answers_name : (state : NameState) (pid : ℕ) (work : NameWork) (source : ℕ) (body : ReplyBody) (s : ClientFiles) → Q pid (ledger_of s) → R (ledger_of (asked.answers_name_by state pid work source body s))
  answers_name state pid work source body s p = call_walks.answers_name (λ (other : ℕ). P (Q other)) (P R) deeds state pid work source body s p
