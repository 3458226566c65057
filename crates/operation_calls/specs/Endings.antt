-- What is left of a remote call of a client's operations on files once it has ended.
use Rattle.std.specs.Prelude.{◌≡◌, ℕ, ◌<◌, false}
use Rattle.std.specs.List.{list_any}
use Rattle.sprite_ids.specs.declared.TxNo.{TxNo}
use Rattle.kernel_steps.specs.declared.Input.{Input}
use Rattle.kernel_steps.specs.declared.Input.TheVariants as inputs
use Rattle.kernel_steps.specs.Rows.{is_under}
use Rattle.client_file_tables.specs.declared.client_files.ClientFiles.{ClientFiles}
use Rattle.client_file_tables.specs.Rows.{same_call}
use Rattle.client_homes.specs.declared.client.ClientProcs.{ClientProcs}
use Rattle.client_procs.specs.Steps.{client_step}
use Rattle.client_facts.specs.FileFacts.{CallsAreOnce}

-- no call of an operation is kept under that number, and no write-back is out under it
pub record IsGone (tx : TxNo) (s : ClientFiles) : Type 0 where
  pub kept : list_any (is_under same_call tx) s.txs ≡ false
  pub out : list_any (is_under same_call tx) s.write_backs ≡ false

-- the remote call of that number ends: it is answered, or it is given up, which no write-back is
abbrev pub Ends : TxNo → Input → ClientFiles → Type 0
Ends tx (inputs.Replied other source body) s = tx ≡ other
Ends tx (inputs.GaveUp other) s = (tx ≡ other) × (list_any (is_under same_call tx) s.write_backs ≡ false)
Ends tx input s = ⊥

-- behind the step in which a call ends that was begun before it, nothing is left of it, where each call was kept once
abbrev pub EndedAreGone : Type 0
EndedAreGone = (s : ClientProcs) (input : Input) (next : TxNo) (step : ℕ) (tx : TxNo) → CallsAreOnce s.files → tx.0 < next.0 → Ends tx input s.files → IsGone tx (client_step s input next step).0.files
