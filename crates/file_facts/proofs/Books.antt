-- What the facts of remote calls see of the files' side: its operations, the calls that are kept for them, the write-backs that are out, who is
-- woken, and the number of the next call.
use Rattle.std.proofs.Common.{◌≡◌, ◌⊎◌, ℕ, Bool, true, List, Some}
use Rattle.std.specs.List.{AllByRecursion, list_any}
use Rattle.sprite_ids.specs.declared.TxNo.{TxNo}
use Rattle.sprite_ids.specs.Lists.{EachOnce}
use Rattle.kernel_steps.specs.Rows.{is_row, is_under}
use Rattle.client_file_tables.specs.declared.client_files.ClientFiles.{ClientFiles}
use Rattle.client_file_tables.specs.declared.pending.Pending.{Pending}
use Rattle.client_file_tables.specs.declared.works.WriteBackOut.{WriteBackOut}
use Rattle.client_file_tables.specs.Rows.{is_pid, same_call, same_pid}
use Rattle.client_facts.specs.FileFacts.{own_call, same_key, waited_write_back}
use Rattle.file_facts.specs.CallFacts.{AreBelow, IsNoWriteBack}

pub record Book : Type 0 where
  pub rows : List (ℕ × Pending)
  pub asked : List (TxNo × ℕ)
  pub backs : List (TxNo × WriteBackOut)
  pub ready : List ℕ
  pub next : TxNo

abbrev pub book_of : ClientFiles → Book
book_of s = record { rows = s.pending; asked = s.txs; backs = s.write_backs; ready = s.ready; next = s.out.next }

-- whether the call is kept for the process; whether it is a write-back that is out; and whether the process is woken
abbrev pub has_call : TxNo → ℕ → List (TxNo × ℕ) → Bool
has_call tx pid asked = list_any (is_row same_call same_pid tx pid) asked

abbrev pub is_back : TxNo → List (TxNo × WriteBackOut) → Bool
is_back tx backs = list_any (is_under same_call tx) backs

abbrev pub is_woken : ℕ → List ℕ → Bool
is_woken pid ready = list_any (is_pid pid) ready

-- an operation's call is kept, and is no write-back unless it is a sync's; and the write-back for which it waits is out, or it is woken
pub record Fine (b : Book) (row : ℕ × Pending) : Type 0 where
  pub kept : (tx : TxNo) → own_call row.1 ≡ Some tx → has_call tx row.0 b.asked ≡ true
  pub out : (tx : TxNo) → waited_write_back row.1 ≡ Some tx → (is_back tx b.backs ≡ true) ⊎ (is_woken row.0 b.ready ≡ true)
  pub apart : IsNoWriteBack b.backs row

-- so are all, and calls are kept once, with lower numbers than the next one's
pub record Sound (b : Book) : Type 0 where
  pub rows : AllByRecursion (Fine b) b.rows
  pub own_once : EachOnce same_key b.asked
  pub back_once : EachOnce same_key b.backs
  pub own_below : AreBelow b.next b.asked
  pub back_below : AreBelow b.next b.backs

abbrev pub Holds : ClientFiles → Type 0
Holds s = Sound (book_of s)
