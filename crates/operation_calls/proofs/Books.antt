-- What is seen of the files' side of a client by facts of its remote calls, and what such a fact must bear.
use Rattle.std.proofs.Common.{◌≡◌, ℕ, true, List, [], ◌∷◌, ◌++◌, Some, None}
use Rattle.sprite_ids.specs.declared.TxNo.{TxNo}
use Rattle.kernel_steps.specs.declared.Sending.{Sending}
use Rattle.kernel_steps.specs.Outs.{number_after}
use Rattle.client_file_tables.specs.declared.client_files.ClientFiles.{ClientFiles}
use Rattle.client_file_tables.specs.declared.pending.Pending.{Pending}
use Rattle.client_file_tables.specs.declared.works.WriteBackOut.{WriteBackOut}
use Rattle.client_file_tables.specs.Rows.{first_of, less_call, less_of}
use Rattle.client_facts.specs.FileFacts.{own_call}
use Rattle.operation_calls.specs.Requests.{GoesTo, wanted_of, write_back_wanted}

-- its operations, the remote calls that are kept for them, the write-backs that are out, the number of the next call, and what was sent
pub record Book : Type 0 where
  pub rows : List (ℕ × Pending)
  pub asked : List (TxNo × ℕ)
  pub backs : List (TxNo × WriteBackOut)
  pub next : TxNo
  pub sends : List Sending

abbrev pub book_of : ClientFiles → Book
book_of s = record { rows = s.pending; asked = s.txs; backs = s.write_backs; next = s.out.next; sends = s.out.sends }

-- with one remote call more, one that is kept for a process, an operation more, and a write-back more
abbrev pub said : Sending → Book → Book
said sending b = record b { next = number_after b.next; sends = b.sends ++ sending ∷ [] }

abbrev pub expected : TxNo → ℕ → Book → Book
expected tx pid b = record b { asked = b.asked ++ (tx, pid) ∷ [] }

abbrev pub kept : ℕ → Pending → Book → Book
kept pid operation b = record b { rows = b.rows ++ (pid, operation) ∷ [] }

abbrev pub put_out : TxNo → WriteBackOut → Book → Book
put_out tx back b = record b { backs = b.backs ++ (tx, back) ∷ [] }

-- what is so of a book bears that a call goes out, alone, for an operation, as a write-back, or as a sync's own; that an operation is kept
-- of which something is so, and is taken out; and that a call is heard
pub record Bears (P : Book → Type 0) (Row : List Sending → ℕ × Pending → Type 0) : Type 0 where
  pub says : (sending : Sending) (b : Book) → P b → P (said sending b)
  pub keeps : (pid : ℕ) (operation : Pending) (b : Book) → Row b.sends (pid, operation) → P b → P (kept pid operation b)
  pub free : (pid : ℕ) (operation : Pending) (sends : List Sending) → own_call operation ≡ None → Row sends (pid, operation)
  pub asks_for : (sending : Sending) (pid : ℕ) (operation : Pending) (b : Book) → own_call operation ≡ Some b.next → (wanted_of operation).such sending.body ≡ true → sending.tries ≡ (wanted_of operation).tries → GoesTo (wanted_of operation).to sending.to → P b → P (kept pid operation (expected b.next pid (said sending b)))
  pub goes_back : (sending : Sending) (back : WriteBackOut) (b : Book) → (write_back_wanted back).such sending.body ≡ true → sending.tries ≡ (write_back_wanted back).tries → GoesTo (write_back_wanted back).to sending.to → P b → P (put_out b.next back (said sending b))
  pub goes_own : (sending : Sending) (back : WriteBackOut) (pid : ℕ) (operation : Pending) (b : Book) → own_call operation ≡ Some b.next → (wanted_of operation).such sending.body ≡ true → sending.tries ≡ (wanted_of operation).tries → GoesTo (wanted_of operation).to sending.to
      → (write_back_wanted back).such sending.body ≡ true → sending.tries ≡ (write_back_wanted back).tries → GoesTo (write_back_wanted back).to sending.to → P b → P (kept pid operation (expected b.next pid (put_out b.next back (said sending b))))
  pub left : (pid : ℕ) (b : Book) → P b → P (record b { rows = less_of pid b.rows })
  pub found : (pid : ℕ) (operation : Pending) (b : Book) → first_of pid b.rows ≡ Some operation → P b → Row b.sends (pid, operation)
  pub hears : (tx : TxNo) (b : Book) → P b → P (record b { asked = less_call tx b.asked })
  pub back_in : (tx : TxNo) (b : Book) → P b → P (record b { backs = less_call tx b.backs })
