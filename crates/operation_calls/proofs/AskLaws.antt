-- What the remote calls of operations on files ask behind a step, in the words of the laws.
use Rattle.std.proofs.Common.{◌≡◌, ◌⊎◌, inl, inr, ℕ, suc, List, [], ◌∷◌, Some, slice_get, refl}
use Rattle.std.specs.List.{AllByRecursion}
use Rattle.sprite_ids.specs.declared.TxNo.{TxNo}
use Rattle.sprite_ids.proofs.ListLaws.{each_get}
use Rattle.kernel_steps.specs.declared.Sending.{Sending}
use Rattle.client_file_tables.specs.declared.client_files.ClientFiles.{ClientFiles}
use Rattle.client_file_tables.specs.declared.pending.Pending.{Pending}
use Rattle.client_file_tables.specs.declared.works.WriteBackOut.{WriteBackOut}
use Rattle.client_procs.specs.Steps.{client_step}
use Rattle.client_facts.specs.FileFacts.{own_call}
use Rattle.operation_calls.specs.Requests.{IsSent, wanted_of, write_back_wanted}
use Rattle.operation_calls.specs.Asking.{AsksSo, BeginsNow, CallsAreNumbered, GoesNow, GoesSo, IsOut, OperationsAskSo, WaitedSo, WaitsFor, WasOut, WriteBacksGoSo}
use Rattle.operation_calls.proofs.Asked as asked
use Rattle.operation_calls.proofs.StepLaws.{Behind, step_asks}

-- what is so at each place is so of each
pub each_there : {X : Type 0} (F : X → Type 0) (xs : List X) → ((at : ℕ) (x : X) → slice_get xs at ≡ Some x → F x) → AllByRecursion F xs
each_there F [] there = tt
each_there F (x ∷ xs) there = (there 0 x refl, each_there F xs (λ at y e. there (suc at) y e))

rows_own : (s : ClientFiles) → AllByRecursion (λ (row : ℕ × Pending). (tx : TxNo) → own_call row.1 ≡ Some tx → WaitsFor s.pending tx row) s.pending
rows_own s = each_there (λ (row : ℕ × Pending). (tx : TxNo) → own_call row.1 ≡ Some tx → WaitsFor s.pending tx row) s.pending (λ at row e tx own. record { at = at; there = e; own = own })

backs_own : (s : ClientFiles) → AllByRecursion (IsOut s.write_backs) s.write_backs
backs_own s = each_there (IsOut s.write_backs) s.write_backs (λ at row e. record { at = at; there = e })

asks_so : (s : ClientFiles) (first : ℕ) (sends : List Sending) (tx : TxNo) (row : ℕ × Pending) → WaitsFor s.pending tx row ⊎ IsSent first sends tx (wanted_of row.1) → AsksSo s first sends tx row
asks_so s first sends tx row (inl before) = WaitedSo before
asks_so s first sends tx row (inr now) = BeginsNow now

goes_so : (s : ClientFiles) (first : ℕ) (sends : List Sending) (row : TxNo × WriteBackOut) → IsOut s.write_backs row ⊎ IsSent first sends row.0 (write_back_wanted row.1) → GoesSo s first sends row
goes_so s first sends row (inl before) = WasOut before
goes_so s first sends row (inr now) = GoesNow now

pub operations_ask_so : OperationsAskSo
operations_ask_so s input next step tx row w =
    let so : Behind (WaitsFor s.files.pending) (IsOut s.files.write_backs) s input next step = step_asks (WaitsFor s.files.pending) (IsOut s.files.write_backs) s input next step (rows_own s.files) (backs_own s.files) in
    let sends : List Sending = (client_step s input next step).1.sends in
    asks_so s.files next.0 sends tx row (each_get (asked.RowSo (WaitsFor s.files.pending) (IsOut s.files.write_backs) next.0 sends) (client_step s input next step).0.files.pending w.at row so.asks.rows w.there tx w.own)

pub write_backs_go_so : WriteBacksGoSo
write_backs_go_so s input next step row w =
    let so : Behind (WaitsFor s.files.pending) (IsOut s.files.write_backs) s input next step = step_asks (WaitsFor s.files.pending) (IsOut s.files.write_backs) s input next step (rows_own s.files) (backs_own s.files) in
    let sends : List Sending = (client_step s input next step).1.sends in
    goes_so s.files next.0 sends row (each_get (asked.BackSo (WaitsFor s.files.pending) (IsOut s.files.write_backs) next.0 sends) (client_step s input next step).0.files.write_backs w.at row so.asks.backs w.there)

pub calls_are_numbered : CallsAreNumbered
calls_are_numbered s input next step = (step_asks (WaitsFor s.files.pending) (IsOut s.files.write_backs) s input next step (rows_own s.files) (backs_own s.files)).asks.numbered
