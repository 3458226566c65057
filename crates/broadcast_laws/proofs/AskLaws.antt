-- Behind each step of a client: which broadcasts its operations wait in.
use Rattle.std.proofs.Common.{◌≡◌, ℕ, suc, List, [], ◌∷◌, slice_get, Some, inl, inr, refl, subst, arith}
use Rattle.std.specs.List.{AllByRecursion}
use Rattle.sprite_ids.specs.declared.TxNo.{TxNo}
use Rattle.sprite_ids.proofs.ListLaws.{each_get}
use Rattle.kernel_steps.specs.declared.Input.{Input}
use Rattle.kernel_steps.specs.declared.Sending.{Sending}
use Rattle.client_file_tables.specs.declared.names.NameCall.{NameCall}
use Rattle.client_file_tables.specs.declared.pending.Pending.{Pending}
use Rattle.client_file_tables.specs.declared.pending.Pending.TheVariants as operations
use Rattle.client_file_tables.specs.declared.states.NameState.{NameState}
use Rattle.client_file_tables.specs.declared.states.NameState.TheVariants as states
use Rattle.client_homes.specs.declared.client.ClientProcs.{ClientProcs}
use Rattle.client_procs.specs.Steps.{begins_step, client_step}
use Rattle.client_walks.proofs.StepBearing.{whole_step}
use Rattle.broadcast_laws.specs.Broadcasts.{Before, ClientsAskSo, IsAsked, Now, Parts, WaitsFor}
use Rattle.broadcast_laws.proofs.Asking.{AskSo, Asked, Known, OperationAsks, RowsAsk, StateAsks, asking, rows_weaken}

-- what is so at each place is so of each
pub each_there : {X : Type 0} (F : X → Type 0) (xs : List X) → ((at : ℕ) (x : X) → slice_get xs at ≡ Some x → F x) → AllByRecursion F xs
each_there F [] there = tt
each_there F (x ∷ xs) there = (there 0 x refl, each_there F xs (λ at y e. there (suc at) y e))

-- behind a step that begins with the operations that asked so, each of them asked so, or is one of those that the step begins
pub step_asks : (Old : TxNo → Parts → Type 0) (s : ClientProcs) (input : Input) (next : TxNo) (step : ℕ) → RowsAsk Old s.files.pending
    → AskSo Old next.0 (client_step s input next step).0.files.pending (client_step s input next step).1.next (client_step s input next step).1.sends
step_asks Old s input next step h =
    whole_step input (Asked Old next.0) (asking Old next.0 input) (begins_step next step s) (record { numbered = omega arith; asks = rows_weaken Old (Known Old next.0 []) (λ tx prefix k. inl k) s.files.pending h })

-- ---- in the words of the law

own_state : (rows : List (ℕ × Pending)) (at pid : ℕ) (call : NameCall) (state : NameState) → slice_get rows at ≡ Some (pid, operations.Name call) → call.state ≡ state → StateAsks (WaitsFor rows) state
own_state rows at pid call (states.Broadcasting tx prefix) e is = record { at = at; pid = pid; call = call; there = e; waits = is }
own_state rows at pid call (states.Echoing tx server) e is = tt
own_state rows at pid call (states.Asking tx) e is = tt

own_asks : (rows : List (ℕ × Pending)) (at pid : ℕ) (operation : Pending) → slice_get rows at ≡ Some (pid, operation) → OperationAsks (WaitsFor rows) operation
own_asks rows at pid (operations.Name call) e = own_state rows at pid call call.state e refl
own_asks rows at pid (operations.Data call) e = tt
own_asks rows at pid (operations.Sync call) e = tt
own_asks rows at pid (operations.Close work) e = tt
own_asks rows at pid (operations.Move work) e = tt

rows_own : (rows : List (ℕ × Pending)) → RowsAsk (WaitsFor rows) rows
rows_own rows = each_there (λ (row : ℕ × Pending). OperationAsks (WaitsFor rows) row.1) rows (λ at row e. own_asks rows at row.0 row.1 e)

state_known : (Asks : TxNo → Parts → Type 0) (state : NameState) (tx : TxNo) (prefix : Parts) → state ≡ states.Broadcasting tx prefix → StateAsks Asks state → Asks tx prefix
state_known Asks state tx prefix e h = subst (StateAsks Asks) e h

is_asked : (rows : List (ℕ × Pending)) (first : ℕ) (sends : List Sending) (tx : TxNo) (prefix : Parts) → Known (WaitsFor rows) first sends tx prefix → IsAsked rows first sends tx prefix
is_asked rows first sends tx prefix (inl before) = Before before
is_asked rows first sends tx prefix (inr now) = Now now

pub clients_ask : ClientsAskSo
clients_ask s input next step tx prefix w =
    let so = step_asks (WaitsFor s.files.pending) s input next step (rows_own s.files.pending) in
    let asks = each_get (λ (row : ℕ × Pending). OperationAsks (Known (WaitsFor s.files.pending) next.0 (client_step s input next step).1.sends) row.1) (client_step s input next step).0.files.pending w.at (w.pid, operations.Name w.call) so.asks w.there in
    is_asked s.files.pending next.0 (client_step s input next step).1.sends tx prefix (state_known (Known (WaitsFor s.files.pending) next.0 (client_step s input next step).1.sends) w.call.state tx prefix w.waits asks)
