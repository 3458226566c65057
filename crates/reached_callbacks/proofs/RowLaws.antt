-- The callbacks of a kernel among remote calls, as calls begin, go on and are finished.
use Rattle.std.proofs.Common.{◌≡◌, ℕ, ◌==◌, Bool, true, false, cond, List, [], ◌∷◌, ◌++◌, Option, Some, None, refl, sym, ap, ◌∙◌, append-nil, append_assoc}
use Rattle.std.specs.List.{find}
use Rattle.sprite_ids.specs.declared.TxNo.{TxNo}
use Rattle.sprite_ids.specs.Lists.{changed, less}
use Rattle.sprite_ids.proofs.ListLaws.{some_is}
use Rattle.packet_bodies.specs.declared.CallbackRequest.{CallbackRequest}
use Rattle.packet_bodies.specs.declared.Request.{Request}
use Rattle.packet_bodies.specs.declared.Request.TheVariants as requests
use Rattle.kernel_rpc.specs.declared.call.Call.{Call}
use Rattle.kernel_rpc.specs.Machine.{is_call}
use Rattle.kernel_rpc.proofs.PartLaws.{eq_same}
use Rattle.kernel_steps.specs.Rows.{is_under}
use Rattle.server_kernel.specs.declared.CallOut.{CallOut}
use Rattle.server_kernel.specs.Waits as waits
use Rattle.reached_domains.specs.Domains.{asked_request}
use Rattle.reached_callbacks.specs.Callbacks.{callback_by, callback_in, callbacks_of}

abbrev Rows : Type 0
Rows = List (TxNo × CallOut)

module _ (kernel : ℕ) where
  -- a call goes on, and is the same callback
  pub rows_changed : (p : Call → Bool) (f : Call → Call) → ((call : Call) → callback_by kernel (f call) ≡ callback_by kernel call) → (calls : List Call) → callbacks_of kernel (changed p f calls) ≡ callbacks_of kernel calls
  rows_changed p f same [] = refl
  rows_changed p f same (call ∷ calls) = elim (p call) as (λ b. callbacks_of kernel (cond b (f call ∷ calls) (call ∷ changed p f calls)) ≡ callbacks_of kernel (call ∷ calls)) [
    | true ↦ ap (λ (rows : Rows). rows ++ callbacks_of kernel calls) (same call)
    | false ↦ ap (λ (rows : Rows). callback_by kernel call ++ rows) (rows_changed p f same calls)
  ]

  -- one begins
  pub rows_push : (calls : List Call) (call : Call) → callbacks_of kernel (calls ++ call ∷ []) ≡ callbacks_of kernel calls ++ callback_by kernel call
  rows_push [] call = append-nil (callback_by kernel call)
  rows_push (first ∷ calls) call = ap (λ (rows : Rows). callback_by kernel first ++ rows) (rows_push calls call) ∙ sym (append_assoc (callback_by kernel first) (callbacks_of kernel calls) (callback_by kernel call))

  -- one is finished that is none of them
  pub rows_gone : (tx : TxNo) (found : Call) (calls : List Call) → find (is_call tx) calls ≡ Some found → callback_by kernel found ≡ [] → callbacks_of kernel (less (is_call tx) calls) ≡ callbacks_of kernel calls
  rows_gone tx found [] e none = refl
  rows_gone tx found (call ∷ calls) e none = by (is_call tx call) e (λ f. rows_gone tx found calls f none)
    where
      by : (b : Bool) → cond b (Some call) (find (is_call tx) calls) ≡ Some found → (find (is_call tx) calls ≡ Some found → callbacks_of kernel (less (is_call tx) calls) ≡ callbacks_of kernel calls)
          → callbacks_of kernel (cond b calls (call ∷ less (is_call tx) calls)) ≡ callbacks_of kernel (call ∷ calls)
      by true same later = ap (λ (rows : Rows). rows ++ callbacks_of kernel calls) (sym (ap (callback_by kernel) (some_is call found same) ∙ none))
      by false same later = ap (λ (rows : Rows). callback_by kernel call ++ rows) (later same)

  -- or that is one
  past_by : (b : Bool) (o : Option Request) (tx : TxNo) (call : Call) (rows : Rows) → is_call tx call ≡ false → less (is_under waits.is_call tx) (cond b (callback_in o call.tx call.owner) [] ++ rows) ≡ cond b (callback_in o call.tx call.owner) [] ++ less (is_under waits.is_call tx) rows
  past_by false o tx call rows off = refl
  past_by true None tx call rows off = refl
  past_by true (Some (requests.Callback request)) tx call rows off =
      let row : TxNo × CallOut = (call.tx, record { file = request.file; kernel = call.owner }) in
      ap (λ b. cond b rows (row ∷ less (is_under waits.is_call tx) rows)) off
  past_by true (Some body) tx call rows off = refl

  here_by : (tx : TxNo) (row : TxNo × CallOut) (rows : Rows) → (row.0.0 == tx.0) ≡ true → rows ≡ less (is_under waits.is_call tx) (row ∷ rows)
  here_by tx row rows here = sym (ap (λ b. cond b rows (row ∷ less (is_under waits.is_call tx) rows)) here)

  pub rows_less : (tx : TxNo) (found : Call) (row : TxNo × CallOut) (calls : List Call) → find (is_call tx) calls ≡ Some found → (row.0.0 == tx.0) ≡ true → callback_by kernel found ≡ row ∷ []
      → callbacks_of kernel (less (is_call tx) calls) ≡ less (is_under waits.is_call tx) (callbacks_of kernel calls)
  rows_less tx found row [] e here is = absurd (cc)
  rows_less tx found row (call ∷ calls) e here is = by (is_call tx call) refl e (λ f. rows_less tx found row calls f here is)
    where
      by : (b : Bool) → is_call tx call ≡ b → cond b (Some call) (find (is_call tx) calls) ≡ Some found → (find (is_call tx) calls ≡ Some found → callbacks_of kernel (less (is_call tx) calls) ≡ less (is_under waits.is_call tx) (callbacks_of kernel calls))
          → callbacks_of kernel (cond b calls (call ∷ less (is_call tx) calls)) ≡ less (is_under waits.is_call tx) (callbacks_of kernel (call ∷ calls))
      by true number same later =
          here_by tx row (callbacks_of kernel calls) here ∙ ap (λ (rows : Rows). less (is_under waits.is_call tx) (rows ++ callbacks_of kernel calls)) (sym (ap (callback_by kernel) (some_is call found same) ∙ is))
      by false off same later =
          ap (λ (rows : Rows). callback_by kernel call ++ rows) (later same) ∙ sym (past_by (call.from == kernel) (asked_request call.body) tx call (callbacks_of kernel calls) off)

  -- ---- a call by itself

  pub none_elsewhere : (call : Call) → (call.from == kernel) ≡ false → callback_by kernel call ≡ []
  none_elsewhere call off = ap (λ b. cond {A = Rows} b (callback_in (asked_request call.body) call.tx call.owner) []) off

  pub one_here : (call : Call) (request : CallbackRequest) → call.from ≡ kernel → asked_request call.body ≡ Some (requests.Callback request) → callback_by kernel call ≡ (call.tx, record { file = request.file; kernel = call.owner }) ∷ []
  one_here call request from asks =
      ap (λ b. cond {A = Rows} b (callback_in (asked_request call.body) call.tx call.owner) []) (ap (λ n. n == kernel) from ∙ eq_same kernel) ∙ ap (λ (o : Option Request). callback_in o call.tx call.owner) asks
