-- Of each reached cluster: the callbacks that are out at its servers, and the remote calls that they are.
use Rattle.std.proofs.Common.{◌≡◌, ℕ, zero, suc, ◌≤◌, inl, inr, ◌==◌, Bool, true, false, ◌||◌, cond, List, [], ◌∷◌, ◌++◌, slice_get, Option, Some, None, refl, sym, ap, ◌∙◌, subst, true≢false}
use Rattle.std.proofs.lemmas.Bool.{eqb-true}
use Rattle.std.specs.List.{find, list_any}
use Rattle.sprite_ids.specs.declared.TxNo.{TxNo}
use Rattle.sprite_ids.proofs.ListLaws.{some_is}
use Rattle.packet_bodies.specs.declared.CallbackRequest.{CallbackRequest}
use Rattle.packet_bodies.specs.declared.Request.{Request}
use Rattle.packet_bodies.specs.declared.Request.TheVariants as requests
use Rattle.kernel_rpc.specs.declared.call.Call.{Call}
use Rattle.kernel_rpc.specs.Machine.{Machine, is_call}
use Rattle.kernel_rpc.specs.Sound.{IsNumbered}
use Rattle.kernel_rpc.proofs.NumberLaws.{none_after}
use Rattle.kernel_rpc.proofs.PartLaws.{eq_same}
use Rattle.kernel_rpc.proofs.SoundLaws.{found_sound}
use Rattle.server_kernel.specs.declared.CallOut.{CallOut}
use Rattle.server_kernel.specs.declared.Server.{Server}
use Rattle.cluster_kernels.specs.declared.KernelState.TheVariants as kernels
use Rattle.cluster_kernels.specs.States.{kernel_at}
use Rattle.sprite_cluster.specs.Reached.{At}
use Rattle.sprite_cluster.proofs.KernelLaws.{one_at}
use Rattle.reached_domains.specs.Domains.{asked_request}
use Rattle.reached_callbacks.specs.Callbacks.{CallbacksAreCalls, CallsBack, EachHasRow, EachIsOut, ServersCallBack, callback_by, callback_in, callbacks_of}
use Rattle.reached_callbacks.proofs.AnswerLaws.{IsIn, in_at}
use Rattle.reached_callbacks.proofs.OutLaws.{KernelSo, Sent, ServerSo, Stands, out_reached}
use Rattle.reached_callbacks.proofs.RowLaws.{one_here}

server_so : {L : Type 0} (faults asked : L → ℕ → ℕ → ℕ) (now : At L) (kernel : ℕ) (server : Server) → 1 ≤ kernel → Stands now.wire.machine now.state → kernel_at kernel now.state ≡ Some (kernels.Server server) → ServerSo now.wire.machine kernel server
server_so faults asked now kernel server low h e = one_at (KernelSo now.wire.machine) kernel (kernels.Server server) now.state.kernels low h.kernels e

pub callbacks_are_calls : {L : Type 0} (faults asked : L → ℕ → ℕ → ℕ) → CallbacksAreCalls faults asked
callbacks_are_calls faults asked c begun now kernel server low reached e = (server_so faults asked now kernel server low (out_reached faults asked c begun now reached) e).rows

pub servers_call_back : {L : Type 0} (faults asked : L → ℕ → ℕ → ℕ) → ServersCallBack faults asked
servers_call_back faults asked c begun now tx call server reached there low e =
    found_sound (Sent call.from) (is_call tx) call now.wire.machine.unfinished there (server_so faults asked now call.from server low (out_reached faults asked c begun now reached) e).calls refl

-- ---- from rows to calls

-- a call is no callback of the kernel, or one
data OneOrNone (kernel : ℕ) (call : Call) : Type 0 where
  IsNone : callback_by kernel call ≡ [] → OneOrNone kernel call
  IsOne : (request : CallbackRequest) → call.from ≡ kernel → asked_request call.body ≡ Some (requests.Callback request) → callback_by kernel call ≡ (call.tx, record { file = request.file; kernel = call.owner }) ∷ [] → OneOrNone kernel call

one_or_none : (kernel : ℕ) (call : Call) → OneOrNone kernel call
one_or_none kernel call = by (call.from == kernel) (asked_request call.body) refl refl
  where
    none : (b : Bool) (o : Option Request) → (call.from == kernel) ≡ b → asked_request call.body ≡ o → cond {A = List (TxNo × CallOut)} b (callback_in o call.tx call.owner) [] ≡ [] → OneOrNone kernel call
    none b o is asks e = IsNone (ap (λ x. cond {A = List (TxNo × CallOut)} x (callback_in (asked_request call.body) call.tx call.owner) []) is ∙ (ap (λ x. cond {A = List (TxNo × CallOut)} b (callback_in x call.tx call.owner) []) asks ∙ e))

    by : (b : Bool) (o : Option Request) → (call.from == kernel) ≡ b → asked_request call.body ≡ o → OneOrNone kernel call
    by false o is asks = none false o is asks refl
    by true None is asks = none true None is asks refl
    by true (Some (requests.Callback request)) is asks = IsOne request (eqb-true call.from kernel is) asks (one_here kernel call request (eqb-true call.from kernel is) asks)
    by true (Some body) is asks = none true (Some body) is asks refl

found_any : {X : Type 0} (p : X → Bool) (x : X) (xs : List X) → find p xs ≡ Some x → list_any p xs ≡ true
found_any p x [] e = absurd (cc)
found_any p x (first ∷ rest) e = by (p first) e (found_any p x rest)
  where
    by : (b : Bool) → cond b (Some first) (find p rest) ≡ Some x → (find p rest ≡ Some x → list_any p rest ≡ true) → (b || list_any p rest) ≡ true
    by true f later = refl
    by false f later = later f

-- the call of a row
record RowOf (kernel : ℕ) (calls : List Call) (row : TxNo × CallOut) : Type 0 where
  call : Call
  request : CallbackRequest
  there : find (is_call row.0) calls ≡ Some call
  source : call.from ≡ kernel
  asks : asked_request call.body ≡ Some (requests.Callback request)
  is : row.1 ≡ record { file = request.file; kernel = call.owner }

module _ (kernel : ℕ) where
  -- a later one
  row_later : (first last : ℕ) (call : Call) (calls : List Call) (row : TxNo × CallOut) → IsNumbered first (call ∷ calls) last → RowOf kernel calls row → RowOf kernel (call ∷ calls) row
  row_later first last call calls row numbered of_row = record {
    call = of_row.call;
    request = of_row.request;
    there = ap (λ b. cond b (Some call) (find (is_call row.0) calls)) (other (is_call row.0 call) refl) ∙ of_row.there;
    source = of_row.source;
    asks = of_row.asks;
    is = of_row.is;
  }
    where
      other : (b : Bool) → is_call row.0 call ≡ b → b ≡ false
      other true is = absurd (true≢false (sym (found_any (is_call row.0) of_row.call calls of_row.there) ∙ none_after row.0 first last call calls is numbered))
      other false is = refl

  row_there : (first last : ℕ) (calls : List Call) (at : ℕ) (row : TxNo × CallOut) → IsNumbered first calls last → slice_get (callbacks_of kernel calls) at ≡ Some row → RowOf kernel calls row
  row_there first last [] at row numbered e = absurd (cc)
  row_there first last (call ∷ calls) at row numbered e = by (one_or_none kernel call) (λ i f. row_there call.tx.0 last calls i row numbered.1 f)
    where
      Later : Type 0
      Later = (i : ℕ) → slice_get (callbacks_of kernel calls) i ≡ Some row → RowOf kernel calls row

      here : (request : CallbackRequest) (at : ℕ) → call.from ≡ kernel → asked_request call.body ≡ Some (requests.Callback request) → slice_get ((call.tx, record { file = request.file; kernel = call.owner }) ∷ callbacks_of kernel calls) at ≡ Some row → Later → RowOf kernel (call ∷ calls) row
      here request zero from asks f later =
          let same : (call.tx, record { file = request.file; kernel = call.owner }) ≡ row = some_is (call.tx, record { file = request.file; kernel = call.owner }) row f in
          record {
            call = call;
            request = request;
            there = ap (λ b. cond b (Some call) (find (is_call row.0) calls)) (ap (λ (r : TxNo × CallOut). call.tx.0 == r.0.0) (sym same) ∙ eq_same call.tx.0);
            source = from;
            asks = asks;
            is = ap (λ (r : TxNo × CallOut). r.1) (sym same);
          }
      here request (suc i) from asks f later = row_later first last call calls row numbered (later i f)

      by : OneOrNone kernel call → Later → RowOf kernel (call ∷ calls) row
      by (IsNone none) later = row_later first last call calls row numbered (later at (subst (λ (rows : List (TxNo × CallOut)). slice_get (rows ++ callbacks_of kernel calls) at ≡ Some row) none e))
      by (IsOne request from asks one) later = here request at from asks (subst (λ (rows : List (TxNo × CallOut)). slice_get (rows ++ callbacks_of kernel calls) at ≡ Some row) one e) later

pub each_is_out : {L : Type 0} (faults asked : L → ℕ → ℕ → ℕ) → EachIsOut faults asked
each_is_out faults asked c begun now kernel server at tx out low reached e there =
    let stands : Stands now.wire.machine now.state = out_reached faults asked c begun now reached in
    let so = server_so faults asked now kernel server low stands e in
    let machine : Machine = now.wire.machine in
    let of_row = row_there kernel 0 machine.begun machine.unfinished at (tx, out) stands.ordered (subst (λ (rows : List (TxNo × CallOut)). slice_get rows at ≡ Some (tx, out)) so.rows there) in
    let back : CallsBack of_row.call = found_sound (Sent kernel) (is_call tx) of_row.call machine.unfinished of_row.there so.calls of_row.source in
    let owner : of_row.call.owner ≡ out.kernel = ap (λ (o : CallOut). o.kernel) (sym of_row.is) in
    record {
      call = of_row.call;
      there = of_row.there;
      source = of_row.source;
      owner = owner;
      alone = back.alone ∙ ap (λ n. n ∷ []) owner;
      lasts = back.lasts;
      stamp = of_row.request.stamp;
      kind = of_row.request.kind;
      asks = of_row.asks ∙ ap (λ (o : CallOut). Some (requests.Callback (record { file = o.file; stamp = of_row.request.stamp; kind = of_row.request.kind }))) (sym of_row.is);
    }

-- ---- from calls to rows

in_front : {X : Type 0} (x : X) (xs ys : List X) → IsIn x ys → IsIn x (xs ++ ys)
in_front x [] ys h = h
in_front x (first ∷ xs) ys h = inr (in_front x xs ys h)

row_in : (kernel : ℕ) (tx : TxNo) (call : Call) (row : TxNo × CallOut) (calls : List Call) → find (is_call tx) calls ≡ Some call → callback_by kernel call ≡ row ∷ [] → IsIn row (callbacks_of kernel calls)
row_in kernel tx call row [] e is = absurd (cc)
row_in kernel tx call row (first ∷ calls) e is = by (is_call tx first) e (λ f. row_in kernel tx call row calls f is)
  where
    by : (b : Bool) → cond b (Some first) (find (is_call tx) calls) ≡ Some call → (find (is_call tx) calls ≡ Some call → IsIn row (callbacks_of kernel calls)) → IsIn row (callback_by kernel first ++ callbacks_of kernel calls)
    by true same later = subst (λ (rows : List (TxNo × CallOut)). IsIn row (rows ++ callbacks_of kernel calls)) (sym (ap (callback_by kernel) (some_is first call same) ∙ is)) (inl refl)
    by false same later = in_front row (callback_by kernel first) (callbacks_of kernel calls) (later same)

pub each_has_row : {L : Type 0} (faults asked : L → ℕ → ℕ → ℕ) → EachHasRow faults asked
each_has_row faults asked c begun now tx call server reached there low e =
    let so = server_so faults asked now call.from server low (out_reached faults asked c begun now reached) e in
    let back : CallsBack call = found_sound (Sent call.from) (is_call tx) call now.wire.machine.unfinished there so.calls refl in
    let row : TxNo × CallOut = (call.tx, record { file = back.request.file; kernel = call.owner }) in
    let found = in_at row (callbacks_of call.from now.wire.machine.unfinished) (row_in call.from tx call row now.wire.machine.unfinished there (one_here call.from call back.request refl back.asks)) in
    record { at = found.0; request = back.request; asks = back.asks; there = ap (λ (rows : List (TxNo × CallOut)). slice_get rows found.0) so.rows ∙ found.1 }
