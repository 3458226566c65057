-- Where all unfinished calls are waits and asks, no operation on files of a client waits for a remote call, and so none is pending.
use Rattle.std.proofs.Common.{◌≡◌, ℕ, zero, suc, Bool, true, false, ◌||◌, List, [], ◌∷◌, slice_get, Option, Some, None, refl, sym, ap, subst, ◌∙◌, true≢false}
use Rattle.std.specs.List.{AllByRecursion, list_all, list_any}
use Rattle.std.proofs.lemmas.Bool.{and_parts}
use Rattle.sprite_ids.specs.declared.TxNo.{TxNo}
use Rattle.sprite_ids.proofs.ListLaws.{some_is}
use Rattle.kernel_steps.specs.Rows.{is_under}
use Rattle.packet_bodies.specs.declared.Request.{Request}
use Rattle.packet_bodies.specs.declared.Request.TheVariants as requests
use Rattle.kernel_rpc.specs.declared.call.Call.{Call}
use Rattle.kernel_rpc.specs.Machine.{call_of}
use Rattle.client_file_tables.specs.declared.client_files.ClientFiles.{ClientFiles}
use Rattle.client_file_tables.specs.declared.names.NameKind.{NameKind}
use Rattle.client_file_tables.specs.declared.names.NameKind.TheVariants as kinds
use Rattle.client_file_tables.specs.declared.pending.Pending.{Pending}
use Rattle.client_file_tables.specs.declared.pending.Pending.TheVariants as operations
use Rattle.client_file_tables.specs.declared.states.CloseState.{CloseState}
use Rattle.client_file_tables.specs.declared.states.CloseState.TheVariants as closes
use Rattle.client_file_tables.specs.declared.states.DataState.{DataState}
use Rattle.client_file_tables.specs.declared.states.DataState.TheVariants as states
use Rattle.client_file_tables.specs.declared.states.NameState.{NameState}
use Rattle.client_file_tables.specs.declared.states.NameState.TheVariants as names
use Rattle.client_file_tables.specs.declared.states.SyncState.{SyncState}
use Rattle.client_file_tables.specs.declared.states.SyncState.TheVariants as syncs
use Rattle.client_file_tables.specs.declared.works.WriteBackOut.{WriteBackOut}
use Rattle.client_file_tables.specs.Rows.{same_call}
use Rattle.client_facts.specs.FileFacts.{WaitedWriteBacksAreOut, has_its_write_back, is_out_call, own_call, waited_write_back}
use Rattle.client_requests.specs.Requests.{asks_device, asks_wait}
use Rattle.cluster_steps.specs.Receivers.{is_for_servers}
use Rattle.operation_calls.specs.Asking.{IsOut, WaitsFor}
use Rattle.operation_calls.specs.Requests.{close_sends, data_sends, is_name_call, is_write_back, name_sends, sends_so, sync_sends, wanted_of, write_back_wanted}
use Rattle.reached_domains.specs.Domains.{asked_request}
use Rattle.reached_operations.specs.Unfinished.{IsUnfinishedCall}
use Rattle.reached_operations.proofs.ServedLaws.{move_for}
use Rattle.sprite_cluster.specs.Reached.{At}
use Rattle.stall_laws.specs.Clients.{AsAsk, AsWait, IsLeftAtClient, KeptAs}
use Rattle.pending_laws.specs.Waits.{AwaitsNoCall, WaitFacts}
use Rattle.pending_laws.proofs.WaitLaws.{nothing_pending}

-- ---- what an operation sends is for servers

close_for : (state : CloseState) (request : Request) → close_sends state request ≡ true → is_for_servers request ≡ true
close_for (closes.Closing tx stream) (requests.Close r) e = refl
close_for (closes.Closing tx stream) request e = absurd (cc)
close_for closes.WaitLock request e = absurd (cc)

back_for : (request : Request) → is_write_back request ≡ true → is_for_servers request ≡ true
back_for (requests.WriteBack r) e = refl
back_for request e = absurd (cc)

sync_for : (state : SyncState) (request : Request) → sync_sends state request ≡ true → is_for_servers request ≡ true
sync_for (syncs.WaitOwn tx) request e = back_for request e
sync_for state request e = absurd (cc)

data_sent_for : (state : DataState) (request : Request) → data_sends state request ≡ true → is_for_servers request ≡ true
data_sent_for (states.Fetching tx block) (requests.Fetch r) e = refl
data_sent_for (states.Fetching tx block) request e = absurd (cc)
data_sent_for (states.AtServer tx) (requests.Op r) e = refl
data_sent_for (states.AtServer tx) request e = absurd (cc)
data_sent_for state request e = absurd (cc)

kind_for : (kind : NameKind) (request : Request) → is_name_call kind request ≡ true → is_for_servers request ≡ true
kind_for (kinds.Open flags stream fd) (requests.Opening r) e = refl
kind_for (kinds.Open flags stream fd) request e = absurd (cc)
kind_for (kinds.Make device stream fd) (requests.Make r) e = refl
kind_for (kinds.Make device stream fd) request e = absurd (cc)
kind_for (kinds.Name op second max) (requests.Name r) e = refl
kind_for (kinds.Name op second max) request e = absurd (cc)

name_for : (state : NameState) (kind : NameKind) (request : Request) → name_sends state kind request ≡ true → is_for_servers request ≡ true
name_for (names.Broadcasting tx prefix) kind (requests.Prefix path) e = refl
name_for (names.Broadcasting tx prefix) kind request e = absurd (cc)
name_for (names.Echoing tx server) kind requests.Echo e = refl
name_for (names.Echoing tx server) kind request e = absurd (cc)
name_for (names.Asking tx) kind request e = kind_for kind request e

sent_for : (operation : Pending) (request : Request) → sends_so operation request ≡ true → is_for_servers request ≡ true
sent_for (operations.Name call) request e = name_for call.state call.work.kind request e
sent_for (operations.Data call) request e = data_sent_for call.state request e
sent_for (operations.Sync call) request e = sync_for call.state request e
sent_for (operations.Close work) request e = close_for work.state request e
sent_for (operations.Move work) request e = move_for work.state request e

-- a `wait` and an ask are not
wait_not : (request : Request) → asks_wait request ≡ true → is_for_servers request ≡ false
wait_not (requests.Home r) e = refl
wait_not request e = absurd (cc)

ask_not : (request : Request) → asks_device request ≡ true → is_for_servers request ≡ false
ask_not (requests.Ask r) e = refl
ask_not request e = absurd (cc)

-- ---- lists

each_at : {X : Type 0} (F : X → Type 0) (xs : List X) → ((at : ℕ) (x : X) → slice_get xs at ≡ Some x → F x) → AllByRecursion F xs
each_at F [] there = tt
each_at F (x ∷ xs) there = (there 0 x refl, each_at F xs (λ at y e. there (suc at) y e))

-- where one passes, it stands there
record Stands {X : Type 0} (q : X → Bool) (xs : List X) : Type 0 where
  at : ℕ
  x : X
  there : slice_get xs at ≡ Some x
  passes : q x ≡ true

any_stands : {X : Type 0} (q : X → Bool) (xs : List X) → list_any q xs ≡ true → Stands q xs
any_stands q [] e = absurd (cc)
any_stands q (x ∷ xs) e = by (λ k. later (any_stands q xs k)) (q x) refl e
  where
    later : Stands q xs → Stands q (x ∷ xs)
    later s = record { at = suc s.at; x = s.x; there = s.there; passes = s.passes }

    by : (list_any q xs ≡ true → Stands q (x ∷ xs)) → (b : Bool) → q x ≡ b → (b || list_any q xs) ≡ true → Stands q (x ∷ xs)
    by rest true is e = record { at = 0; x = x; there = refl; passes = is }
    by rest false is e = rest e

all_at : {X : Type 0} (q : X → Bool) (xs : List X) (at : ℕ) (x : X) → list_all q xs ≡ true → slice_get xs at ≡ Some x → q x ≡ true
all_at q [] at x e there = absurd (cc)
all_at q (y ∷ xs) zero x e there = subst (λ (z : _). q z ≡ true) (some_is y x there) (and_parts (q y) (list_all q xs) e).0
all_at q (y ∷ xs) (suc at) x e there = all_at q xs at x (and_parts (q y) (list_all q xs) e).1 there

-- ---- a client

module _ {L : Type 0} (now : At L) (calls : (tx : TxNo) (call : Call) → call_of now.wire.machine tx ≡ Some call → IsLeftAtClient now call) where
  -- no unfinished call asks what is for servers
  none_for : (tx : TxNo) (call : Call) (request : Request) → call_of now.wire.machine tx ≡ Some call → asked_request call.body ≡ Some request → is_for_servers request ≡ true → ⊥
  none_for tx call request found asks kind =
      let left : IsLeftAtClient now call = calls tx call found in
      by left.kept (some_is left.body request (sym left.asks ∙ asks))
    where
      by : {body : Request} {client : _} → KeptAs call.tx client body → body ≡ request → ⊥
      by {body} (AsWait row is) same = absurd (true≢false (sym kind ∙ wait_not request (ap asks_wait (sym same) ∙ is)))
      by {body} (AsAsk row is) same = absurd (true≢false (sym kind ∙ ask_not request (ap asks_device (sym same) ∙ is)))

  module _ (kernel : ℕ) (files : ClientFiles)
      (own : (tx : TxNo) (row : ℕ × Pending) → WaitsFor files.pending tx row → IsUnfinishedCall now.wire.machine kernel (wanted_of row.1) tx)
      (backs : (row : TxNo × WriteBackOut) → IsOut files.write_backs row → IsUnfinishedCall now.wire.machine kernel (write_back_wanted row.1) row.0) where
    no_own : (row : ℕ × Pending) (at : ℕ) (o : Option TxNo) → slice_get files.pending at ≡ Some row → own_call row.1 ≡ o → o ≡ None
    no_own row at None there e = refl
    no_own row at (Some tx) there e =
        let call : IsUnfinishedCall now.wire.machine kernel (wanted_of row.1) tx = own tx row (record { at = at; there = there; own = e }) in
        absurd (none_for tx call.call call.is.request call.there call.is.reads (sent_for row.1 call.is.request call.is.asks))

    no_back : (o : Option TxNo) → is_out_call o files ≡ true → o ≡ None
    no_back None e = refl
    no_back (Some tx) e =
        let stands = any_stands (is_under same_call tx) files.write_backs e in
        let call : IsUnfinishedCall now.wire.machine kernel (write_back_wanted stands.x.1) stands.x.0 = backs stands.x (record { at = stands.at; there = stands.there }) in
        absurd (none_for stands.x.0 call.call call.is.request call.there call.is.reads (back_for call.is.request call.is.asks))

    no_call : WaitedWriteBacksAreOut files → AllByRecursion AwaitsNoCall files.pending
    no_call out =
        each_at AwaitsNoCall files.pending
        (λ at row there. record { own = no_own row at (own_call row.1) there refl; back = no_back (waited_write_back row.1) (all_at (has_its_write_back files) files.pending at row out there) })

    pub none_pending : WaitedWriteBacksAreOut files → WaitFacts files → files.pending ≡ []
    none_pending out facts = nothing_pending files facts (no_call out)
