-- What each client's operations on files wait for asks as they sent it, in each reached cluster.
use Rattle.std.proofs.Common.{◌≡◌, ◌⊎◌, inl, inr, ℕ, ◌+◌, ◌≤◌, true, List, [], ◌∷◌, Option, Some, None, option_map, refl, sym, ap, ◌∙◌, subst}
use Rattle.std.specs.List.{AllByRecursion}
use Rattle.sprite_ids.specs.declared.Tries.TheVariants.{Eight}
use Rattle.sprite_ids.specs.declared.TxNo.{TxNo}
use Rattle.sprite_ids.proofs.ListLaws.{each_get, each_weaken, some_is}
use Rattle.packet_bodies.specs.declared.Request.TheVariants as requests
use Rattle.process_machine.specs.Machine as processes
use Rattle.kernel_rpc.specs.Bodies.{IsMessage, reply_of}
use Rattle.kernel_rpc.specs.Machine.{Machine, call_of, idle}
use Rattle.kernel_rpc.proofs.ArrivalLaws.{first_reply}
use Rattle.packet_bodies.specs.declared.Body.TheVariants as bodies
use Rattle.wire_format.specs.declared.Packet.{Packet}
use Rattle.wire_format.specs.Packets.{reading}
use Rattle.cluster_wire.specs.Arriving.{reply_in}
use Rattle.kernel_steps.specs.declared.Input.{Input}
use Rattle.kernel_steps.specs.declared.Sending.{Sending}
use Rattle.unix_calls.specs.declared.Description.{Description}
use Rattle.client_file_tables.specs.declared.client_files.ClientFiles.{ClientFiles}
use Rattle.client_file_tables.specs.declared.names.NameKind.{NameKind}
use Rattle.client_file_tables.specs.declared.names.NameKind.TheVariants as kinds
use Rattle.client_file_tables.specs.declared.pending.Pending.{Pending}
use Rattle.client_file_tables.specs.declared.pending.Pending.TheVariants as operations
use Rattle.client_file_tables.specs.declared.states.CloseState.{CloseState}
use Rattle.client_file_tables.specs.declared.states.CloseState.TheVariants as closes
use Rattle.client_file_tables.specs.declared.states.DataState.{DataState}
use Rattle.client_file_tables.specs.declared.states.DataState.TheVariants as states
use Rattle.client_file_tables.specs.declared.states.MoveState.{MoveState}
use Rattle.client_file_tables.specs.declared.states.MoveState.TheVariants as moves
use Rattle.client_file_tables.specs.declared.states.NameState.{NameState}
use Rattle.client_file_tables.specs.declared.states.NameState.TheVariants as names
use Rattle.client_file_tables.specs.declared.states.SyncState.{SyncState}
use Rattle.client_file_tables.specs.declared.states.SyncState.TheVariants as syncs
use Rattle.client_file_tables.specs.declared.works.WriteBackOut.{WriteBackOut}
use Rattle.client_homes.specs.declared.ClientProcs.{ClientProcs}
use Rattle.client_homes.specs.declared.Proc.{Proc}
use Rattle.client_homes.specs.Procs.{proc_at, with_proc}
use Rattle.client_procs.specs.Boot as client_boot
use Rattle.client_procs.specs.Readers.{with_image}
use Rattle.client_procs.specs.Steps.{client_step}
use Rattle.client_facts.specs.FileFacts.{own_call}
use Rattle.cluster_choices.specs.declared.Choice.{Choice}
use Rattle.cluster_choices.specs.declared.Choice.TheVariants as choices
use Rattle.cluster_kernels.specs.declared.KernelState.{KernelState}
use Rattle.cluster_kernels.specs.declared.KernelState.TheVariants as kernels
use Rattle.cluster_kernels.specs.States.{kernel_at}
use Rattle.operation_calls.specs.Requests.{IsSent, close_sends, data_sends, is_name_call, move_sends, name_goes, name_sends, name_tries, sync_sends, wanted_of, write_back_wanted}
use Rattle.operation_calls.proofs.StepLaws.{Behind, step_asks}
use Rattle.reached_clients.specs.Clients.{OfClient}
use Rattle.reached_domains.proofs.DomainLaws.{all_stand, call_fine, client_is}
use Rattle.reached_operations.specs.Operations.{OwnCallsAskSo, WriteBacksAskSo}
use Rattle.reached_operations.proofs.CallLaws.{AsksAt, IsFair, Went, asks_found}
use Rattle.reached_operations.proofs.TurnLaws as turns
use Rattle.reached_operations.proofs.TurnLaws.{Bears, Ended, RepliesCome, Stands, WentOut}
use Rattle.reached_operations.proofs.WireLaws.{good_idle}
use Rattle.sprite_cluster.specs.Reached.{At, Began, Chose, Lost, Reached, Took}
use Rattle.sprite_cluster.proofs.KernelLaws.{BeginsSo, booted, one_at}
use Rattle.sprite_cluster.proofs.ReachedLaws.{Lasts, lasts_on}

-- ---- a broadcast alone asks for a prefix

called_never : (kind : NameKind) (path : List (List ℕ)) → is_name_call kind (requests.Prefix path) ≡ true → ⊥
called_never (kinds.Open flags stream fd) path asks = absurd (cc)
called_never (kinds.Make device stream fd) path asks = absurd (cc)
called_never (kinds.Name op second max) path asks = absurd (cc)

name_fair : (state : NameState) (kind : NameKind) (path : List (List ℕ)) → name_sends state kind (requests.Prefix path) ≡ true → (name_tries state ≡ Eight) × (name_goes state ≡ None)
name_fair (names.Broadcasting tx prefix) kind path asks = (refl, refl)
name_fair (names.Echoing tx server) kind path asks = absurd (cc)
name_fair (names.Asking tx) kind path asks = absurd (called_never kind path asks)

data_never : (state : DataState) (path : List (List ℕ)) → data_sends state (requests.Prefix path) ≡ true → ⊥
data_never states.WaitLock path asks = absurd (cc)
data_never states.Turn path asks = absurd (cc)
data_never (states.Room tx) path asks = absurd (cc)
data_never (states.Fetching tx block) path asks = absurd (cc)
data_never (states.AtServer tx) path asks = absurd (cc)

sync_never : (state : SyncState) (path : List (List ℕ)) → sync_sends state (requests.Prefix path) ≡ true → ⊥
sync_never syncs.Looking path asks = absurd (cc)
sync_never (syncs.WaitOther tx) path asks = absurd (cc)
sync_never (syncs.WaitOwn tx) path asks = absurd (cc)

close_never : (state : CloseState) (path : List (List ℕ)) → close_sends state (requests.Prefix path) ≡ true → ⊥
close_never closes.WaitLock path asks = absurd (cc)
close_never (closes.Closing tx stream) path asks = absurd (cc)

move_never : (state : MoveState) (path : List (List ℕ)) → move_sends state (requests.Prefix path) ≡ true → ⊥
move_never moves.WaitLock path asks = absurd (cc)
move_never (moves.MovingOut tx kept place) path asks = absurd (cc)

pub operation_fair : (operation : Pending) → IsFair (wanted_of operation)
operation_fair (operations.Name call) path asks = name_fair call.state call.work.kind path asks
operation_fair (operations.Data call) path asks = absurd (data_never call.state path asks)
operation_fair (operations.Sync call) path asks = absurd (sync_never call.state path asks)
operation_fair (operations.Close work) path asks = absurd (close_never work.state path asks)
operation_fair (operations.Move work) path asks = absurd (move_never work.state path asks)

pub back_fair : (back : WriteBackOut) → IsFair (write_back_wanted back)
back_fair back path asks = absurd (cc)

-- ---- a client

abbrev pub RowAsks : Machine → ℕ → ℕ × Pending → Type 0
RowAsks machine kernel row = (tx : TxNo) → own_call row.1 ≡ Some tx → AsksAt kernel (wanted_of row.1) machine tx

abbrev pub BackAsks : Machine → ℕ → TxNo × WriteBackOut → Type 0
BackAsks machine kernel back = AsksAt kernel (write_back_wanted back.1) machine back.0

pub record FilesAsk (machine : Machine) (kernel : ℕ) (s : ClientFiles) : Type 0 where
  pub rows : AllByRecursion (RowAsks machine kernel) s.pending
  pub backs : AllByRecursion (BackAsks machine kernel) s.write_backs

abbrev pub Asks : Ended → Machine → ℕ → ClientProcs → Type 0
Asks hand machine kernel s = FilesAsk machine kernel s.files

abbrev pub Any : Input → ClientProcs → Type 0
Any input s = Unit {0}

pub asks_grow : (old new : Machine) (kernel : ℕ) (s : ClientFiles) → Went old new → FilesAsk old kernel s → FilesAsk new kernel s
asks_grow old new kernel s w h = record {
  rows = each_weaken (RowAsks old kernel) (RowAsks new kernel) s.pending (λ row so tx own. w.grows kernel (wanted_of row.1) tx (so tx own)) h.rows;
  backs = each_weaken (BackAsks old kernel) (BackAsks new kernel) s.write_backs (λ back so. w.grows kernel (write_back_wanted back.1) back.0 so) h.backs;
}

-- a step: what asked so before still does, and what is sent asks so
pub asks_steps : (kernel : ℕ) (old new : Machine) (s : ClientProcs) (input : Input) (next : TxNo) (step : ℕ) → next.0 ≡ old.begun + 1 → WentOut kernel old new (client_step s input next step).1.sends → FilesAsk old kernel s.files → FilesAsk new kernel (client_step s input next step).0.files
asks_steps kernel old new s input next step number w h = record {
  rows = each_weaken (λ (row : ℕ × Pending). (tx : TxNo) → own_call row.1 ≡ Some tx → AsksAt kernel (wanted_of row.1) old tx ⊎ IsSent next.0 sends tx (wanted_of row.1)) (RowAsks new kernel) after.pending (λ row so tx own. row_now row tx (so tx own)) behind.asks.rows;
  backs = each_weaken (λ (back : TxNo × WriteBackOut). BackAsks old kernel back ⊎ IsSent next.0 sends back.0 (write_back_wanted back.1)) (BackAsks new kernel) after.write_backs (λ back so. back_now back so) behind.asks.backs;
}
  where
    after : ClientFiles
    after = (client_step s input next step).0.files

    sends : List Sending
    sends = (client_step s input next step).1.sends

    behind : Behind (λ tx row. AsksAt kernel (wanted_of row.1) old tx) (BackAsks old kernel) s input next step
    behind = step_asks (λ tx row. AsksAt kernel (wanted_of row.1) old tx) (BackAsks old kernel) s input next step h.rows h.backs

    row_now : (row : ℕ × Pending) (tx : TxNo) → AsksAt kernel (wanted_of row.1) old tx ⊎ IsSent next.0 sends tx (wanted_of row.1) → AsksAt kernel (wanted_of row.1) new tx
    row_now row tx (inl before) = w.on.went.grows kernel (wanted_of row.1) tx before
    row_now row tx (inr now) = (w.asked (wanted_of row.1) tx (operation_fair row.1) (subst (λ (n : ℕ). IsSent n sends tx (wanted_of row.1)) number now)).asks

    back_now : (back : TxNo × WriteBackOut) → BackAsks old kernel back ⊎ IsSent next.0 sends back.0 (write_back_wanted back.1) → BackAsks new kernel back
    back_now back (inl before) = w.on.went.grows kernel (write_back_wanted back.1) back.0 before
    back_now back (inr now) = (w.asked (write_back_wanted back.1) back.0 (back_fair back.1) (subst (λ (n : ℕ). IsSent n sends back.0 (write_back_wanted back.1)) number now)).asks

files_same : (o : Option Proc) (s : ClientProcs) (pid : ℕ) → (with_proc pid o s).files ≡ s.files
files_same None s pid = refl
files_same (Some proc) s pid = refl

-- a process's instructions leave the files' side
pub image_files : (pid : ℕ) (image : processes.Machine) (s : ClientProcs) → (with_image pid image s).files ≡ s.files
image_files pid image s = files_same (option_map {T = Proc} (λ proc. record proc { image = image }) (proc_at pid s)) s pid

pub asks_bear : Bears Asks Any
asks_bear = record {
  grows = λ hand old new kernel s w h. asks_grow old new kernel s.files w.went h;
  ends = λ owner tx call old new kernel s w stays found from h. asks_grow old new kernel s.files w h;
  others = λ owner tx machine kernel s apart h. h;
  steps = λ kernel old new s input next step number such w h. asks_steps kernel old new s input next step number w h;
  images = λ machine kernel pid image s h. subst (FilesAsk machine kernel) (sym (image_files pid image s)) h;
  here = λ input s here. tt;
}

-- ---- each reached cluster

-- in each, a reply that comes for the first time is one
pub replies_come : {L : Type 0} (faults asked : L → ℕ → ℕ → ℕ) (c : Description) (begun : L) (now : At L) → Reached faults asked c begun now → RepliesCome now.wire.machine
replies_come faults asked c begun now reached copy what is brings =
    let got = first_reply copy (call_of now.wire.machine copy.tx) is in
    let fine = call_fine c now.wire.machine now.state copy.tx got.0 (all_stand faults asked c begun now reached) got.1 in
    let told = fine.answer got.2.0 got.2.1 in
    let read : reading got.2.0 ≡ Some brings.0 = subst (λ (o : Option (List ℕ)). IsMessage reading o brings.0) (ap reply_of got.1 ∙ got.2.1) brings.1 in
    let body : brings.0.body ≡ bodies.Reply told.body = ap (λ (p : Packet). p.body) (sym (some_is told.packet brings.0 (sym told.reads ∙ read))) ∙ told.is in
    (brings.0.from, told.body, brings.2 ∙ ap (reply_in copy.tx brings.0.from) body)

-- each client begins so
pub clients_begin : (c : Description) (P : ℕ → ClientProcs → Type 0) → ((kernel : ℕ) → P kernel (client_boot.boots c kernel)) → BeginsSo c (OfClient P)
clients_begin c P boots [] kernel state e = subst (λ (k : KernelState). OfClient P kernel k) (sym e) (boots kernel)
clients_begin c P boots (path ∷ paths) kernel (kernels.Server made) e = tt
clients_begin c P boots (path ∷ paths) kernel (kernels.Client made) e = absurd e

module _ {L : Type 0} (faults asked : L → ℕ → ℕ → ℕ) (c : Description) (begun : L) where
  asks_last : Lasts faults asked c begun (turns.At_stands c Asks Any asks_bear faults asked)
  asks_last = record {
    begins = λ first b. subst (λ (machine : Machine). Stands c Asks Any asks_bear machine first.state) (sym b.idles) (record {
      good = good_idle;
      clients = booted (OfClient (Asks None idle)) c (clients_begin c (Asks None idle) (λ kernel. record { rows = tt; backs = tt })) c.kernels first.state.kernels 1 b.boots.kernels_are;
    });
    chose = λ kernel choice old now reached goes h. turns.changed c Asks Any asks_bear faults asked (Chose kernel choice) old now (replies_come faults asked c begun old reached) (λ low. any_brought kernel low choice old) goes h;
    began = λ kernel old now reached goes h. turns.changed c Asks Any asks_bear faults asked (Began kernel) old now (replies_come faults asked c begun old reached) tt goes h;
    took = λ kernel b old now reached goes h. turns.changed c Asks Any asks_bear faults asked (Took kernel b) old now (replies_come faults asked c begun old reached) tt goes h;
    lost = λ kernel b old now reached goes h. turns.changed c Asks Any asks_bear faults asked (Lost kernel b) old now (replies_come faults asked c begun old reached) tt goes h;
  }
    where
      any_brought : (kernel : ℕ) (low : 1 ≤ kernel) (choice : Choice) (old : At L) → turns.Brought c Asks Any asks_bear faults asked kernel low choice old.wire old.state
      any_brought kernel low (choices.Deliver number) old = λ copy input there brings client e. tt
      any_brought kernel low (choices.Expire tx) old = λ before now between fires client e. tt
      any_brought kernel low (choices.WriteBack file block) old = tt

  pub all_ask : (now : At L) → Reached faults asked c begun now → Stands c Asks Any asks_bear now.wire.machine now.state
  all_ask now reached = lasts_on faults asked c begun (turns.At_stands c Asks Any asks_bear faults asked) now asks_last reached

  -- so does each client
  pub client_asks : (now : At L) (kernel : ℕ) (client : ClientProcs) → 1 ≤ kernel → Reached faults asked c begun now → kernel_at kernel now.state ≡ Some (kernels.Client client) → Asks None now.wire.machine kernel client
  client_asks now kernel client low reached e = one_at (OfClient (Asks None now.wire.machine)) kernel (kernels.Client client) now.state.kernels low (all_ask now reached).clients e

pub own_calls_ask_so : {L : Type 0} (faults asked : L → ℕ → ℕ → ℕ) → OwnCallsAskSo faults asked
own_calls_ask_so faults asked c begun now kernel client tx row call low reached e waits found =
    let so = client_asks faults asked c begun now kernel client low reached (client_is (kernel_at kernel now.state) client e) in
    asks_found kernel (wanted_of row.1) now.wire.machine tx call (each_get (RowAsks now.wire.machine kernel) client.files.pending waits.at row so.rows waits.there tx waits.own) found

pub write_backs_ask_so : {L : Type 0} (faults asked : L → ℕ → ℕ → ℕ) → WriteBacksAskSo faults asked
write_backs_ask_so faults asked c begun now kernel client row call low reached e out found =
    let so = client_asks faults asked c begun now kernel client low reached (client_is (kernel_at kernel now.state) client e) in
    asks_found kernel (write_back_wanted row.1) now.wire.machine row.0 call (each_get (BackAsks now.wire.machine kernel) client.files.write_backs out.at row so.backs out.there) found
