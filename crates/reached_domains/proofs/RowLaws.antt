-- What clients learn: domains of the description, each with its server.
use Rattle.std.proofs.Common.{◌≡◌, ℕ, ◌+◌, ◌≤◌, Bool, true, false, cond, List, [], ◌∷◌, ◌++◌, Option, Some, None, is_some, refl, sym, ap, ◌∙◌, subst}
use Rattle.std.proofs.lemmas.Bool.{eqb-true}
use Rattle.std.specs.List.{AllByRecursion, list_any}
use Rattle.sprite_ids.specs.declared.TxNo.{TxNo}
use Rattle.sprite_ids.proofs.ListLaws.{each_append, some_is}
use Rattle.process_machine.specs.Machine as processes
use Rattle.kernel_rpc.specs.declared.call.Arrival.{Arrival}
use Rattle.kernel_rpc.specs.declared.call.Arrival.TheVariants.{FirstRequest, FirstReply, AskedAgain, Past}
use Rattle.kernel_rpc.specs.declared.call.Call.{Call}
use Rattle.kernel_rpc.specs.declared.PacketCopy.{PacketCopy}
use Rattle.kernel_rpc.specs.Bodies.{IsMessage, body_of, reply_of}
use Rattle.kernel_rpc.specs.Machine.{Machine, arrival, call_of}
use Rattle.kernel_rpc.proofs.ArrivalLaws.{first_reply}
use Rattle.kernel_steps.specs.declared.Input.{Input}
use Rattle.kernel_steps.specs.declared.Input.TheVariants as inputs
use Rattle.kernel_steps.specs.Rows.{is_under}
use Rattle.packet_bodies.specs.declared.Body.{Body}
use Rattle.packet_bodies.specs.declared.Body.TheVariants as bodies
use Rattle.packet_bodies.specs.declared.ReplyBody.{ReplyBody}
use Rattle.unix_calls.specs.declared.Description.{Description}
use Rattle.wire_format.specs.declared.Packet.{Packet}
use Rattle.wire_format.specs.Packets.{reading}
use Rattle.prefix_table.specs.declared.prefixes.Domain.{Domain}
use Rattle.prefix_table.specs.Prefixes.{domain, knows}
use Rattle.client_file_tables.specs.declared.client_files.ClientFiles.{ClientFiles}
use Rattle.client_file_tables.specs.declared.pending.Pending.{Pending}
use Rattle.client_file_tables.specs.declared.pending.Pending.TheVariants as operations
use Rattle.client_file_tables.specs.declared.states.NameState.{NameState}
use Rattle.client_file_tables.specs.declared.states.NameState.TheVariants as states
use Rattle.client_file_tables.specs.Rows.{first_call, first_of, same_call, same_pid}
use Rattle.client_file_tables.specs.Steps.{owns}
use Rattle.client_names.specs.Answers.{is_for, takes_end}
use Rattle.client_procs.specs.Steps.{client_step}
use Rattle.cluster_wire.specs.Arriving.{Brings, reply_in, request_in}
use Rattle.cluster_wire.specs.declared.Arrived.TheVariants as arrived
use Rattle.cluster_kernels.specs.declared.KernelState.{KernelState}
use Rattle.cluster_kernels.specs.declared.KernelState.TheVariants as kernels
use Rattle.cluster_kernels.specs.declared.State.{State}
use Rattle.cluster_kernels.specs.Kernels.{image_put, kernel_step}
use Rattle.cluster_kernels.specs.States.{client_at, client_in, kernel_at}
use Rattle.sprite_cluster.specs.Everywhere.{OfAll}
use Rattle.sprite_cluster.specs.Reached.{At, Reached}
use Rattle.sprite_cluster.proofs.KernelLaws.{BeginsSo, IsOwn, Keeps, kernels_last, one_at}
use Rattle.sprite_cluster.proofs.ReachedLaws.{lasts_on}
use Rattle.prefix_laws.specs.Prefixes.{learned_by_call, learned_by_operation, learned_by_process, learned_from, learned_from_answer}
use Rattle.prefix_laws.proofs.LearnLaws.{clients_answered, clients_begin, clients_learn, images_leave}
use Rattle.broadcast_laws.specs.Broadcasts.{Parts}
use Rattle.broadcast_laws.proofs.Asking.{OperationAsks, RowsAsk, StateAsks, found_so}
use Rattle.reached_domains.specs.Domains.{RowsAreDomains, is_domain, serves}
use Rattle.reached_domains.proofs.CallLaws.{AsksAt, Fine}
use Rattle.reached_domains.proofs.DomainLaws.{all_stand, call_fine, client_is, client_stands, tells_served}
use Rattle.reached_domains.proofs.TurnLaws.{Stands, message_is, not_again}

abbrev pub AreDomains : Description → List Domain → Type 0
AreDomains c domains = AllByRecursion (λ (domain : Domain). is_domain c domain ≡ true) domains

-- ---- what an answer teaches

-- the answer to a call of that number, which that kernel gave: where the call asks for the server of a prefix, the kernel serves that
abbrev TellsOf : Description → Machine → TxNo → ℕ → Type 0
TellsOf c machine tx source = (prefix : Parts) → AsksAt c machine tx prefix → serves c source prefix ≡ true

module _ (c : Description) (machine : Machine) (tx : TxNo) (source : ℕ) (tells : TellsOf c machine tx source) where
  prefix_learned : (b : Bool) (prefix : Parts) → AsksAt c machine tx prefix → AreDomains c (cond b [] (domain prefix source ∷ []))
  prefix_learned true prefix asks = tt
  prefix_learned false prefix asks = (tells prefix asks, tt)

  -- a name call that waits for that very call
  state_learned : (state : NameState) (known : List Domain) → is_for tx state ≡ true → StateAsks (AsksAt c machine) state → AreDomains c (learned_by_call state source known)
  state_learned (states.Broadcasting own prefix) known same asks = prefix_learned (knows known prefix) prefix (subst (λ (n : ℕ). AsksAt c machine (record { 0 = n }) prefix) (eqb-true own.0 tx.0 same) asks)
  state_learned (states.Echoing own server) known same asks = tt
  state_learned (states.Asking own) known same asks = tt

  abbrev OptionAsks : Option Pending → Type 0
  OptionAsks (Some operation) = OperationAsks (AsksAt c machine) operation
  OptionAsks None = Unit {0}

  operation_learned : (o : Option Pending) (known : List Domain) → takes_end tx o ≡ true → OptionAsks o → AreDomains c (learned_by_operation o source known)
  operation_learned (Some (operations.Name call)) known takes asks = state_learned call.state known takes asks
  operation_learned (Some (operations.Data call)) known takes asks = tt
  operation_learned (Some (operations.Sync call)) known takes asks = tt
  operation_learned (Some (operations.Close work)) known takes asks = tt
  operation_learned (Some (operations.Move work)) known takes asks = tt
  operation_learned None known takes asks = tt

  taken_learned : (b : Bool) (o : Option Pending) (known : List Domain) → takes_end tx o ≡ b → OptionAsks o → AreDomains c (cond b (learned_by_operation o source known) [])
  taken_learned true o known takes asks = operation_learned o known takes asks
  taken_learned false o known takes asks = tt

  option_asks : (o : Option Pending) (pid : ℕ) (rows : List (ℕ × Pending)) → first_of pid rows ≡ o → RowsAsk (AsksAt c machine) rows → OptionAsks o
  option_asks (Some operation) pid rows e h = found_so (OperationAsks (AsksAt c machine)) (is_under same_pid pid) rows operation h e
  option_asks None pid rows e h = tt

  process_learned : (o : Option ℕ) (s : ClientFiles) → RowsAsk (AsksAt c machine) s.pending → AreDomains c (learned_by_process o tx source s.pending s.prefixes)
  process_learned None s h = tt
  process_learned (Some pid) s h = taken_learned (takes_end tx (first_of pid s.pending)) (first_of pid s.pending) s.prefixes refl (option_asks (first_of pid s.pending) pid s.pending refl h)

  back_or_not : (b : Bool) (s : ClientFiles) → RowsAsk (AsksAt c machine) s.pending → AreDomains c (cond b [] (learned_by_process (first_call tx s.txs) tx source s.pending s.prefixes))
  back_or_not true s h = tt
  back_or_not false s h = process_learned (first_call tx s.txs) s h

  own_or_not : (b : Bool) (s : ClientFiles) → RowsAsk (AsksAt c machine) s.pending → AreDomains c (cond b (learned_from_answer tx source s) [])
  own_or_not true s h = back_or_not (list_any (is_under same_call tx) s.write_backs) s h
  own_or_not false s h = tt

  pub reply_learned : (body : ReplyBody) (s : ClientFiles) → RowsAsk (AsksAt c machine) s.pending → AreDomains c (learned_from (inputs.Replied tx source body) s)
  reply_learned body s h = own_or_not (owns tx s) s h

tells_of : (c : Description) (machine : Machine) (tx : TxNo) (source : ℕ) (call : Call) → call_of machine tx ≡ Some call → Fine c call → is_some call.reply ≡ true → source ≡ call.owner → TellsOf c machine tx source
tells_of c machine tx source call e fine answered owner prefix asks = subst (λ (n : ℕ). serves c n prefix ≡ true) (sym owner) (tells_served c call prefix fine (asks.1 call.body (ap body_of e)) answered).served

-- ---- what a packet that came teaches

module _ (c : Description) (machine : Machine) (state : State) (stands : Stands c machine state) where
  abbrev pub Teaches : Input → Type 0
  Teaches input = (s : ClientFiles) → RowsAsk (AsksAt c machine) s.pending → AreDomains c (learned_from input s)

  request_teaches : (tx : TxNo) (from : ℕ) (body : Body) (input : Input) → arrived.Message input ≡ request_in tx from body → Teaches input
  request_teaches tx from (bodies.Request body) input e s asks = subst (λ (i : Input). AreDomains c (learned_from i s)) (message_is (inputs.Request tx from body) input (sym e)) tt
  request_teaches tx from (bodies.Reply body) input e s asks = absurd (cc)

  reply_teaches : (tx : TxNo) (from : ℕ) (body : Body) (input : Input) → arrived.Message input ≡ reply_in tx from body → TellsOf c machine tx from → Teaches input
  reply_teaches tx from (bodies.Reply body) input e tells s asks = subst (λ (i : Input). AreDomains c (learned_from i s)) (message_is (inputs.Replied tx from body) input (sym e)) (reply_learned c machine tx from tells body s asks)
  reply_teaches tx from (bodies.Request body) input e tells s asks = absurd (cc)

  answer_tells : (copy : PacketCopy) (message : Packet) → arrival machine copy ≡ FirstReply → IsMessage reading (reply_of (call_of machine copy.tx)) message → TellsOf c machine copy.tx message.from
  answer_tells copy message is reads =
      let got = first_reply copy (call_of machine copy.tx) is in
      let call : Call = got.0 in
      let fine : Fine c call = call_fine c machine state copy.tx call stands got.1 in
      let bytes : List ℕ = got.2.0 in
      let read : reading bytes ≡ Some message = subst (λ (o : Option (List ℕ)). IsMessage reading o message) (ap reply_of got.1 ∙ got.2.1) reads in
      let told = fine.answer bytes got.2.1 in
      tells_of c machine copy.tx message.from call got.1 fine (ap is_some got.2.1) (ap (λ (p : Packet). p.from) (sym (some_is told.packet message (sym told.reads ∙ read))) ∙ told.source)

  pub packet_teaches : (a : Arrival) (copy : PacketCopy) (input : Input) → arrival machine copy ≡ a → Brings a machine copy (arrived.Message input) → Teaches input
  packet_teaches FirstRequest copy input is brings s asks = request_teaches copy.tx brings.0.from brings.0.body input brings.2 s asks
  packet_teaches FirstReply copy input is brings s asks = reply_teaches copy.tx brings.0.from brings.0.body input brings.2 (answer_tells copy brings.0 is brings.1) s asks
  packet_teaches AskedAgain copy input is brings s asks = absurd (not_again input _ _ brings.0 brings.1)
  packet_teaches Past copy input is brings s asks = absurd (cc)

-- ---- a kernel

abbrev RowsFit : Description → ℕ → KernelState → Type 0
RowsFit c kernel (kernels.Client client) = AreDomains c client.files.prefixes
RowsFit c kernel (kernels.Server server) = Unit {0}

-- what a kernel takes teaches it domains, where it is a client
abbrev Learns : Description → Input → KernelState → Type 0
Learns c input (kernels.Client client) = AreDomains c (learned_from input client.files)
Learns c input (kernels.Server server) = Unit {0}

module _ (c : Description) where
  step_fits : (kernel : ℕ) (state : KernelState) (input : Input) (next : TxNo) (step : ℕ) → Learns c input state → RowsFit c kernel state → RowsFit c kernel (kernel_step state input next step).0
  step_fits kernel (kernels.Client client) input next step learns h =
      let grown : (client_step client input next step).0.files.prefixes ≡ client.files.prefixes ++ learned_from input client.files = (clients_learn client input next step).grown ∙ ap (λ (ds : List Domain). client.files.prefixes ++ ds) (clients_answered client input next step) in
      subst (AreDomains c) (sym grown) (each_append (λ (domain : Domain). is_domain c domain ≡ true) client.files.prefixes (learned_from input client.files) h learns)
  step_fits kernel (kernels.Server server) input next step learns h = tt

  image_fits : (kernel pid : ℕ) (image : processes.Machine) (state : KernelState) → RowsFit c kernel state → RowsFit c kernel (image_put pid image state)
  image_fits kernel pid image (kernels.Client client) h = subst (AreDomains c) (sym (images_leave client pid image)) h
  image_fits kernel pid image (kernels.Server server) h = tt

  -- what doesn't come from another kernel teaches nothing
  own_teaches : (input : Input) (files : ClientFiles) → IsOwn input → AreDomains c (learned_from input files)
  own_teaches (inputs.Request tx source body) files own = absurd own
  own_teaches (inputs.Replied tx source body) files own = absurd own
  own_teaches input files own = tt

  own_learns : (input : Input) (state : KernelState) → IsOwn input → Learns c input state
  own_learns input (kernels.Client client) own = own_teaches input client.files own
  own_learns input (kernels.Server server) own = tt

  rows_kept : Keeps (RowsFit c) (Learns c)
  rows_kept = record { steps = step_fits; images = image_fits; own = own_learns }

  rows_begin : BeginsSo c (RowsFit c)
  rows_begin [] kernel state e = subst (RowsFit c kernel) (sym e) (subst (AreDomains c) (sym (clients_begin c kernel)) tt)
  rows_begin (path ∷ paths) kernel (kernels.Server made) e = tt
  rows_begin (path ∷ paths) kernel (kernels.Client made) e = absurd e

-- ---- each reached cluster

module _ {L : Type 0} (faults asked : L → ℕ → ℕ → ℕ) (c : Description) (begun : L) where
  -- what comes to a kernel of a reached cluster teaches it domains
  learns : (kernel : ℕ) (old : At L) → 1 ≤ kernel → Reached faults asked c begun old → (copy : PacketCopy) (input : Input) → Brings (arrival old.wire.machine copy) old.wire.machine copy (arrived.Message input) → (state : KernelState) → kernel_at kernel old.state ≡ Some state → Learns c input state
  learns kernel old low reached copy input brings (kernels.Client client) e =
      let stands : Stands c old.wire.machine old.state = all_stand faults asked c begun old reached in
      let is : client_at kernel old.state ≡ Some client = ap client_in e in
      packet_teaches c old.wire.machine old.state stands (arrival old.wire.machine copy) copy input refl brings client.files
      (client_stands c old.wire.machine old.state kernel client low stands is).asks
  learns kernel old low reached copy input brings (kernels.Server server) e = tt

pub rows_are_domains : {L : Type 0} (faults asked : L → ℕ → ℕ → ℕ) → RowsAreDomains faults asked
rows_are_domains {L} faults asked c begun now kernel client low reached e =
    one_at (RowsFit c) kernel (kernels.Client client) now.state.kernels low
    (lasts_on faults asked c begun (λ (at : At L). OfAll (RowsFit c) 1 at.state.kernels) now (kernels_last faults asked c begun (RowsFit c) (Learns c) (rows_kept c) (rows_begin c) (learns faults asked c begun)) reached)
    (client_is (kernel_at kernel now.state) client e)
