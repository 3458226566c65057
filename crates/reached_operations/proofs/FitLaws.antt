-- What comes to a client of a reached cluster fits what its operation on files waits for.
use Rattle.std.proofs.Common.{◌≡◌, ℕ, ◌==◌, Bool, true, false, ◌||◌, not, List, Option, Some, None, refl, sym, ap, ◌∙◌, subst}
use Rattle.std.specs.List.{AllByRecursion}
use Rattle.std.proofs.lemmas.Bool.{eqb-true}
use Rattle.sprite_ids.specs.declared.Tries.{Tries}
use Rattle.sprite_ids.specs.declared.Tries.TheVariants.{Always}
use Rattle.sprite_ids.specs.declared.TxNo.{TxNo}
use Rattle.sprite_ids.proofs.ListLaws.{some_is}
use Rattle.packet_bodies.specs.declared.Body.{Body}
use Rattle.packet_bodies.specs.declared.Body.TheVariants as bodies
use Rattle.packet_bodies.specs.declared.ReplyBody.{ReplyBody}
use Rattle.packet_bodies.specs.declared.ReplyBody.TheVariants as replies
use Rattle.packet_bodies.specs.declared.Request.{Request}
use Rattle.packet_bodies.specs.declared.Request.TheVariants as requests
use Rattle.wire_format.specs.declared.Packet.{Packet}
use Rattle.wire_format.specs.Packets.{reading}
use Rattle.kernel_rpc.specs.declared.call.Arrival.{Arrival}
use Rattle.kernel_rpc.specs.declared.call.Arrival.TheVariants.{FirstRequest, FirstReply, AskedAgain, Past}
use Rattle.kernel_rpc.specs.declared.call.Call.{Call}
use Rattle.kernel_rpc.specs.declared.PacketCopy.{PacketCopy}
use Rattle.kernel_rpc.specs.Bodies.{IsMessage, reply_of}
use Rattle.kernel_rpc.specs.Machine.{Machine, arrival, call_of, is_call, is_last, is_last_of}
use Rattle.kernel_rpc.proofs.ArrivalLaws.{first_reply}
use Rattle.kernel_rpc.proofs.SoundLaws.{found_sound}
use Rattle.kernel_steps.specs.declared.Input.{Input}
use Rattle.kernel_steps.specs.declared.Input.TheVariants as inputs
use Rattle.unix_calls.specs.declared.Description.{Description}
use Rattle.client_file_tables.specs.declared.client_files.ClientFiles.{ClientFiles}
use Rattle.client_file_tables.specs.declared.pending.Pending.{Pending}
use Rattle.client_file_tables.specs.declared.pending.Pending.TheVariants as operations
use Rattle.client_file_tables.specs.declared.states.DataState.{DataState}
use Rattle.client_file_tables.specs.declared.states.DataState.TheVariants as states
use Rattle.client_file_tables.specs.declared.states.MoveState.{MoveState}
use Rattle.client_file_tables.specs.declared.states.MoveState.TheVariants as moves
use Rattle.client_file_tables.specs.declared.works.DataCall.{DataCall}
use Rattle.client_file_tables.specs.declared.moves.MoveWork.{MoveWork}
use Rattle.client_file_tables.specs.Rows.{first_call, first_of}
use Rattle.client_facts.specs.FileFacts.{data_asks, is_that_call, move_asks, own_call}
use Rattle.cluster_wire.specs.Arriving.{Brings, reply_in, request_in}
use Rattle.cluster_wire.specs.declared.Arrived.TheVariants as arrived
use Rattle.cluster_kernels.specs.States.{kernel_at}
use Rattle.cluster_steps.specs.Receivers.{is_for_servers, is_receiver}
use Rattle.server_walks.specs.Sorts.{fits, is_moved, is_op_reply}
use Rattle.file_walks.specs.Fits.{FitsItsCall, data_takes, is_move_answer, is_op_answer, may_end, move_takes, operation_of, takes_answer}
use Rattle.file_facts.proofs.BookLaws.{found_each}
use Rattle.operation_calls.specs.Requests.{is_move, is_op, sends_so, tries_of, wanted_of}
use Rattle.reached_domains.proofs.DomainLaws.{answers_fit, client_is}
use Rattle.reached_domains.proofs.TurnLaws.{message_is, not_again}
use Rattle.reached_operations.specs.Answered.{WhatComesFits, WhatIsGivenUpFits}
use Rattle.reached_operations.specs.Operations.{CallIs}
use Rattle.reached_operations.proofs.CallLaws.{asks_found}
use Rattle.reached_operations.proofs.OwnLaws.{Asks, RowAsks, client_asks}
use Rattle.reached_operations.proofs.ServedLaws.{IsServer, is_at_server, is_served, served_for, server_by}
use Rattle.reached_receivers.specs.Receivers.{GoesRight}
use Rattle.reached_receivers.proofs.ReceiverLaws.{calls_right}
use Rattle.sprite_cluster.specs.Reached.{At, Reached}

-- ---- an answer of a sort that the request may have is one that the operation takes

op_reply : (body : ReplyBody) → is_op_reply body ≡ true → is_op_answer body ≡ true
op_reply (replies.Again grant) e = refl
op_reply (replies.Refused why) e = refl
op_reply (replies.Value value) e = refl
op_reply body e = absurd (cc)

op_fits : (request : Request) (body : ReplyBody) → is_op request ≡ true → fits request body ≡ true → is_op_answer body ≡ true
op_fits (requests.Op r) body is fit = op_reply body fit
op_fits request body is fit = absurd (cc)

moved_reply : (body : ReplyBody) → is_moved body ≡ true → is_move_answer body ≡ true
moved_reply (replies.Moved grant many) e = refl
moved_reply body e = absurd (cc)

move_fits : (request : Request) (body : ReplyBody) → is_move request ≡ true → fits request body ≡ true → is_move_answer body ≡ true
move_fits (requests.Move r) body is fit = moved_reply body fit
move_fits request body is fit = absurd (cc)

-- what an answer to an operation's own call is to
pub record IsTo (operation : Pending) (body : ReplyBody) : Type 0 where
  pub request : Request
  pub asks : sends_so operation request ≡ true
  pub fit : fits request body ≡ true

pub same_tx : (one other : TxNo) → one.0 ≡ other.0 → one ≡ other
same_tx one other e = ap (λ n. record { 0 = n }) e

module _ (tx : TxNo) (body : ReplyBody) where
  or_takes : (b x : Bool) → (b ≡ true → x ≡ true) → (not b || x) ≡ true
  or_takes true x e = e refl
  or_takes false x e = refl

  data_so : (call : DataCall) (state : DataState) → call.state ≡ state → (is_served (operations.Data call) ≡ true → own_call (operations.Data call) ≡ Some tx → IsTo (operations.Data call) body) → data_takes tx state body ≡ true
  data_so call (states.AtServer own) e to =
      or_takes (own.0 == tx.0) (is_op_answer body) (λ same.
      let so : IsTo (operations.Data call) body = to (ap is_at_server e) (ap data_asks e ∙ ap (λ (t : TxNo). Some t) (same_tx own tx (eqb-true own.0 tx.0 same))) in
      op_fits so.request body (sym (ap (λ (state : DataState). sends_so (operations.Data (record call { state = state })) so.request) e) ∙ so.asks) so.fit)
  data_so call states.WaitLock e to = refl
  data_so call states.Turn e to = refl
  data_so call (states.Room other) e to = refl
  data_so call (states.Fetching other block) e to = refl

  move_so : (work : MoveWork) (state : MoveState) → work.state ≡ state → (is_served (operations.Move work) ≡ true → own_call (operations.Move work) ≡ Some tx → IsTo (operations.Move work) body) → move_takes tx state body ≡ true
  move_so work moves.WaitLock e to = refl
  move_so work (moves.MovingOut own kept place) e to =
      or_takes (own.0 == tx.0) (is_move_answer body) (λ same.
      let so : IsTo (operations.Move work) body = to refl (ap move_asks e ∙ ap (λ (t : TxNo). Some t) (same_tx own tx (eqb-true own.0 tx.0 same))) in
      move_fits so.request body (sym (ap (λ (state : MoveState). sends_so (operations.Move (record work { state = state })) so.request) e) ∙ so.asks) so.fit)

  pub operation_takes : (operation : Pending) → (is_served operation ≡ true → own_call operation ≡ Some tx → IsTo operation body) → takes_answer tx (Some operation) body ≡ true
  operation_takes (operations.Name call) to = refl
  operation_takes (operations.Data call) to = data_so call call.state refl to
  operation_takes (operations.Sync call) to = refl
  operation_takes (operations.Close work) to = refl
  operation_takes (operations.Move work) to = move_so work work.state refl to

-- ---- a call that is given up

pub last_tried : (tries : Tries) (lost : ℕ) → tries ≡ Always → is_last_of tries lost ≡ true → ⊥
last_tried tries lost e last = (let never : is_last_of tries lost ≡ false = ap (λ (t : Tries). is_last_of t lost) e in let both = sym never ∙ last in absurd (cc))

module _ (machine : Machine) (kernel : ℕ) (tx : TxNo) (call : Call) (found : call_of machine tx ≡ Some call) (last : is_last call ≡ true) where
  not_ended : (o : Option TxNo) (operation : Pending) (pid : ℕ) → own_call operation ≡ o → tries_of operation ≡ Always → RowAsks machine kernel (pid, operation) → not (is_that_call tx o) ≡ true
  not_ended None operation pid own lasts asks = refl
  not_ended (Some other) operation pid own lasts asks = by (other.0 == tx.0) refl
    where
      by : (b : Bool) → (other.0 == tx.0) ≡ b → not b ≡ true
      by false e = refl
      by true e =
          let mine : own_call operation ≡ Some tx = own ∙ ap (λ (t : TxNo). Some t) (same_tx other tx (eqb-true other.0 tx.0 e)) in
          let is : CallIs kernel (wanted_of operation) call = asks_found kernel (wanted_of operation) machine tx call (asks tx mine) found in
          absurd (last_tried call.tries call.lost (is.lasts ∙ lasts) last)

  operation_ends : (operation : Pending) (pid : ℕ) → RowAsks machine kernel (pid, operation) → may_end tx (Some operation) ≡ true
  operation_ends (operations.Name work) pid asks = refl
  operation_ends (operations.Data work) pid asks = not_ended (own_call (operations.Data work)) (operations.Data work) pid refl refl asks
  operation_ends (operations.Sync work) pid asks = not_ended (own_call (operations.Sync work)) (operations.Sync work) pid refl refl asks
  operation_ends (operations.Close work) pid asks = not_ended (own_call (operations.Close work)) (operations.Close work) pid refl refl asks
  operation_ends (operations.Move work) pid asks = not_ended (own_call (operations.Move work)) (operations.Move work) pid refl refl asks

  found_ends : (o : Option Pending) (pid : ℕ) (s : ClientFiles) → AllByRecursion (RowAsks machine kernel) s.pending → first_of pid s.pending ≡ o → may_end tx o ≡ true
  found_ends None pid s asks e = refl
  found_ends (Some operation) pid s asks e = operation_ends operation pid (found_each (RowAsks machine kernel) pid s.pending operation asks e)

  pub given_up_fits : (o : Option ℕ) (s : ClientFiles) → AllByRecursion (RowAsks machine kernel) s.pending → may_end tx (operation_of o s.pending) ≡ true
  given_up_fits None s asks = refl
  given_up_fits (Some pid) s asks = found_ends (first_of pid s.pending) pid s asks refl

pub what_is_given_up_fits : {L : Type 0} (faults asked : L → ℕ → ℕ → ℕ) → WhatIsGivenUpFits faults asked
what_is_given_up_fits faults asked c begun now kernel client tx call low reached e found last =
    let so : Asks None now.wire.machine kernel client = client_asks faults asked c begun now kernel client low reached (client_is (kernel_at kernel now.state) client e) in
    given_up_fits now.wire.machine kernel tx call found last (first_call tx client.files.txs) client.files so.rows

-- ---- an answer that comes

module _ {L : Type 0} (faults asked : L → ℕ → ℕ → ℕ) (c : Description) (begun : L) (now : At L) (reached : Reached faults asked c begun now) (kernel : ℕ) (files : ClientFiles) (rows : AllByRecursion (RowAsks now.wire.machine kernel) files.pending) where
  module _ (tx : TxNo) (body : ReplyBody) (call : Call) (reply : List ℕ) (packet : Packet) (found : call_of now.wire.machine tx ≡ Some call) (replied : call.reply ≡ Some reply) (read : reading reply ≡ Some packet) (is : packet.body ≡ bodies.Reply body) where
    is_to : (pid : ℕ) (operation : Pending) → first_of pid files.pending ≡ Some operation → is_served operation ≡ true → own_call operation ≡ Some tx → IsTo operation body
    is_to pid operation e serves_it own =
        let such : CallIs kernel (wanted_of operation) call = asks_found kernel (wanted_of operation) now.wire.machine tx call (found_each (RowAsks now.wire.machine kernel) pid files.pending operation rows e tx own) found in
        let right : GoesRight c call = found_sound (GoesRight c) (is_call tx) call now.wire.machine.unfinished found (calls_right faults asked c begun now reached) in
        let kind : is_for_servers right.request ≡ true = ap is_for_servers (some_is right.request such.request (sym right.asks ∙ such.reads)) ∙ served_for operation such.request serves_it such.asks in
        let server : IsServer c call.owner = server_by c call.owner (subst (λ (b : Bool). is_receiver c b call.owner ≡ true) kind right.owner) in
        record {
          request = such.request;
          asks = such.asks;
          fit = answers_fit faults asked c begun now tx call such.request reply packet body server.path reached found server.served such.reads replied read is;
        }

    found_fits : (o : Option Pending) (pid : ℕ) → first_of pid files.pending ≡ o → takes_answer tx o body ≡ true
    found_fits None pid e = refl
    found_fits (Some operation) pid e = operation_takes tx body operation (is_to pid operation e)

    answer_fits : (o : Option ℕ) → takes_answer tx (operation_of o files.pending) body ≡ true
    answer_fits None = refl
    answer_fits (Some pid) = found_fits (first_of pid files.pending) pid refl

  request_fits : (tx : TxNo) (from : ℕ) (body : Body) (input : Input) → arrived.Message input ≡ request_in tx from body → FitsItsCall input files
  request_fits tx from (bodies.Request body) input e = subst (λ (i : Input). FitsItsCall i files) (message_is (inputs.Request tx from body) input (sym e)) tt
  request_fits tx from (bodies.Reply body) input e = absurd (cc)

  reply_fits : (copy : PacketCopy) (message : Packet) (body : Body) (input : Input) → message.body ≡ body → arrival now.wire.machine copy ≡ FirstReply → IsMessage reading (reply_of (call_of now.wire.machine copy.tx)) message → arrived.Message input ≡ reply_in copy.tx message.from body → FitsItsCall input files
  reply_fits copy message (bodies.Reply body) input is arrives reads e =
      let got = first_reply copy (call_of now.wire.machine copy.tx) arrives in
      let call : Call = got.0 in
      let read : reading got.2.0 ≡ Some message = subst (λ (o : Option (List ℕ)). IsMessage reading o message) (ap reply_of got.1 ∙ got.2.1) reads in
      subst (λ (i : Input). FitsItsCall i files) (message_is (inputs.Replied copy.tx message.from body) input (sym e)) (answer_fits copy.tx body call got.2.0 message got.1 got.2.1 read is (first_call copy.tx files.txs))
  reply_fits copy message (bodies.Request body) input is arrives reads e = absurd (cc)

  pub message_fits : (a : Arrival) (copy : PacketCopy) (input : Input) → arrival now.wire.machine copy ≡ a → Brings a now.wire.machine copy (arrived.Message input) → FitsItsCall input files
  message_fits FirstRequest copy input is brings = request_fits copy.tx brings.0.from brings.0.body input brings.2
  message_fits FirstReply copy input is brings = reply_fits copy brings.0 brings.0.body input refl is brings.1 brings.2
  message_fits AskedAgain copy input is brings = absurd (not_again input _ _ brings.0 brings.1)
  message_fits Past copy input is brings = absurd (cc)

pub what_comes_fits : {L : Type 0} (faults asked : L → ℕ → ℕ → ℕ) → WhatComesFits faults asked
what_comes_fits faults asked c begun now kernel client copy input low reached e brings =
    let so : Asks None now.wire.machine kernel client = client_asks faults asked c begun now kernel client low reached (client_is (kernel_at kernel now.state) client e) in
    message_fits faults asked c begun now reached kernel client.files so.rows (arrival now.wire.machine copy) copy input refl brings
