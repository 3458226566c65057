-- What comes to a kernel it could take, and what a client could take is new there.
use Rattle.std.proofs.Common.{arith, ◌≡◌, ℕ, ◌+◌, ◌*◌, ◌<◌, ◌≤◌, Bool, true, false, ◌||◌, not, cond, List, length, Option, Some, None, is_some, slice_get, refl, sym, ap, ◌∙◌, subst}
use Rattle.std.proofs.lemmas.Bool.{and_parts, eq-eqb}
use Rattle.std.proofs.lemmas.Nat.{div-add-mod'}
use Rattle.std.specs.List.{list_any}
use Rattle.sprite_ids.specs.declared.CopyNo.{CopyNo}
use Rattle.sprite_ids.specs.declared.TxNo.{TxNo}
use Rattle.sprite_ids.specs.Pid.{home_of}
use Rattle.sprite_ids.proofs.ListLaws.{get_within, some_is}
use Rattle.process_machine.specs.declared.Reply.{Reply}
use Rattle.home_table.specs.declared.birth.Birth.{Birth}
use Rattle.home_table.specs.Home.{birth_at, index_of, was_born}
use Rattle.packet_bodies.specs.declared.HomeCall.{HomeCall}
use Rattle.packet_bodies.specs.declared.HomeCall.TheVariants as home_calls
use Rattle.packet_bodies.specs.declared.HomeRequest.{HomeRequest}
use Rattle.packet_bodies.specs.declared.ReplyBody.{ReplyBody}
use Rattle.wire_format.specs.declared.Packet.{Packet}
use Rattle.wire_format.specs.Packets.{reading}
use Rattle.kernel_rpc.specs.declared.call.Arrival.{Arrival}
use Rattle.kernel_rpc.specs.declared.call.Arrival.TheVariants.{FirstRequest, FirstReply, AskedAgain, Past}
use Rattle.kernel_rpc.specs.declared.PacketCopy.{PacketCopy}
use Rattle.kernel_rpc.specs.Bodies.{IsMessage, body_of, reply_of}
use Rattle.kernel_rpc.specs.Machine.{Machine, arrival, call_of}
use Rattle.kernel_rpc.specs.Sound.{Wired}
use Rattle.kernel_steps.specs.Rows.{first_under, is_under}
use Rattle.kernel_steps.specs.declared.Input.{Input}
use Rattle.kernel_steps.specs.declared.Input.TheVariants as inputs
use Rattle.unix_calls.specs.declared.Description.{Description}
use Rattle.client_file_tables.specs.Rows.{first_call}
use Rattle.client_file_tables.specs.Steps.{owns}
use Rattle.client_homes.specs.declared.ClientProcs.{ClientProcs}
use Rattle.client_homes.specs.declared.Unfinished.{Unfinished}
use Rattle.client_homes.specs.declared.Unfinished.TheVariants as unfinished
use Rattle.client_homes.specs.Homes.{is_native}
use Rattle.client_homes.specs.Issuing.{own_request}
use Rattle.client_homes.specs.Kills.{is_here}
use Rattle.client_homes.specs.Procs.{is_call, is_pid}
use Rattle.client_homes.specs.Words as words
use Rattle.client_procs.specs.Arriving as arriving
use Rattle.client_procs.specs.CanTake as taking
use Rattle.client_procs.specs.CanTake.{is_unopened, made_of, may_be_brought, may_come}
use Rattle.client_facts.specs.Places.{IsNew}
use Rattle.client_walks.specs.Hands as hands
use Rattle.client_walks.specs.Hands.{Nothing}
use Rattle.client_walks.specs.PlacesOnce.{InHand, IsBornAt}
use Rattle.cluster_wire.specs.Arriving.{Brings, copy_to, reply_in, request_in}
use Rattle.cluster_wire.specs.declared.Arrived.{Arrived}
use Rattle.cluster_wire.specs.declared.Arrived.TheVariants as arrived
use Rattle.cluster_kernels.specs.declared.State.{State}
use Rattle.cluster_kernels.specs.States.{can_take_at, noted_step}
use Rattle.cluster_choices.specs.Acts.{Comes, ComesSo, Given, TakesMessage, delivery}
use Rattle.sprite_cluster.specs.Steps.{begun_turn}
use Rattle.reached_clients.specs.Clients.{WhatComesCanBeTaken, WhatIsTakenIsNew}

-- ---- a copy brings one message

same_read : (o : Option (List ℕ)) (one other : Packet) → IsMessage reading o one → IsMessage reading o other → one ≡ other
same_read None one other h k = absurd h
same_read (Some bytes) one other h k = some_is one other (sym h ∙ k)

same_brought : (a : Arrival) (machine : Machine) (copy : PacketCopy) (input : Input) (what : Arrived) → Brings a machine copy (arrived.Message input) → Brings a machine copy what → what ≡ arrived.Message input
same_brought FirstRequest machine copy input what h k =
    k.2 ∙ sym (h.2 ∙ ap (λ (message : Packet). request_in copy.tx message.from message.body) (same_read (body_of (call_of machine copy.tx)) h.0 k.0 h.1 k.1))
same_brought FirstReply machine copy input what h k =
    k.2 ∙ sym (h.2 ∙ ap (λ (message : Packet). reply_in copy.tx message.from message.body) (same_read (reply_of (call_of machine copy.tx)) h.0 k.0 h.1 k.1))
same_brought AskedAgain machine copy input what h k = (let again = h.1 in absurd (cc))
same_brought Past machine copy input what h k = absurd (cc)

-- ---- what comes could be taken

module _ {L : Type 0} (faults asked : L → ℕ → ℕ → ℕ) (c : Description) (kernel : ℕ) where
  given_taken : (what : Arrived) (input : Input) (tx : TxNo) (old new : Wired L) (s t : State) → what ≡ arrived.Message input → Given faults asked c kernel tx what old new s t → can_take_at kernel input s ≡ true
  given_taken what input tx old new s t e g =
      let takes : TakesMessage faults asked c kernel tx input old new s t = subst (λ (w : Arrived). Given faults asked c kernel tx w old new s t) e g in
      takes.takes.taken

  came_taken : (o : Option PacketCopy) (number : CopyNo) (copy : PacketCopy) (input : Input) (old new : Wired L) (s t : State) → o ≡ Some copy → Brings (arrival old.machine copy) old.machine copy (arrived.Message input) → Comes faults asked c kernel number o old new s t → can_take_at kernel input s ≡ true
  came_taken o number copy input old new s t e brings g =
      let noted : State = noted_step kernel (delivery copy) s in
      let so : ComesSo faults asked c kernel number copy old new noted t = subst (λ (p : Option PacketCopy). Comes faults asked c kernel number p old new s t) e g in
      given_taken so.came input copy.tx so.between new noted t (same_brought (arrival old.machine copy) old.machine copy input so.came brings so.arrives.brings) so.given

pub comes_taken : {L : Type 0} (faults asked : L → ℕ → ℕ → ℕ) → WhatComesCanBeTaken faults asked
comes_taken faults asked c kernel number old now copy input goes there brings =
    came_taken faults asked c kernel (copy_to kernel old.wire.machine number) number copy input old.wire now.wire (begun_turn old.state) goes.changes.turn there brings goes.changes.happens

-- ---- a process that may come

off : (b : Bool) → not b ≡ true → b ≡ false
off false e = refl
off true e = absurd (cc)

new_so : (pid : ℕ) (s : ClientProcs) → arriving.is_new pid s ≡ true → IsNew pid s
new_so pid s e =
    let parts = and_parts (not (is_here pid s)) (not (list_any (is_under is_pid pid) s.leaving)) e in
    record { gone = off (is_here pid s) parts.0; stays = off (list_any (is_under is_pid pid) s.leaving) parts.1 }

born_at : (o : Option Birth) (births : List Birth) (at : ℕ) → slice_get births at ≡ o → is_some o ≡ true → at < length births
born_at None births at e h = absurd (cc)
born_at (Some birth) births at e h = get_within births at birth e

born_so : (s : ClientProcs) (pid : ℕ) → was_born s.home pid ≡ true → home_of pid ≡ s.home.home → pid ≤ 1000 * s.home.home + length s.home.births
born_so s pid h e =
    let under = born_at (birth_at s.home.births pid) s.home.births (index_of pid) refl h in
    let parts = div-add-mod' pid 1000 in
    omega arith

native_so : (b born : Bool) → b ≡ true → (not b || born) ≡ true → born ≡ true
native_so true born e h = h
native_so false born e h = absurd (cc)

comes_so : (pid : ℕ) (s : ClientProcs) → may_come pid s ≡ true → IsNew pid s × IsBornAt s.home pid
comes_so pid s e =
    let parts = and_parts (arriving.is_new pid s) (not (is_native pid s) || was_born s.home pid) e in
    (new_so pid s parts.0, λ mine. born_so s pid (native_so (is_native pid s) (was_born s.home pid) (eq-eqb (home_of pid) s.home.home mine) parts.1) mine)

-- ---- what a client can take

coming_so : (o : Option ℕ) (s : ClientProcs) → may_be_brought o s ≡ true → InHand (hands.coming_if o) s
coming_so None s e = tt
coming_so (Some pid) s e = (comes_so pid s e).1

holding_so : (o : Option ℕ) (s : ClientProcs) → may_be_brought o s ≡ true → InHand (hands.hand_of o) s
holding_so None s e = tt
holding_so (Some pid) s e = comes_so pid s e

same_forked : (call : HomeCall) (reply : Reply) → taking.forked call reply ≡ hands.forked call reply
same_forked home_calls.Fork reply = refl
same_forked call reply = refl

same_child : (o : Option HomeRequest) (reply : Reply) → taking.child_heard o reply ≡ hands.child_heard o reply
same_child None reply = refl
same_child (Some request) reply = same_forked request.call reply

heard_so : (o : Option Unfinished) (body : ReplyBody) (s : ClientProcs) → may_be_brought (taking.child_by o body s) s ≡ true → InHand (hands.heard o body s) s
heard_so None body s e = tt
heard_so (Some (unfinished.Home pid)) body s e =
    holding_so (hands.child_heard (own_request pid s) (words.reply_of body)) s (subst (λ (o : Option ℕ). may_be_brought o s ≡ true) (same_child (own_request pid s) (words.reply_of body)) e)
heard_so (Some call) body s e = tt

answer_so : (b : Bool) (tx : TxNo) (body : ReplyBody) (s : ClientProcs) → cond b (is_unopened (made_of (first_call tx s.files.txs) s.files) s.files) (may_be_brought (taking.child_by (first_under is_call tx s.unfinished) body s) s) ≡ true
    → InHand (cond b Nothing (hands.heard (first_under is_call tx s.unfinished) body s)) s
answer_so true tx body s e = tt
answer_so false tx body s e = heard_so (first_under is_call tx s.unfinished) body s e

pub taken_is_new : WhatIsTakenIsNew
taken_is_new s (inputs.Request tx source body) e = coming_so (arriving.brought body) s e
taken_is_new s (inputs.Replied tx source body) e = answer_so (owns tx s.files) tx body s e
taken_is_new s input e = tt
