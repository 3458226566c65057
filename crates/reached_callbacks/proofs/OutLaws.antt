-- The callbacks that are out at each server are its unfinished remote calls: so it is through each turn.
use Rattle.std.proofs.Common.{arith, ◌≡◌, ℕ, ◌+◌, ◌-◌, ◌≤◌, ◌==◌, Bool, true, false, cond, List, [], ◌∷◌, ◌++◌, map, slice_get, Option, Some, None, refl, sym, ap, ap₂, subst, ◌∙◌, true≢false, append-nil, append_assoc}
use Rattle.std.proofs.lemmas.Bool.{eqb-true}
use Rattle.std.specs.List.{AllByRecursion, find}
use Rattle.sprite_ids.specs.declared.CopyNo.{CopyNo}
use Rattle.sprite_ids.specs.declared.Flushed.{Flushed}
use Rattle.sprite_ids.specs.declared.Tries.{Tries}
use Rattle.sprite_ids.specs.declared.Tries.TheVariants.{Always}
use Rattle.sprite_ids.specs.declared.TxNo.{TxNo}
use Rattle.sprite_ids.specs.Lists.{changed, less}
use Rattle.sprite_ids.proofs.ListLaws.{each_push, some_is}
use Rattle.sprite_paths.specs.declared.Path.{Path}
use Rattle.link_plan.specs.declared.Fate.TheVariants.{Once}
use Rattle.process_machine.specs.Machine as processes
use Rattle.packet_bodies.specs.About.{about_of}
use Rattle.packet_bodies.specs.declared.Body.TheVariants as bodies
use Rattle.packet_bodies.specs.declared.CallbackRequest.{CallbackRequest}
use Rattle.packet_bodies.specs.declared.ReplyBody.{ReplyBody}
use Rattle.packet_bodies.specs.declared.ReplyBody.TheVariants as replies
use Rattle.packet_bodies.specs.declared.Request.{Request}
use Rattle.packet_bodies.specs.declared.Request.TheVariants as requests
use Rattle.wire_format.specs.declared.Packet.{Packet}
use Rattle.wire_format.specs.Packets.{reading, spelling}
use Rattle.wire_format.specs.PacketLaws.{spelled_is_read}
use Rattle.kernel_rpc.specs.declared.call.Arrival.TheVariants.{FirstReply, FirstRequest}
use Rattle.kernel_rpc.specs.declared.call.Call.{Call}
use Rattle.kernel_rpc.specs.declared.call.PacketCopy.{PacketCopy}
use Rattle.kernel_rpc.specs.declared.call.Part.{Part}
use Rattle.kernel_rpc.specs.declared.call.Part.TheVariants.{Answered, Holding, Silent, Waiting}
use Rattle.kernel_rpc.specs.declared.call.Receiver.{Receiver}
use Rattle.kernel_rpc.specs.Histories.{reached}
use Rattle.kernel_rpc.specs.Machine.{Machine, answered, arrival, arrival_again, arrival_at, arrival_back, arrival_of, call_of, copy_of, further, idle, is_call, is_last, is_last_of, new_call, part_of, tried}
use Rattle.kernel_rpc.specs.Runs.{Act, Counts, Deliver, Expire, Silence, after}
use Rattle.kernel_rpc.specs.Sound.{Wired}
use Rattle.kernel_rpc.proofs.ComeLaws.{kernels_kept}
use Rattle.kernel_rpc.proofs.CopyLaws.{each_without}
use Rattle.kernel_rpc.proofs.PartLaws.{eq_same}
use Rattle.kernel_rpc.proofs.RunLaws.{Ordered, ordered_after}
use Rattle.kernel_rpc.proofs.SoundLaws.{found_is, found_sound}
use Rattle.kernel_rpc.proofs.TryLaws.{each_kept}
use Rattle.kernel_steps.specs.declared.Input.{Input}
use Rattle.kernel_steps.specs.declared.Input.TheVariants as inputs
use Rattle.kernel_steps.specs.declared.Out.{Out}
use Rattle.kernel_steps.specs.declared.Sending.{Sending}
use Rattle.kernel_steps.specs.Outs.{started}
use Rattle.kernel_steps.specs.Rows.{is_under}
use Rattle.unix_calls.specs.declared.Description.{Description}
use Rattle.server_kernel.specs.declared.CallOut.{CallOut}
use Rattle.server_kernel.specs.declared.Server.{Server}
use Rattle.server_kernel.specs.Boot.{boots, serves_of}
use Rattle.server_kernel.specs.Directory.{Parts}
use Rattle.server_kernel.specs.Steps.{server_step}
use Rattle.server_kernel.specs.Waits as waits
use Rattle.server_walks.proofs.BootWalk.{KeepsBoot, server_begins}
use Rattle.kept_requests.specs.Callbacks.{AreSent, IsSent, left_by, left_out}
use Rattle.kept_requests.proofs.CallbackLaws.{step_calls_back}
use Rattle.cluster_wire.specs.Calling.{IsBegin}
use Rattle.cluster_wire.specs.Goings.{Going, call_to, goes, goes_by, next_of, other_than, owner_of, packet_to}
use Rattle.cluster_wire.specs.Ran.{EachDone}
use Rattle.cluster_wire.specs.Replying.{IsAnswer, goes_back}
use Rattle.cluster_wire.specs.declared.Said.{Said}
use Rattle.cluster_kernels.specs.declared.KernelState.{KernelState}
use Rattle.cluster_kernels.specs.declared.KernelState.TheVariants as kernels
use Rattle.cluster_kernels.specs.declared.State.{State}
use Rattle.cluster_kernels.specs.Booted.{IsKernel}
use Rattle.cluster_kernels.specs.Kernels.{image_put, kernel_step}
use Rattle.cluster_kernels.specs.States.{count_at, image_put_at, kernel_at, stepped, stepped_by}
use Rattle.cluster_steps.specs.Steps.{GoesOut, TakesSo}
use Rattle.sprite_cluster.specs.Everywhere.{OfAll}
use Rattle.sprite_cluster.specs.Reached.{At, Reached}
use Rattle.sprite_cluster.proofs.KernelLaws.{IsOwn, all_at, all_weaken, booted, one_at}
use Rattle.reached_domains.specs.Domains.{asked_request, request_read}
use Rattle.stall_laws.proofs.CallLaws.{Bears, answers_keep, ordered_run}
use Rattle.stall_laws.proofs.KernelLaws.{But, all_at_their_places, all_two, set_at}
use Rattle.reached_callbacks.specs.Callbacks.{BringsFlushed, CallsBack, callback_by, callbacks_of}
use Rattle.reached_callbacks.proofs.BackLaws.{replies_go}
use Rattle.reached_callbacks.proofs.FlushedLaws.{callbacks_flushed}
use Rattle.reached_callbacks.proofs.MachineLaws.{answered_calls, asked_calls, given_up_calls, passed_calls, replied_calls, tried_calls}
use Rattle.reached_callbacks.proofs.RowLaws.{none_elsewhere, one_here, rows_changed, rows_gone, rows_less, rows_push}
use Rattle.reached_callbacks.proofs.TurnWalk.{Turns, of_reached}

abbrev Rows : Type 0
Rows = List (TxNo × CallOut)

-- each remote call of the kernel is a callback
abbrev pub Sent : ℕ → Call → Type 0
Sent kernel call = call.from ≡ kernel → CallsBack call

sent_further : (kernel at : ℕ) (part : Part) (call : Call) → Sent kernel call → Sent kernel (further at part call)
sent_further kernel at part call k from = let so = k from in record { request = so.request; asks = so.asks; lasts = so.lasts; alone = kernels_kept at part call.receivers ∙ so.alone }

sent_tried : (kernel : ℕ) (call : Call) → Sent kernel call → Sent kernel (tried call)
sent_tried kernel call k from = let so = k from in record { request = so.request; asks = so.asks; lasts = so.lasts; alone = so.alone }

sent_answered : (kernel : ℕ) (reply : List ℕ) (call : Call) → Sent kernel call → Sent kernel (answered reply call)
sent_answered kernel reply call k from = let so = k from in record { request = so.request; asks = so.asks; lasts = so.lasts; alone = kernels_kept call.owner Answered call.receivers ∙ so.alone }

sent_bears : (kernel : ℕ) → Bears (Sent kernel)
sent_bears kernel = record {
  tried_so = λ call k. sent_tried kernel call k;
  silent_so = λ at call k. sent_further kernel at Silent call k;
  answered_so = λ reply call k. sent_answered kernel reply call k;
}

-- how many callbacks a kernel has, and that they are its calls, goes on from some calls to others
record Went (kernel : ℕ) (old new : List Call) (more : Rows) : Type 0 where
  rows : callbacks_of kernel new ≡ callbacks_of kernel old ++ more
  calls : AllByRecursion (Sent kernel) old → AllByRecursion (Sent kernel) new

went_same : (kernel : ℕ) (old new : List Call) → new ≡ old → Went kernel old new []
went_same kernel old new same = record { rows = ap (callbacks_of kernel) same ∙ sym (append-nil (callbacks_of kernel old)); calls = λ h. subst (AllByRecursion (Sent kernel)) (sym same) h }

went_on : (kernel : ℕ) (old new last : List Call) (more rest : Rows) → Went kernel old new more → Went kernel new last rest → Went kernel old last (more ++ rest)
went_on kernel old new last more rest first second = record {
  rows = second.rows ∙ (ap (λ (rows : Rows). rows ++ rest) first.rows ∙ append_assoc (callbacks_of kernel old) more rest);
  calls = λ h. second.calls (first.calls h);
}

-- ---- calls begin

module _ (c : Description) (kernel : ℕ) where
  abbrev begun_call : (machine : Machine) (going : Going) (act : Act) → IsBegin kernel machine going act → Call
  begun_call machine going act is = new_call machine kernel is.port going.servers going.owner (spelling (packet_to kernel (next_of machine) going)) going.tries (about_of going.body) is.before

  begun_calls : (machine : Machine) (going : Going) (act : Act) (is : IsBegin kernel machine going act) → (after machine act).unfinished ≡ machine.unfinished ++ begun_call machine going act is ∷ []
  begun_calls machine going act is = ap (λ (a : Act). (after machine a).unfinished) is.is

  begun_count : (machine : Machine) (going : Going) (act : Act) (is : IsBegin kernel machine going act) → (after machine act).begun ≡ machine.begun + 1
  begun_count machine going act is = ap (λ (a : Act). (after machine a).begun) is.is

  -- another kernel's
  others_begin : (other : ℕ) → (kernel ≡ other → ⊥) → (sendings : List Sending) (machine : Machine) (steps : List (Act × Counts)) → EachDone (λ (machine : Machine) (sending : Sending). goes c kernel sending) (IsBegin kernel) sendings machine steps
      → Went other machine.unfinished (reached machine steps).unfinished []
  others_begin other off [] machine steps e = went_same other machine.unfinished (reached machine steps).unfinished (ap (λ (all : List (Act × Counts)). (reached machine all).unfinished) e)
  others_begin other off (sending ∷ sendings) machine [] e = absurd e
  others_begin other off (sending ∷ sendings) machine (step ∷ steps) e =
      went_on other machine.unfinished (after machine step.0).unfinished (reached (after machine step.0) steps).unfinished [] [] first (others_begin other off sendings (after machine step.0) steps e.1)
    where
      new : Call
      new = begun_call machine e.0.way step.0 e.0.done

      apart : (b : Bool) → (kernel == other) ≡ b → b ≡ false
      apart true is = absurd (off (eqb-true kernel other is))
      apart false is = refl

      first : Went other machine.unfinished (after machine step.0).unfinished []
      first = subst (λ (calls : List Call). Went other machine.unfinished calls []) (sym (begun_calls machine e.0.way step.0 e.0.done)) (record {
        rows = rows_push other machine.unfinished new ∙ ap (λ (rows : Rows). callbacks_of other machine.unfinished ++ rows) (none_elsewhere other new (apart (kernel == other) refl));
        calls = λ h. each_push (Sent other) machine.unfinished new h (λ same. absurd (off same));
      })

  -- its own, which are callbacks
  alone_to : (k : ℕ) (sending : Sending) (going : Going) (b : Bool) → call_to (cond b None (Some k)) sending ≡ Some going → going ≡ record { servers = k ∷ []; to = k; owner = k; tries = sending.tries; body = sending.body }
  alone_to k sending going true e = absurd (cc)
  alone_to k sending going false e = sym (some_is (record { servers = k ∷ []; to = k; owner = k; tries = sending.tries; body = sending.body }) going e)

  going_is : (number : ℕ) (row : TxNo × CallOut) (sending : Sending) (going : Going) → IsSent number row sending → goes c kernel sending ≡ Some going → going ≡ record { servers = row.1.kernel ∷ []; to = row.1.kernel; owner = row.1.kernel; tries = sending.tries; body = sending.body }
  going_is number row sending going is planned =
      alone_to row.1.kernel sending going (row.1.kernel == kernel)
      (subst (λ (to : List ℕ). call_to (other_than kernel to) sending ≡ Some going) is.one (subst (λ (body : Request). goes_by (owner_of c body) kernel sending ≡ Some going) is.body planned))

  one_begins : (machine : Machine) (row : TxNo × CallOut) (sending : Sending) (going : Going) (act : Act) → IsSent (machine.begun + 1) row sending → goes c kernel sending ≡ Some going → (is : IsBegin kernel machine going act)
      → (callback_by kernel (begun_call machine going act is) ≡ row ∷ []) × CallsBack (begun_call machine going act is)
  one_begins machine row sending going act sent planned is = (
    one_here kernel new request refl asks ∙ ap₂ (λ (tx : TxNo) (owner : ℕ). (tx, record { file = row.1.file; kernel = owner }) ∷ []) (ap (λ n. record { 0 = n }) (sym sent.numbered)) (ap (λ (g : Going). g.owner) way),
    record { request = request; asks = asks; lasts = ap (λ (g : Going). g.tries) way ∙ sent.lasts; alone = alone },
  )
    where
      new : Call
      new = begun_call machine going act is

      way : going ≡ record { servers = row.1.kernel ∷ []; to = row.1.kernel; owner = row.1.kernel; tries = sending.tries; body = sending.body }
      way = going_is (machine.begun + 1) row sending going sent planned

      request : CallbackRequest
      request = record { file = row.1.file; stamp = sent.stamp; kind = sent.kind }

      asks : asked_request new.body ≡ Some (requests.Callback request)
      asks = ap request_read (spelled_is_read (packet_to kernel (next_of machine) going) is.is_packet) ∙ ap (λ (body : Request). Some body) (ap (λ (g : Going). g.body) way ∙ sent.body)

      alone : map (λ (receiver : Receiver). receiver.kernel) new.receivers ≡ new.owner ∷ []
      alone = subst (λ (g : Going). map (λ (receiver : Receiver). receiver.kernel) (new_call machine kernel is.port g.servers g.owner (spelling (packet_to kernel (next_of machine) going)) going.tries (about_of going.body) is.before).receivers ≡ g.owner ∷ []) (sym way) refl

  own_begin : (rows : Rows) (sendings : List Sending) (machine : Machine) (steps : List (Act × Counts)) → AreSent (machine.begun + 1) rows sendings → EachDone (λ (machine : Machine) (sending : Sending). goes c kernel sending) (IsBegin kernel) sendings machine steps
      → Went kernel machine.unfinished (reached machine steps).unfinished rows
  own_begin [] [] machine steps sent e = went_same kernel machine.unfinished (reached machine steps).unfinished (ap (λ (all : List (Act × Counts)). (reached machine all).unfinished) e)
  own_begin (row ∷ rows) (sending ∷ sendings) machine [] sent e = absurd e
  own_begin (row ∷ rows) (sending ∷ sendings) machine (step ∷ steps) sent e =
      went_on kernel machine.unfinished (after machine step.0).unfinished (reached (after machine step.0) steps).unfinished (row ∷ []) rows first
      (own_begin rows sendings (after machine step.0) steps (subst (λ n. AreSent (n + 1) rows sendings) (sym (begun_count machine e.0.way step.0 e.0.done)) sent.1) e.1)
    where
      new : Call
      new = begun_call machine e.0.way step.0 e.0.done

      so : (callback_by kernel new ≡ row ∷ []) × CallsBack new
      so = one_begins machine row sending e.0.way step.0 sent.0 e.0.planned e.0.done

      first : Went kernel machine.unfinished (after machine step.0).unfinished (row ∷ [])
      first = subst (λ (calls : List Call). Went kernel machine.unfinished calls (row ∷ [])) (sym (begun_calls machine e.0.way step.0 e.0.done)) (record {
        rows = rows_push kernel machine.unfinished new ∙ ap (λ (more : Rows). callbacks_of kernel machine.unfinished ++ more) so.0;
        calls = λ h. each_push (Sent kernel) machine.unfinished new h (λ same. so.1);
      })
  own_begin [] (sending ∷ sendings) machine steps sent e = absurd sent
  own_begin (row ∷ rows) [] machine steps sent e = absurd sent

-- ---- calls are answered

answers_rows : (other kernel : ℕ) (answers : List (TxNo × ReplyBody)) (machine : Machine) (steps : List (Act × Counts)) → EachDone (goes_back kernel) IsAnswer answers machine steps → callbacks_of other (reached machine steps).unfinished ≡ callbacks_of other machine.unfinished
answers_rows other kernel [] machine steps e = ap (λ (all : List (Act × Counts)). callbacks_of other (reached machine all).unfinished) e
answers_rows other kernel (answer ∷ answers) machine [] e = absurd e
answers_rows other kernel (answer ∷ answers) machine (step ∷ steps) e =
    let reply : List ℕ = spelling e.0.way in
    answers_rows other kernel answers (after machine step.0) steps e.1
    ∙ (ap (λ (a : Act). callbacks_of other (after machine a).unfinished) e.0.done.is
    ∙ (ap (callbacks_of other) (answered_calls machine e.0.way.tx reply e.0.done.given) ∙ rows_changed other (is_call e.0.way.tx) (answered reply) (λ call. refl) machine.unfinished))

answers_went : (other kernel : ℕ) (answers : List (TxNo × ReplyBody)) (machine : Machine) (steps : List (Act × Counts)) → EachDone (goes_back kernel) IsAnswer answers machine steps → Went other machine.unfinished (reached machine steps).unfinished []
answers_went other kernel answers machine steps e = record {
  rows = answers_rows other kernel answers machine steps e ∙ sym (append-nil (callbacks_of other machine.unfinished));
  calls = λ h. answers_keep (Sent other) (sent_bears other) kernel answers machine steps e h;
}

-- ---- a cluster

pub record ServerSo (machine : Machine) (kernel : ℕ) (s : Server) : Type 0 where
  pub rows : s.callbacks ≡ callbacks_of kernel machine.unfinished
  pub calls : AllByRecursion (Sent kernel) machine.unfinished

abbrev pub KernelSo : Machine → ℕ → KernelState → Type 0
KernelSo machine kernel (kernels.Server server) = ServerSo machine kernel server
KernelSo machine kernel (kernels.Client client) = Unit {0}

pub record Stands (machine : Machine) (s : State) : Type 0 where
  pub ordered : Ordered machine
  pub kernels : OfAll (KernelSo machine) 1 s.kernels

-- the kernel has an input in hand: a reply took its row away
record InHand (input : Input) (machine : Machine) (kernel : ℕ) (s : Server) : Type 0 where
  rows : left_out input s.callbacks ≡ callbacks_of kernel machine.unfinished
  calls : AllByRecursion (Sent kernel) machine.unfinished

record Hand (kernel : ℕ) (input : Input) (machine : Machine) (s : State) : Type 0 where
  ordered : Ordered machine
  others : OfAll (But (KernelSo machine) kernel) 1 s.kernels
  own : (server : Server) → kernel_at kernel s ≡ Some (kernels.Server server) → InHand input machine kernel server

-- what is so of all but one, and of that one
rejoin : (F : ℕ → KernelState → Type 0) (kernel : ℕ) (states : List KernelState) → OfAll (But F kernel) 1 states → ((state : KernelState) → slice_get states (kernel - 1) ≡ Some state → F kernel state) → OfAll F 1 states
rejoin F kernel states h own =
    all_two (But F kernel) (λ other state. slice_get states (other - 1) ≡ Some state) F (λ other state k e. by other state k e (kernel == other) refl) states 1 h (all_at_their_places states)
  where
    by : (other : ℕ) (state : KernelState) → But F kernel other state → slice_get states (other - 1) ≡ Some state → (b : Bool) → (kernel == other) ≡ b → F other state
    by other state k e true is =
        let same : kernel ≡ other = eqb-true kernel other is in
        subst (λ n. F n state) same (own state (subst (λ n. slice_get states (n - 1) ≡ Some state) (sym same) e))
    by other state k e false off = k (λ same. true≢false (sym (ap (λ n. kernel == n) same ∙ eq_same kernel) ∙ off))

server_on : (old new : Machine) (kernel : ℕ) (s : Server) → Went kernel old.unfinished new.unfinished [] → ServerSo old kernel s → ServerSo new kernel s
server_on old new kernel s w h = record { rows = h.rows ∙ sym (w.rows ∙ append-nil (callbacks_of kernel old.unfinished)); calls = w.calls h.calls }

kernel_on : (old new : Machine) (kernel : ℕ) (state : KernelState) → Went kernel old.unfinished new.unfinished [] → KernelSo old kernel state → KernelSo new kernel state
kernel_on old new kernel (kernels.Server server) w h = server_on old new kernel server w h
kernel_on old new kernel (kernels.Client client) w h = tt

all_on : (old new : Machine) (states : List KernelState) → ((kernel : ℕ) → Went kernel old.unfinished new.unfinished []) → OfAll (KernelSo old) 1 states → OfAll (KernelSo new) 1 states
all_on old new states went h = all_weaken (KernelSo old) (KernelSo new) (λ kernel state k. kernel_on old new kernel state (went kernel) k) states 1 h

others_on : (old new : Machine) (kernel : ℕ) (states : List KernelState) → ((other : ℕ) → (kernel ≡ other → ⊥) → Went other old.unfinished new.unfinished []) → OfAll (But (KernelSo old) kernel) 1 states → OfAll (But (KernelSo new) kernel) 1 states
others_on old new kernel states went h = all_weaken (But (KernelSo old) kernel) (But (KernelSo new) kernel) (λ other state k off. kernel_on old new other state (went other (λ same. off (sym same))) (k off)) states 1 h

but_all : (machine : Machine) (kernel : ℕ) (states : List KernelState) → OfAll (KernelSo machine) 1 states → OfAll (But (KernelSo machine) kernel) 1 states
but_all machine kernel states h = all_weaken (KernelSo machine) (But (KernelSo machine) kernel) (λ other state k off. k) states 1 h

left_same : (input : Input) (rows : Rows) → IsOwn input → left_out input rows ≡ rows
left_same (inputs.Replied tx source body) rows own = absurd own
left_same input rows own = refl

-- calls that go on
went_changed : (kernel : ℕ) (p : Call → Bool) (f : Call → Call) (calls : List Call) → ((call : Call) → callback_by kernel (f call) ≡ callback_by kernel call) → ((call : Call) → Sent kernel call → Sent kernel (f call)) → Went kernel calls (changed p f calls) []
went_changed kernel p f calls same so = record { rows = rows_changed kernel p f same calls ∙ sym (append-nil (callbacks_of kernel calls)); calls = λ h. each_kept (Sent kernel) p f so calls h }

-- a call of another kernel is finished
went_less : (kernel : ℕ) (tx : TxNo) (call : Call) (calls : List Call) → find (is_call tx) calls ≡ Some call → (call.from ≡ kernel → ⊥) → Went kernel calls (less (is_call tx) calls) []
went_less kernel tx call calls there off = record {
  rows = rows_gone kernel tx call calls there (none_elsewhere kernel call (apart (call.from == kernel) refl)) ∙ sym (append-nil (callbacks_of kernel calls));
  calls = λ h. each_without (Sent kernel) (is_call tx) calls h;
}
  where
    apart : (b : Bool) → (call.from == kernel) ≡ b → b ≡ false
    apart true is = absurd (off (eqb-true call.from kernel is))
    apart false is = refl

not_last : (tries : Tries) (lost : ℕ) → tries ≡ Always → is_last_of tries lost ≡ true → ⊥
not_last tries lost e last = let off : is_last_of Always lost ≡ true = sym (ap (λ (t : Tries). is_last_of t lost) e) ∙ last in absurd (cc)

-- a reply that comes is a copy of a reply
reply_flag : (copy : PacketCopy) (o : Option Call) → arrival_of copy o ≡ FirstReply → copy.reply ≡ true
reply_flag copy None e = absurd (cc)
reply_flag copy (Some call) e = by copy.reply (part_of copy.to call.receivers) call.reply e
  where
    again : (reply : Option (List ℕ)) → arrival_again reply ≡ FirstReply → false ≡ true
    again None f = absurd (cc)
    again (Some reply) f = absurd (cc)

    by : (b : Bool) (part : Option Part) (reply : Option (List ℕ)) → cond b (arrival_back reply) (arrival_at part reply) ≡ FirstReply → b ≡ true
    by true part reply f = refl
    by false None reply f = absurd (cc)
    by false (Some Waiting) reply f = absurd (cc)
    by false (Some Holding) reply f = absurd (cc)
    by false (Some Silent) reply f = absurd (cc)
    by false (Some Answered) reply f = again reply f

reply_body : (one other : ReplyBody) → bodies.Reply one ≡ bodies.Reply other → one ≡ other
reply_body one other e = cc

module _ {L : Type 0} (faults asked : L → ℕ → ℕ → ℕ) (c : Description) (kernel : ℕ) (low : 1 ≤ kernel) where
  own_server : (machine : Machine) (s : State) (server : Server) → Stands machine s → kernel_at kernel s ≡ Some (kernels.Server server) → ServerSo machine kernel server
  own_server machine s server h e = one_at (KernelSo machine) kernel (kernels.Server server) s.kernels low h.kernels e

  -- with an input that takes no row away
  in_hand : (input : Input) (machine : Machine) (s : State) → ((rows : Rows) → left_out input rows ≡ rows) → Stands machine s → Hand kernel input machine s
  in_hand input machine s same h = record {
    ordered = h.ordered;
    others = but_all machine kernel s.kernels h.kernels;
    own = λ server e. let so = own_server machine s server h e in record { rows = same server.callbacks ∙ so.rows; calls = so.calls };
  }

  acted : (act : Act) (first : Machine) (s : State) → ((other : ℕ) → Went other first.unfinished (after first act).unfinished []) → Stands first s → Stands (after first act) s
  acted act first s went h = record { ordered = ordered_after first act h.ordered; kernels = all_on first (after first act) s.kernels went h.kernels }

  went_is : (other : ℕ) (old mid new : List Call) → new ≡ mid → Went other old mid [] → Went other old new []
  went_is other old mid new same w = subst (λ (calls : List Call). Went other old calls []) (sym same) w

  -- ---- what is said goes out

  others_out : (out : Out) (old new : Wired L) (said : Said) → GoesOut faults asked c kernel out old new said → (other : ℕ) → (kernel ≡ other → ⊥) → Went other old.machine.unfinished new.machine.unfinished []
  others_out out old new said g other off =
      went_on other old.machine.unfinished g.between.machine.unfinished new.machine.unfinished [] []
      (subst (λ (machine : Machine). Went other old.machine.unfinished machine.unfinished []) (sym g.requests.ran.reaches) (others_begin c kernel other off out.sends old.machine g.requests.steps g.requests.each))
      (subst (λ (machine : Machine). Went other g.between.machine.unfinished machine.unfinished []) (sym g.answers.ran.reaches) (answers_went other kernel out.answers g.between.machine g.answers.steps g.answers.each))

  own_out : (rows : Rows) (out : Out) (old new : Wired L) (said : Said) → GoesOut faults asked c kernel out old new said → AreSent (old.machine.begun + 1) rows out.sends → Went kernel old.machine.unfinished new.machine.unfinished (rows ++ [])
  own_out rows out old new said g sent =
      went_on kernel old.machine.unfinished g.between.machine.unfinished new.machine.unfinished rows []
      (subst (λ (machine : Machine). Went kernel old.machine.unfinished machine.unfinished rows) (sym g.requests.ran.reaches) (own_begin c kernel rows out.sends old.machine g.requests.steps sent g.requests.each))
      (subst (λ (machine : Machine). Went kernel g.between.machine.unfinished machine.unfinished []) (sym g.answers.ran.reaches) (answers_went kernel kernel out.answers g.between.machine g.answers.steps g.answers.each))

  ordered_out : (out : Out) (old new : Wired L) (said : Said) → GoesOut faults asked c kernel out old new said → Ordered old.machine → Ordered new.machine
  ordered_out out old new said g h =
      subst Ordered (sym g.answers.ran.reaches) (ordered_run g.answers.steps g.between.machine (subst Ordered (sym g.requests.ran.reaches) (ordered_run g.requests.steps old.machine h)))

  -- a server behind its step
  server_stepped : (server : Server) (input : Input) (next : TxNo) (old new : Wired L) (said : Said) → next.0 ≡ old.machine.begun + 1 → GoesOut faults asked c kernel (server_step server input next).1 old new said → InHand input old.machine kernel server
      → ServerSo new.machine kernel (server_step server input next).0
  server_stepped server input next old new said number g h =
      let back = step_calls_back server input next in
      let out : Out = (server_step server input next).1 in
      let went = own_out back.new out old new said g (subst (λ n. AreSent n back.new out.sends) number back.sent) in
      record {
        rows = back.rows ∙ (ap (λ (rows : Rows). rows ++ back.new) h.rows ∙ (ap (λ (rows : Rows). callbacks_of kernel old.machine.unfinished ++ rows) (sym (append-nil back.new)) ∙ sym went.rows));
        calls = went.calls h.calls;
      }

  took_by : (o : Option KernelState) (input : Input) (next : TxNo) (old new : Wired L) (said : Said) (s : State) → kernel_at kernel s ≡ o → next.0 ≡ old.machine.begun + 1 → GoesOut faults asked c kernel (stepped_by kernel o input next s).1 old new said → Hand kernel input old.machine s
      → Stands new.machine (stepped_by kernel o input next s).0
  took_by None input next old new said s e number g h = record {
    ordered = ordered_out (started next) old new said g h.ordered;
    kernels = rejoin (KernelSo new.machine) kernel s.kernels (others_on old.machine new.machine kernel s.kernels (others_out (started next) old new said g) h.others)
        (λ state there. let none : None ≡ Some state = sym e ∙ there in absurd (cc));
  }
  took_by (Some (kernels.Server server)) input next old new said s e number g h = record {
    ordered = ordered_out (server_step server input next).1 old new said g h.ordered;
    kernels = set_at (KernelSo new.machine) kernel (kernels.Server (server_step server input next).0) s.kernels low
        (others_on old.machine new.machine kernel s.kernels (others_out (server_step server input next).1 old new said g) h.others) (server_stepped server input next old new said number g (h.own server e));
  }
  took_by (Some (kernels.Client client)) input next old new said s e number g h =
      let made : KernelState × Out = kernel_step (kernels.Client client) input next (count_at s.steps kernel) in
      record {
        ordered = ordered_out made.1 old new said g h.ordered;
        kernels = set_at (KernelSo new.machine) kernel made.0 s.kernels low (others_on old.machine new.machine kernel s.kernels (others_out made.1 old new said g) h.others) tt;
      }

  same_kernels : (machine : Machine) (s t : State) → t.kernels ≡ s.kernels → Stands machine s → Stands machine t
  same_kernels machine s t e h = record { ordered = h.ordered; kernels = subst (OfAll (KernelSo machine) 1) (sym e) h.kernels }

  took : (input : Input) (said : Said) (old new : Wired L) (s t : State) → TakesSo faults asked c kernel input said old new s t → Hand kernel input old.machine s → Stands new.machine t
  took input said old new s t so h =
      same_kernels new.machine (stepped kernel input said.next s).0 t (ap (λ (u : State). u.kernels) so.state)
      (took_by (kernel_at kernel s) input said.next old new said s refl (ap (λ (tx : TxNo). tx.0) so.next) so.goes_out h)

  image_by : (o : Option KernelState) (machine : Machine) (pid : ℕ) (image : processes.Machine) (s : State) → kernel_at kernel s ≡ o → Stands machine s → Stands machine (image_put_at kernel pid image o s)
  image_by None machine pid image s e h = h
  image_by (Some (kernels.Server server)) machine pid image s e h = record { ordered = h.ordered; kernels = all_at (KernelSo machine) kernel (kernels.Server server) s.kernels low h.kernels (own_server machine s server h e) }
  image_by (Some (kernels.Client client)) machine pid image s e h = record { ordered = h.ordered; kernels = all_at (KernelSo machine) kernel (image_put pid image (kernels.Client client)) s.kernels low h.kernels tt }

  -- ---- a turn, where replies go to their callers, and to callbacks flushed blocks

  module _ (first : Machine) (back : (number : CopyNo) (copy : PacketCopy) (call : Call) → copy_of first number ≡ Some copy → copy.reply ≡ true → call_of first copy.tx ≡ Some call → copy.to ≡ call.from)
      (flushed : (tx : TxNo) (call : Call) (request : CallbackRequest) (reply : List ℕ) → call_of first tx ≡ Some call → asked_request call.body ≡ Some (requests.Callback request) → call.reply ≡ Some reply → BringsFlushed reply) where
    module _ (number : CopyNo) (copy : PacketCopy) (call : Call) (reply : List ℕ) (message : Packet) (s : State) (flies : copy_of first number ≡ Some copy) (goes : copy.to ≡ kernel) (news : arrival first copy ≡ FirstReply) (there : call_of first copy.tx ≡ Some call)
        (told : call.reply ≡ Some reply) (reads : reading reply ≡ Some message) (h : Stands first s) where
      abbrev last : Machine
      last = after first (Deliver number Once)

      source : call.from ≡ kernel
      source = sym (back number copy call flies (reply_flag copy (call_of first copy.tx) news) there) ∙ goes

      calls_are : last.unfinished ≡ less (is_call copy.tx) first.unfinished
      calls_are = replied_calls first number copy Once flies news

      others_go : OfAll (But (KernelSo last) kernel) 1 s.kernels
      others_go =
          others_on first last kernel s.kernels
          (λ other off. went_is other first.unfinished (less (is_call copy.tx) first.unfinished) last.unfinished calls_are (went_less other copy.tx call first.unfinished there (λ same. off (sym source ∙ same)))) (but_all first kernel s.kernels h.kernels)

      -- the reply to a server
      its_call : (server : Server) → kernel_at kernel s ≡ Some (kernels.Server server) → CallsBack call
      its_call server e = found_sound (Sent kernel) (is_call copy.tx) call first.unfinished there (own_server first s server h e).calls source

      its_reply : (server : Server) → kernel_at kernel s ≡ Some (kernels.Server server) → (blocks : Flushed) × (message.body ≡ bodies.Reply (replies.Flushed blocks))
      its_reply server e =
          let so = its_call server e in
          let brings = flushed copy.tx call so.request reply there so.asks told in
          (brings.flushed, ap (λ (p : Packet). p.body) (some_is message brings.packet (sym reads ∙ brings.reads)) ∙ brings.is)

      reply_comes : (body : ReplyBody) → message.body ≡ bodies.Reply body → Hand kernel (inputs.Replied copy.tx message.from body) last s
      reply_comes body says = record {
        ordered = ordered_after first (Deliver number Once) h.ordered;
        others = others_go;
        own = λ server e.
            let so = its_call server e in
            let got = its_reply server e in
            let row : TxNo × CallOut = (call.tx, record { file = so.request.file; kernel = call.owner }) in
            record {
              rows = ap (λ (b : ReplyBody). left_by b copy.tx server.callbacks) (reply_body body (replies.Flushed got.0) (sym says ∙ got.1))
                  ∙ (ap (less (is_under waits.is_call copy.tx)) (own_server first s server h e).rows
                  ∙ (sym (rows_less kernel copy.tx call row first.unfinished there (found_is copy.tx call first.unfinished there) (one_here kernel call so.request source so.asks)) ∙ sym (ap (callbacks_of kernel) calls_are)));
              calls = subst (AllByRecursion (Sent kernel)) (sym calls_are) (each_without (Sent kernel) (is_call copy.tx) first.unfinished (own_server first s server h e).calls);
            };
      }

      nothing_comes : (body : Request) → message.body ≡ bodies.Request body → Stands last s
      nothing_comes body says = record { ordered = ordered_after first (Deliver number Once) h.ordered; kernels = rejoin (KernelSo last) kernel s.kernels others_go by }
        where
          by : (state : KernelState) → slice_get s.kernels (kernel - 1) ≡ Some state → KernelSo last kernel state
          by (kernels.Client client) e = tt
          by (kernels.Server server) e = let got = its_reply server e in let same : bodies.Request body ≡ bodies.Reply (replies.Flushed got.0) = sym says ∙ got.1 in absurd (cc)

    given_up : (tx : TxNo) (call : Call) (s : State) → call_of first tx ≡ Some call → call.from ≡ kernel → is_last call ≡ true → Stands first s → Hand kernel (inputs.GaveUp tx) (after first (Expire tx [])) s
    given_up tx call s there from last h = record {
      ordered = ordered_after first (Expire tx []) h.ordered;
      others = others_on first (after first (Expire tx [])) kernel s.kernels
          (λ other off. went_is other first.unfinished (less (is_call tx) first.unfinished) (after first (Expire tx [])).unfinished (given_up_calls first tx call [] there last)
          (went_less other tx call first.unfinished there (λ same. off (sym from ∙ same)))) (but_all first kernel s.kernels h.kernels);
      own = λ server e. absurd (not_last call.tries call.lost (found_sound (Sent kernel) (is_call tx) call first.unfinished there (own_server first s server h e).calls from).lasts last);
    }

    -- a request comes
    request_goes : (number : CopyNo) (copy : PacketCopy) (s : State) → copy_of first number ≡ Some copy → arrival first copy ≡ FirstRequest → Stands first s → Stands (after first (Deliver number Once)) s
    request_goes number copy s flies news h =
        acted (Deliver number Once) first s
        (λ other. went_is other first.unfinished (changed (is_call copy.tx) (further copy.to Holding) first.unfinished) (after first (Deliver number Once)).unfinished (asked_calls first number copy Once flies news)
        (went_changed other (is_call copy.tx) (further copy.to Holding) first.unfinished (λ call. refl) (λ call k. sent_further other copy.to Holding call k))) h

    deeds : Turns faults asked c kernel first Stands (Hand kernel)
    deeds = record {
      same = λ machine s t e h. same_kernels machine s t e h;
      images = λ machine pid image s h. image_by (kernel_at kernel s) machine pid image s refl h;
      own = λ input machine s is h. in_hand input machine s (λ rows. left_same input rows is) h;
      passes = λ number copy given s flies off h. acted (Deliver number given) first s (λ other. went_same other first.unfinished (after first (Deliver number given)).unfinished (passed_calls first number copy given flies off)) h;
      asks = λ number copy call message body s flies goes news there reads says h. in_hand (inputs.Request copy.tx message.from body) (after first (Deliver number Once)) s (λ rows. refl) (request_goes number copy s flies news h);
      asks_none = λ number copy call message body s flies goes news there reads says h. request_goes number copy s flies news h;
      replies = λ number copy call reply message body s flies goes news there told reads says h. reply_comes number copy call reply message s flies goes news there told reads h body says;
      replies_none = λ number copy call reply message body s flies goes news there told reads says h. nothing_comes number copy call reply message s flies goes news there told reads h body says;
      fires = λ tx call sent s there off h. acted (Expire tx sent) first s
          (λ other. went_is other first.unfinished (changed (is_call tx) tried first.unfinished) (after first (Expire tx sent)).unfinished (tried_calls first tx call sent there off)
          (went_changed other (is_call tx) tried first.unfinished (λ one. refl) (λ one k. sent_tried other one k))) h;
      ends = λ tx call s there from last h. given_up tx call s there from last h;
      takes = λ input said old new s t so h. took input said old new s t so h;
      silent = λ machine tx s h. acted (Silence tx kernel) machine s (λ other. went_changed other (is_call tx) (further kernel Silent) machine.unfinished (λ one. refl) (λ one k. sent_further other kernel Silent one k)) h;
    }

-- ---- each reached cluster

keeps_none : (serves : List Parts) → KeepsBoot serves (λ (s : Server). s.callbacks ≡ [])
keeps_none serves = record {
  hangs = λ s root tree is e h. h;
  makes = λ s at domain path tree there e h. h;
  writes = λ s file bytes there h. h;
  passes = λ s h. h;
}

none_called : (c : Description) (kernel : ℕ) (s : Server) → boots c kernel ≡ Some s → s.callbacks ≡ []
none_called c kernel s e = server_begins c kernel (λ (t : Server). t.callbacks ≡ []) (keeps_none (serves_of c.kernels kernel)) s e refl

kernel_begins : (c : Description) (serves : List Path) (kernel : ℕ) (state : KernelState) → IsKernel c kernel serves state → KernelSo idle kernel state
kernel_begins c [] kernel state e = subst (KernelSo idle kernel) (sym e) tt
kernel_begins c (path ∷ paths) kernel (kernels.Server made) e = record { rows = none_called c kernel made e; calls = tt }
kernel_begins c (path ∷ paths) kernel (kernels.Client made) e = absurd e

pub out_reached : {L : Type 0} (faults asked : L → ℕ → ℕ → ℕ) (c : Description) (begun : L) (now : At L) → Reached faults asked c begun now → Stands now.wire.machine now.state
out_reached {L} faults asked c begun now reached =
    of_reached faults asked c begun Stands Hand
    (λ first b. subst (λ (machine : Machine). Stands machine first.state) (sym b.idles) (record { ordered = omega arith; kernels = booted (KernelSo idle) c (kernel_begins c) c.kernels first.state.kernels 1 b.boots.kernels_are }))
    (λ kernel low old before. deeds faults asked c kernel low old.wire.machine
    (λ number copy call flies reply there. replies_go faults asked c begun old number copy call before flies reply there)
    (λ tx call request reply there asks told. callbacks_flushed faults asked c begun old tx call request reply before there asks told)) now reached
