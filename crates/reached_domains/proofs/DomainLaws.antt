-- Of each reached cluster: who asks for the servers of prefixes, and who answers.
use Rattle.std.proofs.Common.{arith, ◌≡◌, ℕ, ◌+◌, ◌-◌, ◌≤◌, List, [], ◌∷◌, ◌++◌, length, slice_get, Option, Some, None, is_some, true, refl, sym, ap, ◌∙◌, subst, append_assoc, length-append}
use Rattle.sprite_ids.specs.declared.FileId.{FileId}
use Rattle.sprite_ids.specs.declared.TxNo.{TxNo}
use Rattle.sprite_ids.proofs.ListLaws.{each_get, some_is}
use Rattle.sprite_paths.specs.declared.Path.{Path}
use Rattle.kernel_rpc.specs.declared.call.Call.{Call}
use Rattle.kernel_rpc.specs.Bodies.{body_of}
use Rattle.kernel_rpc.specs.Machine.{Machine, call_of, idle, is_call}
use Rattle.kernel_rpc.specs.Sound.{Wired}
use Rattle.kernel_rpc.proofs.SoundLaws.{found_sound}
use Rattle.packet_bodies.specs.declared.Body.{Body}
use Rattle.packet_bodies.specs.declared.Body.TheVariants as bodies
use Rattle.packet_bodies.specs.declared.ReplyBody.{ReplyBody}
use Rattle.packet_bodies.specs.declared.ReplyBody.TheVariants.{Redirect}
use Rattle.packet_bodies.specs.declared.Request.{Request}
use Rattle.wire_format.specs.declared.Packet.{Packet}
use Rattle.wire_format.specs.Packets.{reading}
use Rattle.unix_calls.specs.declared.Description.{Description}
use Rattle.unix_calls.specs.declared.KernelLine.{KernelLine}
use Rattle.unix_calls.specs.Domains.{begins_domain, roots_of}
use Rattle.client_file_tables.specs.declared.pending.Pending.{Pending}
use Rattle.client_file_tables.specs.declared.pending.Pending.TheVariants as operations
use Rattle.client_homes.specs.declared.ClientProcs.{ClientProcs}
use Rattle.server_kernel.specs.declared.Asked.{Asked}
use Rattle.cluster_kernels.specs.declared.KernelState.{KernelState}
use Rattle.cluster_kernels.specs.declared.KernelState.TheVariants as kernels
use Rattle.cluster_kernels.specs.declared.State.{State}
use Rattle.cluster_kernels.specs.Booted.{AreKernels, IsKernel}
use Rattle.cluster_kernels.specs.States.{client_at, client_in, kernel_at}
use Rattle.cluster_bursts.specs.Bursts.{job_at}
use Rattle.sprite_cluster.specs.Reached.{At, Reached}
use Rattle.sprite_cluster.specs.Steps.{begun_turn}
use Rattle.sprite_cluster.proofs.ReachedLaws.{Lasts, lasts_on}
use Rattle.broadcast_laws.specs.Broadcasts.{Parts, WaitsFor}
use Rattle.broadcast_laws.proofs.Asking.{OperationAsks, RowsAsk, StateAsks}
use Rattle.server_walks.specs.Sorts.{fits}
use Rattle.server_answers.proofs.Answering.{AllKept}
use Rattle.server_answers.proofs.RootLaws.{roots_are_served, servers_begin_with_none}
use Rattle.redirect_laws.specs.Links.{AnswerLeads}
use Rattle.redirect_laws.proofs.BootLinks.{servers_begin_linked}
use Rattle.reached_domains.specs.Domains.{AnswersAreOwners, AnswersTellDomains, BroadcastsAskSo, OneServerAnswers, RedirectsAreDomains, ServersAnswersFit, ServersServeTheirs, TellsADomain, asked_prefix, asked_request, prefix_by, prefix_of}
use Rattle.reached_domains.proofs.CallLaws.{AsksAt, Fine, Told}
use Rattle.reached_domains.proofs.KernelLaws.{Fits, KeptAt}
use Rattle.sprite_cluster.specs.Everywhere.{OfAll}
use Rattle.sprite_cluster.proofs.KernelLaws.{one_at}
use Rattle.reached_domains.proofs.TurnLaws.{Stands, begun_stands, ended, happened, told_stands}

-- ---- the boot

got_behind : (before : List KernelLine) (line : KernelLine) (lines : List KernelLine) → slice_get (before ++ line ∷ lines) (length before) ≡ Some line
got_behind [] line lines = refl
got_behind (first ∷ before) line lines = got_behind before line lines

none_kept : (rows : List (FileId × Asked)) → rows ≡ [] → AllKept (KeptAt idle) rows
none_kept rows e = subst (AllKept (KeptAt idle)) (sym e) tt

booted_one : (serves : List Path) (c : Description) (kernel : ℕ) (line : KernelLine) (state : KernelState) → slice_get c.kernels (kernel - 1) ≡ Some line → line.serves ≡ serves → IsKernel c kernel serves state → Fits c idle kernel state
booted_one [] c kernel line state there is e = subst (Fits c idle kernel) (sym e) (record { line = line; there = there; none = is; asks = tt })
booted_one (path ∷ paths) c kernel line (kernels.Server made) there is e =
    let none = servers_begin_with_none c kernel made e in
    record { roots = λ root h. roots_are_served c kernel made root e h; links = (servers_begin_linked c kernel made e).0; asking = none_kept made.asking none.0; waiting = none_kept made.waiting none.1 }
booted_one (path ∷ paths) c kernel line (kernels.Client made) there is e = absurd e

-- of the lines behind those before them
booted : (before lines : List KernelLine) (states : List KernelState) (c : Description) (kernel : ℕ) → c.kernels ≡ before ++ lines → kernel ≡ length before + 1 → AreKernels c kernel lines states → OfAll (Fits c idle) kernel states
booted before [] [] c kernel all counted e = tt
booted before (line ∷ lines) (state ∷ states) c kernel all counted e =
    (booted_one line.serves c kernel line state there refl e.0, booted (before ++ line ∷ []) lines states c (kernel + 1) (all ∙ sym (append_assoc before (line ∷ []) lines)) (omega (arith, counted, more)) e.1)
  where
    more : length (before ++ line ∷ []) ≡ length before + 1
    more = length-append before (line ∷ [])

    there : slice_get c.kernels (kernel - 1) ≡ Some line
    there = let at : kernel - 1 ≡ length before = omega (arith, counted) in
        ap (slice_get c.kernels) at ∙ (ap (λ (ls : List KernelLine). slice_get ls (length before)) all ∙ got_behind before line lines)
booted before [] (state ∷ states) c kernel all counted e = absurd e
booted before (line ∷ lines) [] c kernel all counted e = absurd e

-- ---- each change

stands_last : {L : Type 0} (faults asked : L → ℕ → ℕ → ℕ) (c : Description) (begun : L) → Lasts faults asked c begun (λ (at : At L). Stands c at.wire.machine at.state)
stands_last {L} faults asked c begun = record {
  begins = λ first b. subst (λ (machine : Machine). Stands c machine first.state) (sym b.idles) (record { ordered = omega arith; calls = tt; kernels = booted [] c.kernels first.state.kernels c 1 refl refl b.boots.kernels_are });
  chose = λ kernel choice old now reached goes h. told_stands c now.wire.machine goes.changes.turn now.state (ap (λ (s : State). s.kernels) goes.changes.stands)
      (happened c faults asked kernel goes.low choice old.wire now.wire (begun_turn old.state) goes.changes.turn goes.changes.happens (told_stands c old.wire.machine old.state (begun_turn old.state) refl h));
  began = λ kernel old now reached goes h. subst (Stands c now.wire.machine) (sym goes.changes.begun)
      (begun_stands c (job_at c kernel old.state) now.wire.machine kernel old.state (subst (λ (wire : Wired L). Stands c wire.machine old.state) (sym goes.changes.same_wire) h));
  took = λ kernel b old now reached goes h. told_stands c now.wire.machine goes.changes.turn now.state (ap (λ (s : State). s.kernels) goes.changes.stands)
      (ended c faults asked kernel goes.low goes.changes.ends.what b old.wire now.wire (begun_turn old.state) goes.changes.turn goes.changes.ends.ends (told_stands c old.wire.machine old.state (begun_turn old.state) refl h));
  lost = λ kernel b old now reached goes h.
      ended c faults asked kernel goes.low goes.changes.ends.what b old.wire now.wire (begun_turn old.state) now.state goes.changes.ends.ends (told_stands c old.wire.machine old.state (begun_turn old.state) refl h);
}

pub all_stand : {L : Type 0} (faults asked : L → ℕ → ℕ → ℕ) (c : Description) (begun : L) (now : At L) → Reached faults asked c begun now → Stands c now.wire.machine now.state
all_stand {L} faults asked c begun now reached = lasts_on faults asked c begun (λ (at : At L). Stands c at.wire.machine at.state) now (stands_last faults asked c begun) reached

-- ---- the laws

-- each unfinished call is fine
pub call_fine : (c : Description) (machine : Machine) (s : State) (tx : TxNo) (call : Call) → Stands c machine s → call_of machine tx ≡ Some call → Fine c call
call_fine c machine s tx call h e = found_sound (Fine c) (is_call tx) call machine.unfinished e h.calls

pub client_is : (o : Option KernelState) (client : ClientProcs) → client_in o ≡ Some client → o ≡ Some (kernels.Client client)
client_is (Some (kernels.Client found)) client e = ap (λ (s : ClientProcs). Some (kernels.Client s)) (some_is found client e)
client_is (Some (kernels.Server server)) client e = absurd (cc)
client_is None client e = absurd (cc)

pub client_stands : (c : Description) (machine : Machine) (s : State) (kernel : ℕ) (client : ClientProcs) → 1 ≤ kernel → Stands c machine s → client_at kernel s ≡ Some client → Fits c machine kernel (kernels.Client client)
client_stands c machine s kernel client low h e = one_at (Fits c machine) kernel (kernels.Client client) s.kernels low h.kernels (client_is (kernel_at kernel s) client e)

pub servers_serve : {L : Type 0} (faults asked : L → ℕ → ℕ → ℕ) → ServersServeTheirs faults asked
servers_serve faults asked c begun now kernel server path low reached e root =
    (one_at (Fits c now.wire.machine) kernel (kernels.Server server) now.state.kernels low (all_stand faults asked c begun now reached).kernels e).roots path root

pub one_answers : {L : Type 0} (faults asked : L → ℕ → ℕ → ℕ) → OneServerAnswers faults asked
one_answers faults asked c begun now tx call prefix reached e asks = (call_fine c now.wire.machine now.state tx call (all_stand faults asked c begun now reached) e).owned prefix asks

answered_by : (o : Option (List ℕ)) → is_some o ≡ true → (reply : List ℕ) × (o ≡ Some reply)
answered_by (Some reply) e = (reply, refl)
answered_by None e = absurd (cc)

request_by : (o : Option Request) (prefix : Parts) → prefix_by o ≡ Some prefix → (request : Request) × (o ≡ Some request) × (prefix_of request ≡ Some prefix)
request_by (Some request) prefix e = (request, refl, e)
request_by None prefix e = absurd (cc)

-- an answered call that asks for the server of a prefix
pub tells_served : (c : Description) (call : Call) (prefix : Parts) → Fine c call → asked_prefix call.body ≡ Some prefix → is_some call.reply ≡ true → TellsADomain c call prefix
tells_served c call prefix fine asks answered =
    let reply = answered_by call.reply answered in
    let request = request_by (asked_request call.body) prefix asks in
    let told : Told c call.owner call.body reply.0 = fine.answer reply.0 reply.1 in
    let so = (told.told request.0 request.1).served prefix request.2 in
    record {
      served = so.0;
      told = λ other packet e f.
          let same : told.packet ≡ packet = some_is told.packet packet (sym told.reads ∙ (ap reading (some_is reply.0 other (sym reply.1 ∙ e)) ∙ f)) in
          (ap (λ (p : Packet). p.from) (sym same) ∙ told.source, ap (λ (p : Packet). p.body) (sym same) ∙ (told.is ∙ ap bodies.Reply so.1));
    }

pub answers_tell : {L : Type 0} (faults asked : L → ℕ → ℕ → ℕ) → AnswersTellDomains faults asked
answers_tell faults asked c begun now tx call prefix reached e asks answered = tells_served c call prefix (call_fine c now.wire.machine now.state tx call (all_stand faults asked c begun now reached) e) asks answered

pub answers_owners : {L : Type 0} (faults asked : L → ℕ → ℕ → ℕ) → AnswersAreOwners faults asked
answers_owners faults asked c begun now tx call reply packet reached e f g =
    let told = (call_fine c now.wire.machine now.state tx call (all_stand faults asked c begun now reached) e).answer reply f in
    ap (λ (p : Packet). p.from) (sym (some_is told.packet packet (sym told.reads ∙ g))) ∙ told.source

abbrev body_or : ReplyBody → Body → ReplyBody
body_or other (bodies.Reply body) = body
body_or other (bodies.Request body) = other

pub answers_fit : {L : Type 0} (faults asked : L → ℕ → ℕ → ℕ) → ServersAnswersFit faults asked
answers_fit faults asked c begun now tx call request reply packet body path reached e serving asks f g is =
    let told = (call_fine c now.wire.machine now.state tx call (all_stand faults asked c begun now reached) e).answer reply f in
    let same : bodies.Reply told.body ≡ bodies.Reply body = sym told.is ∙ (ap (λ (p : Packet). p.body) (some_is told.packet packet (sym told.reads ∙ g)) ∙ is) in
    subst (λ (b : ReplyBody). fits request b ≡ true) (ap (body_or body) same) ((told.told request asks).fit path serving)

pub redirects_lead : {L : Type 0} (faults asked : L → ℕ → ℕ → ℕ) → RedirectsAreDomains faults asked
redirects_lead faults asked c begun now tx call reply packet path reached e f g is =
    let told = (call_fine c now.wire.machine now.state tx call (all_stand faults asked c begun now reached) e).answer reply f in
    let same : bodies.Reply told.body ≡ bodies.Reply (Redirect path) = sym told.is ∙ (ap (λ (p : Packet). p.body) (some_is told.packet packet (sym told.reads ∙ g)) ∙ is) in
    subst (AnswerLeads (begins_domain (roots_of c.kernels))) (ap (body_or (Redirect path)) same) told.sends_on

-- what an operation waits for
pub waits_asks : (c : Description) (machine : Machine) (rows : List (ℕ × Pending)) (tx : TxNo) (prefix : Parts) → RowsAsk (AsksAt c machine) rows → WaitsFor rows tx prefix → AsksAt c machine tx prefix
waits_asks c machine rows tx prefix h w =
    subst (StateAsks (AsksAt c machine)) w.waits (each_get (λ (row : ℕ × Pending). OperationAsks (AsksAt c machine) row.1) rows w.at (w.pid, operations.Name w.call) h w.there)

pub broadcasts_ask : {L : Type 0} (faults asked : L → ℕ → ℕ → ℕ) → BroadcastsAskSo faults asked
broadcasts_ask faults asked c begun now kernel client tx prefix call low reached e waits found =
    (waits_asks c now.wire.machine client.files.pending tx prefix (client_stands c now.wire.machine now.state kernel client low (all_stand faults asked c begun now reached) e).asks waits).1 call.body (ap body_of found)
