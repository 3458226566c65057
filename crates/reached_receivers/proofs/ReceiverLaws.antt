-- Of each reached cluster: its kernels' kinds, where its calls and packets go, and that kernels take what goes to them.
use Rattle.std.proofs.Common.{arith, ◌≡◌, ℕ, zero, suc, ◌-◌, ◌≤◌, Bool, true, false, ◌||◌, not, List, [], ◌∷◌, slice_get, Option, Some, None, is_some, refl, sym, ap, subst, ◌∙◌}
use Rattle.std.specs.List.{AllByRecursion}
use Rattle.std.proofs.lemmas.Bool.{and_parts}
use Rattle.sprite_ids.specs.declared.TxNo.{TxNo}
use Rattle.sprite_ids.proofs.ListLaws.{each_weaken, some_is}
use Rattle.kernel_rpc.specs.declared.call.Call.{Call}
use Rattle.kernel_rpc.specs.declared.call.Receiver.{Receiver}
use Rattle.kernel_rpc.specs.Machine.{call_of, is_call}
use Rattle.kernel_rpc.specs.Sound.{Wired}
use Rattle.kernel_rpc.proofs.SoundLaws.{found_sound}
use Rattle.process_machine.specs.Machine as processes
use Rattle.kernel_steps.specs.declared.Input.{Input}
use Rattle.packet_bodies.specs.declared.NameOp.{NameOp}
use Rattle.packet_bodies.specs.declared.NameOp.TheVariants as ops
use Rattle.packet_bodies.specs.declared.Request.{Request}
use Rattle.packet_bodies.specs.declared.Request.TheVariants as requests
use Rattle.unix_calls.specs.declared.Description.{Description}
use Rattle.unix_calls.specs.declared.KernelLine.{KernelLine}
use Rattle.unix_calls.specs.Domains.{begins_domain}
use Rattle.unix_calls.specs.Lawful.{Lawful}
use Rattle.unix_calls.specs.Lawful.{holds as held}
use Rattle.home_table.specs.Home.{was_born}
use Rattle.client_homes.specs.declared.ClientProcs.{ClientProcs}
use Rattle.client_homes.specs.Homes.{is_native}
use Rattle.client_procs.specs.Arriving.{brought, is_new}
use Rattle.client_procs.specs.CanTake.{may_be_brought}
use Rattle.client_requests.specs.Requests.{is_left}
use Rattle.server_kernel.specs.declared.Server.{Server}
use Rattle.server_kernel.specs.Boot.{serves_in, serves_of}
use Rattle.server_kernel.specs.Directory.{Parts, is_root}
use Rattle.server_answers.proofs.ServerLaws.{roots_stay}
use Rattle.kept_requests.specs.Kept.{has_answer}
use Rattle.kept_requests.specs.Kept.{is_served as served_there}
use Rattle.cluster_kernels.specs.declared.KernelState.{KernelState}
use Rattle.cluster_kernels.specs.declared.KernelState.TheVariants as kernels
use Rattle.cluster_kernels.specs.declared.State.{State}
use Rattle.cluster_kernels.specs.Kernels.{has_page_of, image_put, kernel_step}
use Rattle.cluster_kernels.specs.States.{kernel_at, put_image}
use Rattle.cluster_steps.specs.Receivers.{is_domain, is_for_servers, is_receiver, is_served, may_be_asked, serves_at}
use Rattle.cluster_bursts.specs.declared.Burst.{Burst}
use Rattle.cluster_bursts.specs.Bursts.{recorded}
use Rattle.sprite_cluster.specs.Everywhere.{OfAll}
use Rattle.sprite_cluster.specs.Reached.{At, Reached}
use Rattle.sprite_cluster.specs.Steps.{begun_turn}
use Rattle.sprite_cluster.proofs.KernelLaws.{Any, BeginsSo, Keeps, kernels_last, one_at}
use Rattle.sprite_cluster.proofs.ReachedLaws.{Lasts, lasts_on}
use Rattle.reached_domains.specs.Domains.{asked_request, prefix_by}
use Rattle.reached_domains.proofs.DomainLaws.{one_answers}
use Rattle.reached_receivers.specs.Receivers.{CallsGoRight, ClientsTakeRequests, DomainsHang, GoesRight, IsInside, IsOfItsKind, KernelsAreOfTheirKind, PacketsGoInside, RequestsAreOfTheirKind, RequestsHaveAnswers, is_server}
use Rattle.reached_receivers.proofs.CallLaws.{Right, right_bears}
use Rattle.reached_receivers.proofs.KindLaws as kinds
use Rattle.reached_receivers.proofs.KindLaws.{image_there, one_kind, receiver_there}
use Rattle.reached_receivers.proofs.PacketLaws.{IsWithin, packets_stay}
use Rattle.reached_receivers.proofs.RootLaws.{served_begin}
use Rattle.reached_receivers.proofs.WireWalk.{ended, happened}

-- ---- a server's domains

-- each domain that a server serves hangs there
abbrev Hangs : Description → ℕ → KernelState → Type 0
Hangs c kernel (kernels.Server server) = (path : Parts) → begins_domain (serves_of c.kernels kernel) path ≡ true → is_root path server ≡ true
Hangs c kernel (kernels.Client client) = Unit {0}

hang_kept : (c : Description) → Keeps (Hangs c) Any
hang_kept c = record {
  steps = λ kernel state input next step such h. step_hangs kernel state input next step h;
  images = λ kernel pid image state h. image_hangs kernel pid image state h;
  own = λ input state is. tt;
}
  where
    step_hangs : (kernel : ℕ) (state : KernelState) (input : Input) (next : TxNo) (step : ℕ) → Hangs c kernel state → Hangs c kernel (kernel_step state input next step).0
    step_hangs kernel (kernels.Client client) input next step h = tt
    step_hangs kernel (kernels.Server server) input next step h = λ path e. roots_stay server input next path ∙ h path e

    image_hangs : (kernel pid : ℕ) (image : processes.Machine) (state : KernelState) → Hangs c kernel state → Hangs c kernel (image_put pid image state)
    image_hangs kernel pid image (kernels.Client client) h = tt
    image_hangs kernel pid image (kernels.Server server) h = h

begins_hung : (c : Description) → Lawful c → BeginsSo c (Hangs c)
begins_hung c lawful [] kernel state e = subst (Hangs c kernel) (sym e) tt
begins_hung c lawful (path ∷ paths) kernel (kernels.Server made) e = λ path there. served_begin c kernel made path lawful e there
begins_hung c lawful (path ∷ paths) kernel (kernels.Client made) e = absurd e

module _ {L : Type 0} (faults asked : L → ℕ → ℕ → ℕ) where
  pub kinds_last : KernelsAreOfTheirKind faults asked
  kinds_last = kinds.kinds_last faults asked

  -- a kernel of a reached cluster is one of the description
  there_by : (c : Description) (kernel : ℕ) (s : State) → 1 ≤ kernel → OfAll (IsOfItsKind c) 1 s.kernels → (state : KernelState) → kernel_at kernel s ≡ Some state → IsInside c kernel
  there_by c kernel s low all state e = receiver_there c (is_server state) kernel (one_at (IsOfItsKind c) kernel state s.kernels low all e)

  module _ (c : Description) (begun : L) where
    there_at : (kernel : ℕ) (old : At L) → Reached faults asked c begun old → 1 ≤ kernel → (state : KernelState) → kernel_at kernel old.state ≡ Some state → IsInside c kernel
    there_at kernel old reached low = there_by c kernel old.state low (kinds_last c begun old reached)

    burst_there : (kernel : ℕ) (b : Burst) (old : At L) → Reached faults asked c begun old → 1 ≤ kernel → (state : KernelState) → kernel_at kernel (put_image kernel b.pid b.to (recorded kernel b (begun_turn old.state))) ≡ Some state → IsInside c kernel
    burst_there kernel b old reached low = image_there (IsInside c kernel) kernel b.pid b.to (kernel_at kernel (recorded kernel b (begun_turn old.state))) (recorded kernel b (begun_turn old.state)) refl (there_at kernel old reached low)

    right_lasts : Lasts faults asked c begun (λ (at : At L). Right c at.wire.machine)
    right_lasts = record {
      begins = λ first b. subst (Right c) (sym b.idles) tt;
      chose = λ kernel choice old now reached goes h. happened c (IsInside c) (Right c) (right_bears c) faults asked choice kernel old.wire now.wire (begun_turn old.state) goes.changes.turn (there_at kernel old reached goes.low) goes.changes.happens h;
      began = λ kernel old now reached goes h. subst (λ (wire : Wired L). Right c wire.machine) (sym goes.changes.same_wire) h;
      took = λ kernel b old now reached goes h. ended c (IsInside c) (Right c) (right_bears c) faults asked goes.changes.ends.what kernel b old.wire now.wire (begun_turn old.state) goes.changes.turn (burst_there kernel b old reached goes.low) goes.changes.ends.ends h;
      lost = λ kernel b old now reached goes h. ended c (IsInside c) (Right c) (right_bears c) faults asked goes.changes.ends.what kernel b old.wire now.wire (begun_turn old.state) now.state (burst_there kernel b old reached goes.low) goes.changes.ends.ends h;
    }

    all_right : (now : At L) → Reached faults asked c begun now → Right c now.wire.machine
    all_right now reached = lasts_on faults asked c begun (λ (at : At L). Right c at.wire.machine) now right_lasts reached

  pub calls_right : CallsGoRight faults asked
  calls_right c begun now reached = all_right c begun now reached

  -- each call goes to kernels of the description
  receivers_inside : (c : Description) (for_servers : Bool) (receivers : List Receiver) → AllByRecursion (λ (receiver : Receiver). is_receiver c for_servers receiver.kernel ≡ true) receivers → AllByRecursion (λ (receiver : Receiver). IsInside c receiver.kernel) receivers
  receivers_inside c for_servers receivers h = each_weaken (λ (receiver : Receiver). is_receiver c for_servers receiver.kernel ≡ true) (λ (receiver : Receiver). IsInside c receiver.kernel) receivers (λ receiver k. receiver_there c for_servers receiver.kernel k) h

  calls_within : (c : Description) (begun : L) (now : At L) → Reached faults asked c begun now → AllByRecursion (IsWithin c) now.wire.machine.unfinished
  calls_within c begun now reached =
      each_weaken (GoesRight c) (IsWithin c) now.wire.machine.unfinished (λ call k. record { source = (k.low, k.high); receivers = receivers_inside c (is_for_servers k.request) call.receivers k.receivers }) (calls_right c begun now reached)

  pub packets_inside : PacketsGoInside faults asked
  packets_inside c begun now reached = packets_stay faults asked c begun (calls_within c begun) now reached

  -- what is so of one
  pub goes_right : (c : Description) (begun : L) (now : At L) (tx : TxNo) (call : Call) → Reached faults asked c begun now → call_of now.wire.machine tx ≡ Some call → GoesRight c call
  goes_right c begun now tx call reached found = found_sound (GoesRight c) (is_call tx) call now.wire.machine.unfinished found (calls_right c begun now reached)

  pub owner_inside : (c : Description) (begun : L) (now : At L) (tx : TxNo) (call : Call) → Reached faults asked c begun now → call_of now.wire.machine tx ≡ Some call → IsInside c call.owner
  owner_inside c begun now tx call reached found = let k : GoesRight c call = goes_right c begun now tx call reached found in receiver_there c (is_for_servers k.request) call.owner k.owner

  pub requests_kind : RequestsAreOfTheirKind faults asked
  requests_kind c begun now tx call state body reached found there asks =
      let k : GoesRight c call = goes_right c begun now tx call reached found in
      let low : 1 ≤ call.owner = (receiver_there c (is_for_servers k.request) call.owner k.owner).0 in
      let kind = one_at (IsOfItsKind c) call.owner state now.state.kernels low (kinds_last c begun now reached) there in
      ap is_for_servers (some_is body k.request (sym asks ∙ k.asks)) ∙ one_kind c (is_for_servers k.request) (is_server state) call.owner k.owner kind

  -- ---- answers

  pub domains_hang : DomainsHang faults asked
  domains_hang c begun now kernel server path lawful low reached there serves =
      one_at (Hangs c) kernel (kernels.Server server) now.state.kernels low (lasts_on faults asked c begun (λ (at : At L). OfAll (Hangs c) 1 at.state.kernels) now (kernels_last faults asked c begun (Hangs c) Any (hang_kept c) (begins_hung c lawful) (λ kernel old low reached copy input brings state e. tt)) reached) there path serves

  -- a domain's server, by its line
  serves_by : (c : Description) (kernel : ℕ) (path : Parts) → serves_at c kernel path ≡ true → begins_domain (serves_of c.kernels kernel) path ≡ true
  serves_by c zero path e = absurd (cc)
  serves_by c (suc place) path e = (let same : suc place - 1 ≡ place = omega arith in subst (λ (n : ℕ). begins_domain (serves_in (slice_get c.kernels n)) path ≡ true) (sym same) (by (slice_get c.kernels place) e))
    where
      by : (o : Option KernelLine) → held (λ (line : KernelLine). begins_domain line.serves path) o ≡ true → begins_domain (serves_in o) path ≡ true
      by None e = absurd (cc)
      by (Some line) e = e

  same_done : (op : NameOp) (second : Option Parts) → is_served op (is_some second) ≡ served_there op second
  same_done ops.Walk second = refl
  same_done ops.Rename second = refl
  same_done ops.Stat second = refl
  same_done ops.Mkdir second = refl
  same_done ops.Rmdir second = refl
  same_done ops.Unlink second = refl
  same_done ops.List second = refl
  same_done ops.Chdir second = refl

  answer_by : (c : Description) (server : Server) (body : Request) → is_for_servers body ≡ true → may_be_asked c body ≡ true → ((path : Parts) → body ≡ requests.Prefix path → is_domain c path ≡ true → is_root path server ≡ true) → has_page_of body server ≡ true
      → has_answer server body ≡ true
  answer_by c server requests.Echo kind may roots page_there = refl
  answer_by c server (requests.Prefix path) kind may roots page_there = roots path refl may
  answer_by c server (requests.Opening r) kind may roots page_there = refl
  answer_by c server (requests.Name r) kind may roots page_there = sym (same_done r.op r.second) ∙ may
  answer_by c server (requests.Make r) kind may roots page_there = refl
  answer_by c server (requests.Close r) kind may roots page_there = refl
  answer_by c server (requests.Op r) kind may roots page_there = refl
  answer_by c server (requests.Fetch r) kind may roots page_there = refl
  answer_by c server (requests.WriteBack r) kind may roots page_there = refl
  answer_by c server (requests.Move r) kind may roots page_there = refl
  answer_by c server (requests.PageOut r) kind may roots page_there = refl
  answer_by c server (requests.PageIn pid page) kind may roots page_there = page_there
  answer_by c server (requests.Callback r) kind may roots page_there = absurd (cc)
  answer_by c server (requests.Transfer r) kind may roots page_there = absurd (cc)
  answer_by c server (requests.Home r) kind may roots page_there = absurd (cc)
  answer_by c server (requests.Place pid kernel) kind may roots page_there = absurd (cc)
  answer_by c server (requests.Killed pid) kind may roots page_there = absurd (cc)
  answer_by c server (requests.Ask r) kind may roots page_there = absurd (cc)
  answer_by c server (requests.Launch r) kind may roots page_there = absurd (cc)

  pub requests_answered : RequestsHaveAnswers faults asked
  requests_answered c begun now tx call server body lawful reached found there asks can =
      let k : GoesRight c call = goes_right c begun now tx call reached found in
      let same : k.request ≡ body = some_is k.request body (sym k.asks ∙ asks) in
      answer_by c server body (requests_kind c begun now tx call (kernels.Server server) body reached found there asks) (subst (λ (r : Request). may_be_asked c r ≡ true) same k.may)
      (λ path is domain. domains_hang c begun now call.owner server path lawful (owner_inside c begun now tx call reached found).0 reached there
      (serves_by c call.owner path (subst (λ (kernel : ℕ). serves_at c kernel path ≡ true) (sym (one_answers faults asked c begun now tx call path reached found (ap prefix_by (subst (λ (r : Request). asked_request call.body ≡ Some r) is asks)))) domain)))
      can

  new_by : (pid : ℕ) (client : ClientProcs) → may_be_brought (Some pid) client ≡ true → is_new pid client ≡ true
  new_by pid client may = (and_parts (is_new pid client) (not (is_native pid client) || was_born client.home pid) may).0

  -- a client takes what isn't for servers and brings nobody whom it knows
  taken_by : (body : Request) (client : ClientProcs) → is_for_servers body ≡ false → may_be_brought (brought body) client ≡ true → is_left body client ≡ false
  taken_by (requests.Callback r) client kind may = refl
  taken_by (requests.Transfer r) client kind may = ap (λ b. not b) (new_by r.pid client may)
  taken_by (requests.Home r) client kind may = refl
  taken_by (requests.Place pid kernel) client kind may = refl
  taken_by (requests.Killed pid) client kind may = refl
  taken_by (requests.Ask r) client kind may = refl
  taken_by (requests.Launch r) client kind may = ap (λ b. not b) (new_by r.pid client may)
  taken_by body client kind may = absurd (cc)

  pub clients_take : ClientsTakeRequests faults asked
  clients_take c begun now tx call client body reached found there asks can = taken_by body client (requests_kind c begun now tx call (kernels.Client client) body reached found there asks) can
