-- What each step of a client keeps, and each process's instructions, is true of all clients of a reached cluster.
use Rattle.std.proofs.Common.{◌≡◌, ℕ, true, List, [], ◌∷◌, Some, sym, ap, ◌∙◌, subst}
use Rattle.sprite_ids.specs.declared.TxNo.{TxNo}
use Rattle.process_machine.specs.Machine.{Machine}
use Rattle.kernel_rpc.specs.declared.call.Arrival.{Arrival}
use Rattle.kernel_rpc.specs.declared.PacketCopy.{PacketCopy}
use Rattle.kernel_rpc.specs.Machine as wires
use Rattle.kernel_rpc.specs.Machine.{arrival}
use Rattle.kernel_steps.specs.declared.Input.{Input}
use Rattle.kernel_steps.specs.declared.Input.TheVariants as inputs
use Rattle.unix_calls.specs.declared.Description.{Description}
use Rattle.client_homes.specs.declared.ClientProcs.{ClientProcs}
use Rattle.client_procs.specs.Boot as client_boot
use Rattle.client_procs.specs.Readers.{with_image}
use Rattle.client_procs.specs.Steps.{client_step}
use Rattle.cluster_kernels.specs.declared.KernelState.{KernelState}
use Rattle.cluster_kernels.specs.declared.KernelState.TheVariants as kernels
use Rattle.cluster_kernels.specs.declared.State.{State}
use Rattle.cluster_kernels.specs.Kernels.{image_put, kernel_step}
use Rattle.cluster_kernels.specs.States.{can_take_at, can_take_by, kernel_at}
use Rattle.cluster_wire.specs.Arriving.{Brings}
use Rattle.cluster_wire.specs.declared.Arrived.TheVariants as arrived
use Rattle.cluster_choices.specs.declared.Choice.{Choice}
use Rattle.cluster_choices.specs.declared.Choice.TheVariants as choices
use Rattle.sprite_cluster.specs.Reached.{At, Chose, Began, Goes, Reached, Took, Lost}
use Rattle.sprite_cluster.proofs.KernelLaws.{BeginsSo, ChangeBrings, IsOwn, Keeps, all_weaken, booted, changed, kernels_last}
use Rattle.sprite_cluster.proofs.ReachedLaws.{Lasts, lasts_on}
use Rattle.client_facts.specs.HomeFacts.{HomeIsOwn}
use Rattle.client_constants.specs.Constants.{KnowsItsCluster}
use Rattle.client_constants.proofs.ConstantLaws.{begins_knowing, image_keeps_knowing, step_keeps_knowing}
use Rattle.client_walks.specs.Hands.{brought}
use Rattle.client_walks.specs.PlacesOnce.{InHand, PlacesAreOnce}
use Rattle.client_walks.proofs.BornLaws.{begins_with_places, image_keeps_places}
use Rattle.client_walks.proofs.OnceLaws.{step_keeps_places}
use Rattle.client_rounds.specs.OneThing.{OneThingEach}
use Rattle.client_rounds.proofs.OneLaws.{begins_with_one_thing, images_keep_one_thing, steps_are_enough, steps_keep_one_thing}
use Rattle.lock_facts.specs.TurnFacts.{KeepsTurnFacts}
use Rattle.lock_facts.proofs.RankKernel.{begins_with_turn_facts, image_keeps_turn_facts, step_keeps_turn_facts}
use Rattle.reached_clients.specs.Clients.{ClientsKnowTheirCluster, HomesAreOwn, OfClient, OfClients, PlacesStayOnce, RoundsStayEnough, StepsEndQuiet, TurnsStayInOrder}
use Rattle.reached_clients.proofs.TakenLaws.{comes_taken, taken_is_new}

-- what a kernel takes is such, where it is a client
abbrev pub SuchFor : (Input → ClientProcs → Type 0) → Input → KernelState → Type 0
SuchFor Such input (kernels.Client client) = Such input client
SuchFor Such input (kernels.Server server) = Unit {0}

module _ (P : ℕ → ClientProcs → Type 0) (Such : Input → ClientProcs → Type 0) (own : (input : Input) (s : ClientProcs) → IsOwn input → Such input s) (images : (kernel pid : ℕ) (image : Machine) (s : ClientProcs) → P kernel s → P kernel (with_image pid image s)) (steps : (kernel : ℕ) (s : ClientProcs) (input : Input) (next : TxNo) (step : ℕ) → Such input s → P kernel s → P kernel (client_step s input next step).0) where
  step_keeps : (kernel : ℕ) (state : KernelState) (input : Input) (next : TxNo) (step : ℕ) → SuchFor Such input state → OfClient P kernel state → OfClient P kernel (kernel_step state input next step).0
  step_keeps kernel (kernels.Client client) input next step such h = steps kernel client input next step such h
  step_keeps kernel (kernels.Server server) input next step such h = tt

  image_keeps : (kernel pid : ℕ) (image : Machine) (state : KernelState) → OfClient P kernel state → OfClient P kernel (image_put pid image state)
  image_keeps kernel pid image (kernels.Client client) h = images kernel pid image client h
  image_keeps kernel pid image (kernels.Server server) h = tt

  own_such : (input : Input) (state : KernelState) → IsOwn input → SuchFor Such input state
  own_such input (kernels.Client client) is = own input client is
  own_such input (kernels.Server server) is = tt

  pub clients_keep : Keeps (OfClient P) (SuchFor Such)
  clients_keep = record { steps = step_keeps; images = image_keeps; own = own_such }

-- and as they begin
pub clients_begin : (P : ℕ → ClientProcs → Type 0) (c : Description) → ((kernel : ℕ) → P kernel (client_boot.boots c kernel)) → BeginsSo c (OfClient P)
clients_begin P c boots [] kernel state e = subst (λ (k : KernelState). OfClient P kernel k) (sym e) (boots kernel)
clients_begin P c boots (path ∷ paths) kernel (kernels.Server made) e = tt
clients_begin P c boots (path ∷ paths) kernel (kernels.Client made) e = absurd e

-- one fact of a client leads to another
client_weaken : (P Q : ℕ → ClientProcs → Type 0) → ((kernel : ℕ) (client : ClientProcs) → P kernel client → Q kernel client) → (kernel : ℕ) (state : KernelState) → OfClient P kernel state → OfClient Q kernel state
client_weaken P Q weaken kernel (kernels.Client client) h = weaken kernel client h
client_weaken P Q weaken kernel (kernels.Server server) h = tt

pub clients_weaken : (P Q : ℕ → ClientProcs → Type 0) → ((kernel : ℕ) (client : ClientProcs) → P kernel client → Q kernel client) → (states : List KernelState) (first : ℕ) → OfClients P first states → OfClients Q first states
clients_weaken P Q weaken states first h = all_weaken (OfClient P) (OfClient Q) (client_weaken P Q weaken) states first h

-- what each step keeps, whatever comes

abbrev Any : Input → ClientProcs → Type 0
Any input s = Unit {0}

any_such : (input : Input) (state : KernelState) → SuchFor Any input state
any_such input (kernels.Client client) = tt
any_such input (kernels.Server server) = tt

knowing_kept : (c : Description) → Keeps (OfClient (KnowsItsCluster c)) (SuchFor Any)
knowing_kept c = clients_keep (KnowsItsCluster c) Any (λ input s is. tt) (image_keeps_knowing c) (λ kernel s input next step any k. step_keeps_knowing c kernel s input next step k)

pub clients_know : {L : Type 0} (faults asked : L → ℕ → ℕ → ℕ) → ClientsKnowTheirCluster faults asked
clients_know {L} faults asked c begun now reached =
    lasts_on faults asked c begun (λ (at : At L). OfClients (KnowsItsCluster c) 1 at.state.kernels) now
    (kernels_last faults asked c begun (OfClient (KnowsItsCluster c)) (SuchFor Any) (knowing_kept c) (clients_begin (KnowsItsCluster c) c (begins_knowing c)) (λ kernel old low past copy input brings state e. any_such input state))
    reached

pub homes_own : {L : Type 0} (faults asked : L → ℕ → ℕ → ℕ) → HomesAreOwn faults asked
homes_own faults asked c begun now reached =
    clients_weaken (KnowsItsCluster c) (λ kernel client. HomeIsOwn client) (λ kernel client k. k.home ∙ sym k.number) now.state.kernels 1 (clients_know faults asked c begun now reached)

-- what comes is new

abbrev pub IsNewFor : Input → ClientProcs → Type 0
IsNewFor input s = InHand (brought input s) s

pub own_new : (input : Input) (s : ClientProcs) → IsOwn input → IsNewFor input s
own_new (inputs.Request tx source body) s own = absurd own
own_new (inputs.Replied tx source body) s own = absurd own
own_new input s own = tt

-- each message that a copy brings a client, and that is new there, is such
abbrev pub ComesSuch : (Input → ClientProcs → Type 0) → Type 0
ComesSuch Such = (a : Arrival) (machine : wires.Machine) (copy : PacketCopy) (input : Input) (s : ClientProcs) → Brings a machine copy (arrived.Message input) → IsNewFor input s → Such input s

pub comes_new : ComesSuch IsNewFor
comes_new a machine copy input s brings new = new

-- so what a client's steps keep, where what they take is such, is so of each client of a reached cluster
module _ {L : Type 0} (faults asked : L → ℕ → ℕ → ℕ) (c : Description) (begun : L) (P : ℕ → ClientProcs → Type 0) (Such : Input → ClientProcs → Type 0) (keeps : Keeps (OfClient P) (SuchFor Such)) (comes : ComesSuch Such) (boots : (kernel : ℕ) → P kernel (client_boot.boots c kernel)) where
  comes_at : (kernel : ℕ) (machine : wires.Machine) (copy : PacketCopy) (input : Input) (s : State) → can_take_at kernel input s ≡ true → Brings (arrival machine copy) machine copy (arrived.Message input) → (state : KernelState) → kernel_at kernel s ≡ Some state → SuchFor Such input state
  comes_at kernel machine copy input s can brings (kernels.Client client) e = comes (arrival machine copy) machine copy input client brings (taken_is_new client input (sym (ap (can_take_by input) e) ∙ can))
  comes_at kernel machine copy input s can brings (kernels.Server server) e = tt

  choice_brings : (kernel : ℕ) (choice : Choice) (old now : At L) → Goes faults asked c (Chose kernel choice) old now → ChangeBrings (OfClient P) (SuchFor Such) keeps faults asked c (Chose kernel choice) old
  choice_brings kernel (choices.Deliver number) old now goes = λ low copy input there brings. comes_at kernel old.wire.machine copy input old.state (comes_taken faults asked c kernel number old now copy input goes there brings) brings
  choice_brings kernel (choices.Expire tx) old now goes = λ low. tt
  choice_brings kernel (choices.WriteBack file block) old now goes = λ low. tt

  new_last : Lasts faults asked c begun (λ (at : At L). OfClients P 1 at.state.kernels)
  new_last = record {
    begins = λ first b. booted (OfClient P) c (clients_begin P c boots) c.kernels first.state.kernels 1 b.boots.kernels_are;
    chose = λ kernel choice old now reached goes h. changed (OfClient P) (SuchFor Such) keeps faults asked c (Chose kernel choice) old now (choice_brings kernel choice old now goes) goes h;
    began = λ kernel old now reached goes h. changed (OfClient P) (SuchFor Such) keeps faults asked c (Began kernel) old now tt goes h;
    took = λ kernel b old now reached goes h. changed (OfClient P) (SuchFor Such) keeps faults asked c (Took kernel b) old now tt goes h;
    lost = λ kernel b old now reached goes h. changed (OfClient P) (SuchFor Such) keeps faults asked c (Lost kernel b) old now tt goes h;
  }

  pub clients_last : (now : At L) → Reached faults asked c begun now → OfClients P 1 now.state.kernels
  clients_last now reached = lasts_on faults asked c begun (λ (at : At L). OfClients P 1 at.state.kernels) now new_last reached

-- places are once, one thing at most is on its way to each process, and locks and turns are in order

abbrev IsPlaced : ℕ → ClientProcs → Type 0
IsPlaced kernel s = PlacesAreOnce s × (OneThingEach s × KeepsTurnFacts s.files)

places_kept : Keeps (OfClient IsPlaced) (SuchFor IsNewFor)
places_kept =
    clients_keep IsPlaced IsNewFor own_new (λ kernel pid image s p. (image_keeps_places s pid image p.0, (images_keep_one_thing s pid image p.1.0, image_keeps_turn_facts s pid image p.1.1)))
    (λ kernel s input next step new p. (step_keeps_places s input next step new p.0, (steps_keep_one_thing s input next step new p.0 p.1.0, step_keeps_turn_facts s input next step new p.0 p.1.0 p.1.1)))

placed : {L : Type 0} (faults asked : L → ℕ → ℕ → ℕ) (c : Description) (begun : L) (now : At L) → Reached faults asked c begun now → OfClients IsPlaced 1 now.state.kernels
placed faults asked c begun now reached = clients_last faults asked c begun IsPlaced IsNewFor places_kept comes_new (λ kernel. (begins_with_places c kernel, (begins_with_one_thing c kernel, begins_with_turn_facts c kernel))) now reached

pub places_stay : {L : Type 0} (faults asked : L → ℕ → ℕ → ℕ) → PlacesStayOnce faults asked
places_stay faults asked c begun now reached = clients_weaken IsPlaced (λ kernel client. PlacesAreOnce client) (λ kernel client p. p.0) now.state.kernels 1 (placed faults asked c begun now reached)

-- the rounds of each step are enough

ends_quiet : (kernel : ℕ) (s : ClientProcs) → IsPlaced kernel s → StepsEndQuiet s
ends_quiet kernel s p = record { one = p.1.0; quiet = λ input next step new. steps_are_enough s input next step new p.0 p.1.0 }

pub rounds_stay : {L : Type 0} (faults asked : L → ℕ → ℕ → ℕ) → RoundsStayEnough faults asked
rounds_stay faults asked c begun now reached = clients_weaken IsPlaced (λ kernel client. StepsEndQuiet client) ends_quiet now.state.kernels 1 (placed faults asked c begun now reached)

-- locks, queues and turns are in order

pub turns_stay : {L : Type 0} (faults asked : L → ℕ → ℕ → ℕ) → TurnsStayInOrder faults asked
turns_stay faults asked c begun now reached = clients_weaken IsPlaced (λ kernel client. KeepsTurnFacts client.files) (λ kernel client p. p.1.1) now.state.kernels 1 (placed faults asked c begun now reached)
