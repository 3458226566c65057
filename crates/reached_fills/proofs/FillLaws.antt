-- The first of those operations that fill blocks does so, in each client of a reached cluster.
use Rattle.std.proofs.Common.{◌≡◌, ℕ, ◌+◌, ◌≤◌, ◌==◌, Bool, true, false, ◌&&◌, ◌||◌, nat_le, List, [], ◌∷◌, refl, sym, subst}
use Rattle.std.proofs.lemmas.Bool.{and_parts, eqb-true, leb-true}
use Rattle.kernel_rpc.specs.declared.PacketCopy.{PacketCopy}
use Rattle.kernel_rpc.specs.declared.call.Arrival.{Arrival}
use Rattle.kernel_rpc.specs.declared.call.Arrival.TheVariants.{FirstRequest, FirstReply, AskedAgain, Past}
use Rattle.kernel_rpc.specs.Machine.{Machine}
use Rattle.kernel_steps.specs.declared.Input.{Input}
use Rattle.kernel_steps.specs.declared.Input.TheVariants as inputs
use Rattle.packet_bodies.specs.declared.Body.{Body}
use Rattle.packet_bodies.specs.declared.Body.TheVariants as bodies
use Rattle.sprite_ids.specs.declared.TxNo.{TxNo}
use Rattle.unix_calls.specs.declared.Description.{Description}
use Rattle.client_homes.specs.declared.ClientProcs.{ClientProcs}
use Rattle.client_procs.specs.Boot.{boots}
use Rattle.cluster_wire.specs.Arriving.{Brings, reply_in, request_in}
use Rattle.cluster_wire.specs.declared.Arrived.{Arrived}
use Rattle.cluster_wire.specs.declared.Arrived.TheVariants as arrived
use Rattle.cluster_kernels.specs.declared.KernelState.{KernelState}
use Rattle.cluster_kernels.specs.declared.KernelState.TheVariants as kernels
use Rattle.sprite_cluster.specs.Everywhere.{OfAll}
use Rattle.sprite_cluster.specs.Reached.{At, Reached}
use Rattle.sprite_cluster.proofs.KernelLaws.{IsOwn, Keeps, kernels_last}
use Rattle.sprite_cluster.proofs.ReachedLaws.{lasts_on}
use Rattle.client_walks.specs.PlacesOnce.{PlacesAreOnce}
use Rattle.client_walks.proofs.BornLaws.{begins_with_places, image_keeps_places}
use Rattle.client_walks.proofs.OnceLaws.{step_keeps_places}
use Rattle.client_rounds.specs.OneThing.{OneThingEach}
use Rattle.client_rounds.proofs.OneLaws.{begins_with_one_thing, images_keep_one_thing, steps_keep_one_thing}
use Rattle.client_facts.specs.FileFacts.{TurnsAreInOrder}
use Rattle.fill_facts.specs.FillFacts.{AreShort, KeepsFillFacts}
use Rattle.fill_facts.specs.ShortFacts.{ComesWithinLimits}
use Rattle.fill_facts.proofs.KernelFacts.{begins_with_fill_facts, fills_are_in_order, image_keeps_fill_facts, step_keeps_fill_facts}
use Rattle.fill_facts.specs.NoCache.{HasNoCache}
use Rattle.fill_facts.proofs.NoCache.{begins_with_no_cache, image_keeps_no_cache, no_turns_are_in_order, step_keeps_no_cache}
use Rattle.fill_facts.proofs.Shorts.{begins_short, image_keeps_short, step_keeps_short}
use Rattle.reached_clients.specs.Clients.{OfClient, OfClients}
use Rattle.reached_clients.proofs.ClientLaws.{IsNewFor, SuchFor, clients_begin, clients_keep, clients_last, comes_new, own_new}
use Rattle.reached_fills.specs.Fills.{FillsStayInOrder, OperationsStayShort}

-- No operation moves more bytes than a program's call may

-- a call that a kernel takes is within its limits
abbrev Within : Input → ClientProcs → Type 0
Within input s = ComesWithinLimits input

own_within : (input : Input) (s : ClientProcs) → IsOwn input → Within input s
own_within (inputs.Issued pid number call) s is = is
own_within (inputs.Request tx source body) s is = tt
own_within (inputs.Replied tx source body) s is = tt
own_within (inputs.GaveUp tx) s is = tt
own_within (inputs.Due file block) s is = tt
own_within (inputs.PageNeeded pid page) s is = tt

-- a packet brings no call
abbrev MessageWithin : Arrived → Type 0
MessageWithin (arrived.Message input) = ComesWithinLimits input
MessageWithin came = Unit {0}

request_within : (tx : TxNo) (source : ℕ) (body : Body) → MessageWithin (request_in tx source body)
request_within tx source (bodies.Request body) = tt
request_within tx source (bodies.Reply body) = tt

reply_within : (tx : TxNo) (source : ℕ) (body : Body) → MessageWithin (reply_in tx source body)
reply_within tx source (bodies.Request body) = tt
reply_within tx source (bodies.Reply body) = tt

brought_within : (a : Arrival) (machine : Machine) (copy : PacketCopy) (came : Arrived) → Brings a machine copy came → MessageWithin came
brought_within FirstRequest machine copy came brings = subst MessageWithin (sym brings.2) (request_within copy.tx brings.0.from brings.0.body)
brought_within FirstReply machine copy came brings = subst MessageWithin (sym brings.2) (reply_within copy.tx brings.0.from brings.0.body)
brought_within AskedAgain machine copy came brings = subst MessageWithin (sym brings.1) tt
brought_within Past machine copy came brings = subst MessageWithin (sym brings) tt

such_within : (input : Input) (state : KernelState) → ComesWithinLimits input → SuchFor Within input state
such_within input (kernels.Client client) within = within
such_within input (kernels.Server server) within = tt

abbrev Short : ℕ → ClientProcs → Type 0
Short kernel s = AreShort s.files

short_kept : Keeps (OfClient Short) (SuchFor Within)
short_kept = clients_keep Short Within own_within (λ kernel pid image s p. image_keeps_short s pid image p) (λ kernel s input next step within p. step_keeps_short s input next step within p)

pub short_stay : {L : Type 0} (faults asked : L → ℕ → ℕ → ℕ) → OperationsStayShort faults asked
short_stay {L} faults asked c begun now reached =
    lasts_on faults asked c begun (λ (at : At L). OfClients Short 1 at.state.kernels) now
    (kernels_last faults asked c begun (OfClient Short) (SuchFor Within) short_kept (clients_begin Short c (begins_short c))
    (λ kernel old low past copy input brings state e. such_within input state (brought_within _ old.wire.machine copy (arrived.Message input) brings)))
    reached

-- The first of those that fill does so

record IsFilling (s : ClientProcs) : Type 0 where
  places : PlacesAreOnce s
  one : OneThingEach s
  fills : KeepsFillFacts s.files

abbrev Filling : ℕ → ClientProcs → Type 0
Filling kernel s = IsFilling s

filling_kept : Keeps (OfClient Filling) (SuchFor IsNewFor)
filling_kept =
    clients_keep Filling IsNewFor own_new
    (λ kernel pid image s p. record {
      places = image_keeps_places s pid image p.places;
      one = images_keep_one_thing s pid image p.one;
      fills = image_keeps_fill_facts s pid image p.fills;
    })
    (λ kernel s input next step new p. record {
      places = step_keeps_places s input next step new p.places;
      one = steps_keep_one_thing s input next step new p.places p.one;
      fills = step_keeps_fill_facts s input next step new p.places p.one p.fills;
    })

begins_filling : (c : Description) (kernel : ℕ) → 8 ≤ c.cache → Filling kernel (boots c kernel)
begins_filling c kernel eight = record { places = begins_with_places c kernel; one = begins_with_one_thing c kernel; fills = begins_with_fill_facts c kernel eight }

-- a lawful description gives no cache, or one of eight blocks or more
eight_of : (c : Description) → (false || (nat_le 8 c.cache && nat_le c.cache 4096)) ≡ true → 8 ≤ c.cache
eight_of c e = leb-true 8 c.cache (and_parts (nat_le 8 c.cache) (nat_le c.cache 4096) e).0

-- Both together

fills_at : (kernel : ℕ) (state : KernelState) → OfClient Filling kernel state → OfClient Short kernel state → OfClient (λ kernel client. TurnsAreInOrder client.files) kernel state
fills_at kernel (kernels.Client client) fills short = fills_are_in_order client.files fills.fills short
fills_at kernel (kernels.Server server) fills short = tt

fills_all : (states : List KernelState) (first : ℕ) → OfAll (OfClient Filling) first states → OfAll (OfClient Short) first states → OfAll (OfClient (λ kernel client. TurnsAreInOrder client.files)) first states
fills_all [] first fills short = tt
fills_all (state ∷ states) first fills short = (fills_at first state fills.0 short.0, fills_all states (first + 1) fills.1 short.1)

-- Clients without a cache

abbrev Bare : ℕ → ClientProcs → Type 0
Bare kernel s = HasNoCache s.files

bare_kept : Keeps (OfClient Bare) (SuchFor IsNewFor)
bare_kept = clients_keep Bare IsNewFor own_new (λ kernel pid image s p. image_keeps_no_cache s pid image p) (λ kernel s input next step new p. step_keeps_no_cache s input next step p)

bare_at : (kernel : ℕ) (state : KernelState) → OfClient Bare kernel state → OfClient (λ kernel client. TurnsAreInOrder client.files) kernel state
bare_at kernel (kernels.Client client) bare = no_turns_are_in_order client.files bare
bare_at kernel (kernels.Server server) bare = tt

bare_all : (states : List KernelState) (first : ℕ) → OfAll (OfClient Bare) first states → OfAll (OfClient (λ kernel client. TurnsAreInOrder client.files)) first states
bare_all [] first bare = tt
bare_all (state ∷ states) first bare = (bare_at first state bare.0, bare_all states (first + 1) bare.1)

-- For every lawful description

stays_by : {L : Type 0} (faults asked : L → ℕ → ℕ → ℕ) (c : Description) (begun : L) (now : At L) (none : Bool) → (c.cache == 0) ≡ none → (none || (nat_le 8 c.cache && nat_le c.cache 4096)) ≡ true → Reached faults asked c begun now → OfClients (λ kernel client. TurnsAreInOrder client.files) 1 now.state.kernels
stays_by faults asked c begun now true e lawful reached =
    bare_all now.state.kernels 1 (clients_last faults asked c begun Bare IsNewFor bare_kept comes_new (λ kernel. begins_with_no_cache c kernel (eqb-true c.cache 0 e)) now reached)
stays_by faults asked c begun now false e lawful reached =
    fills_all now.state.kernels 1 (clients_last faults asked c begun Filling IsNewFor filling_kept comes_new (λ kernel. begins_filling c kernel (eight_of c lawful)) now reached) (short_stay faults asked c begun now reached)

pub fills_stay : {L : Type 0} (faults asked : L → ℕ → ℕ → ℕ) → FillsStayInOrder faults asked
fills_stay faults asked c begun now lawful reached = stays_by faults asked c begun now (c.cache == 0) refl lawful.cache reached
