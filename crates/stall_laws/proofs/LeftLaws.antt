-- What clients of a reached cluster keep, and what is left of all calls where it can't go on.
use Rattle.std.proofs.Common.{arith, ◌≡◌, ℕ, zero, suc, ◌-◌, ◌≤◌, ◌<◌, true, false, List, [], ◌∷◌, length, slice_get, Some, refl, sym, ◌∙◌, true≢false}
use Rattle.sprite_ids.specs.declared.TxNo.{TxNo}
use Rattle.packet_bodies.specs.declared.Request.{Request}
use Rattle.packet_bodies.specs.declared.Request.TheVariants as requests
use Rattle.kernel_rpc.specs.declared.call.Call.{Call}
use Rattle.kernel_rpc.specs.Machine.{call_of}
use Rattle.unix_calls.specs.declared.Description.{Description}
use Rattle.unix_calls.specs.Lawful.{Lawful}
use Rattle.server_kernel.specs.declared.CallOut.{CallOut}
use Rattle.server_kernel.specs.declared.Server.{Server}
use Rattle.client_homes.specs.declared.ClientProcs.{ClientProcs}
use Rattle.client_requests.specs.Requests.{asks_device, asks_wait}
use Rattle.cluster_kernels.specs.declared.KernelState.{KernelState}
use Rattle.cluster_kernels.specs.declared.KernelState.TheVariants as kernels
use Rattle.cluster_kernels.specs.States.{kernel_at}
use Rattle.sprite_cluster.specs.Reached.{At, Reached}
use Rattle.sprite_cluster.proofs.KernelLaws.{one_at}
use Rattle.reached_domains.specs.Domains.{asked_request}
use Rattle.reached_receivers.specs.Receivers.{IsInside}
use Rattle.reached_receivers.proofs.ReceiverLaws.{owner_inside, packets_inside, requests_kind}
use Rattle.stall_laws.specs.Clients.{AsAsk, AsWait, CallbacksGoToClients, ClientHasCall, ClientsKeepTaken, ClientsKeepUnfinished, GoesToClient, IsCalledBack, IsLeftAtClient, KeptAs, NoCallbackWaits, NoOtherIsLeftAtClients, NoneIsOut, WaitsAndAsksAreLeft}
use Rattle.stall_laws.specs.Runs.{StalledLeavesWaits, StalledStandsStill, StillCantGoOn}
use Rattle.stall_laws.specs.Stalls.{CantGoOn, IsWithOwner}
use Rattle.stall_laws.proofs.CallLaws.{CallSo, Nobody}
use Rattle.stall_laws.proofs.ClientLaws.{kept_as}
use Rattle.stall_laws.proofs.KernelLaws.{KernelSo, NoHand}
use Rattle.stall_laws.proofs.StallLaws.{all_stand, all_taken, call_so, kept_call, no_call_left, none_kept, nothing, nothing_wanted, whatever, whatever_is}
use Rattle.stall_laws.proofs.StillLaws.{stalled_stands}
use Rattle.stall_laws.proofs.TurnLaws.{asks_so}

-- ---- what clients have

-- what a client keeps of a call is what the call asks
module _ {L : Type 0} (faults asked : L → ℕ → ℕ → ℕ) (c : Description) (begun : L) (now : At L) (reached : Reached faults asked c begun now) where
  client_so : (kernel : ℕ) (client : ClientProcs) → 1 ≤ kernel → kernel_at kernel now.state ≡ Some (kernels.Client client) → KernelSo nothing NoHand now.wire.machine kernel (kernels.Client client)
  client_so kernel client low there =
      one_at (KernelSo nothing NoHand now.wire.machine) kernel (kernels.Client client) now.state.kernels low (all_stand faults asked nothing c begun (λ old past. nothing_wanted old.wire.machine old.state) now reached).kernels there

pub clients_keep : {L : Type 0} (faults asked : L → ℕ → ℕ → ℕ) → ClientsKeepTaken faults asked
clients_keep faults asked c begun now tx call client body reached has =
    kept_as now.wire.machine client tx call body (client_so faults asked c begun now reached call.owner client has.numbered has.there).such has.unfinished has.asks
    (kept_call faults asked whatever c begun (whatever_is faults asked c begun) now tx call (kernels.Client client) body reached has.unfinished has.numbered has.taken has.there has.asks refl)

-- ---- where the cluster can't go on

-- the client has the call
has_call : {L : Type 0} (now : At L) (tx : TxNo) (call : Call) (client : ClientProcs) (body : Request) → GoesToClient now tx call client → IsWithOwner call → asked_request call.body ≡ Some body → ClientHasCall now tx call client body
has_call now tx call client body goes is asks = record { unfinished = goes.unfinished; numbered = goes.numbered; taken = is.taken; there = goes.there; asks = asks }

pub unfinished_at_clients : {L : Type 0} (faults asked : L → ℕ → ℕ → ℕ) → ClientsKeepUnfinished faults asked
unfinished_at_clients faults asked c begun now tx call client body reached stuck goes asks =
    clients_keep faults asked c begun now tx call client body reached (has_call now tx call client body goes (all_taken faults asked c begun now tx call reached stuck goes.unfinished) asks)

neither : (tx : TxNo) (client : ClientProcs) (body : Request) → asks_wait body ≡ false → asks_device body ≡ false → KeptAs tx client body → ⊥
neither tx client body no_wait no_ask (AsWait there is) = true≢false (sym is ∙ no_wait)
neither tx client body no_wait no_ask (AsAsk there is) = true≢false (sym is ∙ no_ask)

pub no_other_left : {L : Type 0} (faults asked : L → ℕ → ℕ → ℕ) → NoOtherIsLeftAtClients faults asked
no_other_left faults asked c begun now tx call client body reached stuck goes asks no_wait no_ask =
    neither call.tx client body no_wait no_ask (unfinished_at_clients faults asked c begun now tx call client body reached stuck goes asks)

-- ---- who is to answer

no_first : {A : Type 0} (xs : List A) → ((x : A) → slice_get xs 0 ≡ Some x → ⊥) → xs ≡ []
no_first [] none = refl
no_first (x ∷ xs) none = absurd (none x refl)

-- a kernel of the description is there
there_at : {A : Type 0} (xs : List A) (i : ℕ) → i < length xs → (x : A) × (slice_get xs i ≡ Some x)
there_at [] i h = absurd (omega arith)
there_at (x ∷ xs) zero h = (x, refl)
there_at (x ∷ xs) (suc i) h = there_at xs i (omega arith)

module _ {L : Type 0} (faults asked : L → ℕ → ℕ → ℕ) where
  -- the kernel that is to answer
  pub owner_at : (c : Description) (begun : L) (now : At L) (tx : TxNo) (call : Call) → Reached faults asked c begun now → call_of now.wire.machine tx ≡ Some call → (state : KernelState) × (kernel_at call.owner now.state ≡ Some state)
  owner_at c begun now tx call reached e =
      let many : length now.state.kernels ≡ length c.kernels = (all_stand faults asked nothing c begun (λ old past. nothing_wanted old.wire.machine old.state) now reached).many in
      let within : IsInside c call.owner = owner_inside faults asked c begun now tx call reached e in
      let low : 1 ≤ call.owner = within.0 in
      let high : call.owner ≤ length c.kernels = within.1 in
      there_at now.state.kernels (call.owner - 1) (omega (arith, many, low, high))

  pub callbacks_go : CallbacksGoToClients faults asked
  callbacks_go c begun now tx call request reached e asks = let at = owner_at c begun now tx call reached e in by at.0 at.1
    where
      by : (state : KernelState) → kernel_at call.owner now.state ≡ Some state → (client : ClientProcs) × GoesToClient now tx call client
      by (kernels.Client client) there = (client, record { unfinished = e; numbered = (owner_inside faults asked c begun now tx call reached e).0; there = there })
      by (kernels.Server server) there = let kind : false ≡ true = requests_kind faults asked c begun now tx call (kernels.Server server) (requests.Callback request) reached e there asks in absurd (cc)

  -- ---- callbacks

  pub none_waits : NoCallbackWaits faults asked
  none_waits c begun now reached stuck called = record {
    out = none;
    kept = λ kernel server low there. none_kept faults asked c begun now kernel server reached there (none kernel server low there);
  }
    where
      no_row : (kernel : ℕ) (server : Server) (row : TxNo × CallOut) → 1 ≤ kernel → kernel_at kernel now.state ≡ Some (kernels.Server server) → slice_get server.callbacks 0 ≡ Some row → ⊥
      no_row kernel server row low there first =
          let is : IsCalledBack now row = called kernel server 0 row low there first in
          let goes = callbacks_go c begun now row.0 is.call is.request reached is.unfinished is.asks in
          no_other_left faults asked c begun now row.0 is.call goes.0 (requests.Callback is.request) reached stuck goes.1 is.asks refl refl

      none : (kernel : ℕ) (server : Server) → 1 ≤ kernel → kernel_at kernel now.state ≡ Some (kernels.Server server) → server.callbacks ≡ []
      none kernel server low there = no_first server.callbacks (λ row first. no_row kernel server row low there first)

  -- ---- all calls

  left_at : (c : Description) (begun : L) (now : At L) → Lawful c → Reached faults asked c begun now → CantGoOn c now.wire.machine now.state → NoneIsOut now → (tx : TxNo) (call : Call) → call_of now.wire.machine tx ≡ Some call → IsLeftAtClient now call
  left_at c begun now lawful reached stuck none tx call e = let at = owner_at c begun now tx call reached e in by at.0 at.1
    where
      low : 1 ≤ call.owner
      low = (owner_inside faults asked c begun now tx call reached e).0

      k : CallSo c Nobody call
      k = call_so faults asked c begun now tx call reached e

      by : (state : KernelState) → kernel_at call.owner now.state ≡ Some state → IsLeftAtClient now call
      by (kernels.Client client) there = record {
        client = client;
        there = there;
        body = k.request;
        asks = asks_so c Nobody call k;
        kept = unfinished_at_clients faults asked c begun now tx call client k.request reached stuck (record { unfinished = e; numbered = low; there = there }) (asks_so c Nobody call k);
      }
      by (kernels.Server server) there = absurd (no_call_left faults asked c begun now tx call server lawful reached stuck (record { unfinished = e; numbered = low; there = there }) (none.out call.owner server low there))

  pub waits_left : WaitsAndAsksAreLeft faults asked
  waits_left c begun now lawful reached stuck called = (let none : NoneIsOut now = none_waits c begun now reached stuck called in record { servers = none; calls = left_at c begun now lawful reached stuck none })

  -- ---- where a run stands stalled

  pub still_stuck : StillCantGoOn faults asked
  still_stuck c begun now reached still = record { still = still; inside = packets_inside faults asked c begun now reached }

  pub stalled_stuck : StalledStandsStill faults asked
  stalled_stuck c begun now reached e = stalled_stands c now.trace now.wire.machine now.state e (packets_inside faults asked c begun now reached)

  pub stalled_leaves : StalledLeavesWaits faults asked
  stalled_leaves c begun now lawful reached e called = waits_left c begun now lawful reached (stalled_stuck c begun now reached e) called
