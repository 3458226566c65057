-- What a cluster waits for that can't go on: which remote calls are unfinished then, and where they are kept.
use Rattle.std.specs.Prelude.{◌≡◌, ◌≤◌, ℕ, true, false, List, [], length, None, Some}
use Rattle.std.specs.List.{AllByRecursion}
use Rattle.sprite_ids.specs.declared.FileId.{FileId}
use Rattle.sprite_ids.specs.declared.Finish.TheVariants as finish
use Rattle.sprite_ids.specs.declared.TxNo.{TxNo}
use Rattle.packet_bodies.specs.declared.Request.{Request}
use Rattle.kernel_rpc.specs.declared.call.Call.{Call}
use Rattle.kernel_rpc.specs.declared.call.Part.TheVariants.{Holding}
use Rattle.kernel_rpc.specs.Machine.{Machine, call_of, part_of}
use Rattle.unix_calls.specs.declared.Description.{Description}
use Rattle.unix_calls.specs.declared.Rec.{Rec}
use Rattle.unix_calls.specs.Lawful.{Lawful}
use Rattle.server_kernel.specs.declared.Asked.{Asked}
use Rattle.server_kernel.specs.declared.Server.{Server}
use Rattle.server_kernel.specs.Files.{is_busy}
use Rattle.server_answers.specs.Servers.{IsKept}
use Rattle.kept_requests.specs.Kept.{KeepsSuch, is_always_answered}
use Rattle.cluster_kernels.specs.declared.KernelState.TheVariants as kernels
use Rattle.cluster_kernels.specs.declared.State.{State}
use Rattle.cluster_kernels.specs.States.{kernel_at}
use Rattle.sprite_cluster.specs.Finishing.{IsStill, finish_of}
use Rattle.sprite_cluster.specs.Reached.{At, Reached}
use Rattle.reached_servers.specs.Servers.{ServersHave}
use Rattle.reached_domains.specs.Domains.{asked_request}
use Rattle.reached_receivers.specs.Receivers.{GoesInside}

-- ---- who has a call

-- the owner of a call took its request and hasn't answered it
pub record IsWithOwner (call : Call) : Type 0 where
  pub taken : part_of call.owner call.receivers ≡ Some Holding
  pub unanswered : call.reply ≡ None

-- between two changes of a reached cluster nobody else has a call: a server that is asked for the server of a prefix and isn't that has
-- gone silent
abbrev pub OwnersAloneHold : {L : Type 0} → (L → ℕ → ℕ → ℕ) → (L → ℕ → ℕ → ℕ) → Type 0
OwnersAloneHold {L} faults asked =
    (c : Description) (begun : L) (now : At L) (tx : TxNo) (call : Call) (kernel : ℕ) → Reached faults asked c begun now
    → call_of now.wire.machine tx ≡ Some call → part_of kernel call.receivers ≡ Some Holding → kernel ≡ call.owner

-- ---- a cluster that can't go on

-- nothing can happen: no kernel has a choice or a process that can run, no burst is out; and each packet in flight goes to one of these kernels
pub record CantGoOn (c : Description) (machine : Machine) (s : State) : Type 0 where
  pub still : IsStill (length c.kernels) machine s
  pub inside : AllByRecursion (GoesInside c) machine.copies

-- so it is with a run that stands stalled
abbrev pub StalledCantGoOn : Type 0
StalledCantGoOn = (c : Description) (trace : List Rec) (machine : Machine) (s : State) → finish_of c trace machine s ≡ finish.Stalled → AllByRecursion (GoesInside c) machine.copies → CantGoOn c machine s

-- no packet is in flight then
abbrev pub NothingFlies : Type 0
NothingFlies = (c : Description) (machine : Machine) (s : State) → CantGoOn c machine s → machine.copies ≡ []

-- where a reached cluster can't go on, each unfinished call is with its owner
abbrev pub AllCallsAreTaken : {L : Type 0} → (L → ℕ → ℕ → ℕ) → (L → ℕ → ℕ → ℕ) → Type 0
AllCallsAreTaken {L} faults asked =
    (c : Description) (begun : L) (now : At L) (tx : TxNo) (call : Call) → Reached faults asked c begun now → CantGoOn c now.wire.machine now.state
    → call_of now.wire.machine tx ≡ Some call → IsWithOwner call

-- ---- calls that servers have

-- the request of a call, as its owner takes it
abbrev pub asked_of : Call → Request → Asked
asked_of call body = record { tx = call.tx; from = call.from; body = body }

-- the server of that number has the call: it is the owner, and took its request
pub record HasCall {L : Type 0} (now : At L) (tx : TxNo) (call : Call) (server : Server) (body : Request) : Type 0 where
  pub unfinished : call_of now.wire.machine tx ≡ Some call
  pub numbered : 1 ≤ call.owner
  pub taken : part_of call.owner call.receivers ≡ Some Holding
  pub there : kernel_at call.owner now.state ≡ Some (kernels.Server server)
  pub asks : asked_request call.body ≡ Some body

-- in a reached cluster each such call is kept at its server, where servers always have an answer to it: its request waits for callbacks or
-- for its file
abbrev pub TakenAreKept : {L : Type 0} → (L → ℕ → ℕ → ℕ) → (L → ℕ → ℕ → ℕ) → Type 0
TakenAreKept {L} faults asked =
    (c : Description) (begun : L) (now : At L) (tx : TxNo) (call : Call) (server : Server) (body : Request) → Reached faults asked c begun now
    → HasCall now tx call server body → is_always_answered body ≡ true → IsKept server (asked_of call body)

-- and so is every call to a server of a lawful description
abbrev pub AllTakenAreKept : {L : Type 0} → (L → ℕ → ℕ → ℕ) → (L → ℕ → ℕ → ℕ) → Type 0
AllTakenAreKept {L} faults asked =
    (c : Description) (begun : L) (now : At L) (tx : TxNo) (call : Call) (server : Server) (body : Request) → Lawful c → Reached faults asked c begun now
    → HasCall now tx call server body → IsKept server (asked_of call body)

-- what servers of reached clusters keep may be kept
abbrev pub ServersKeepSuch : {L : Type 0} → (L → ℕ → ℕ → ℕ) → (L → ℕ → ℕ → ℕ) → Type 0
ServersKeepSuch faults asked = ServersHave faults asked KeepsSuch

-- ---- what is left at servers where the cluster can't go on

-- an unfinished call goes to the server
pub record GoesToServer {L : Type 0} (now : At L) (tx : TxNo) (call : Call) (server : Server) : Type 0 where
  pub unfinished : call_of now.wire.machine tx ≡ Some call
  pub numbered : 1 ≤ call.owner
  pub there : kernel_at call.owner now.state ≡ Some (kernels.Server server)

-- where a reached cluster can't go on, each such call to which servers always have an answer is kept there
abbrev pub UnfinishedAreKept : {L : Type 0} → (L → ℕ → ℕ → ℕ) → (L → ℕ → ℕ → ℕ) → Type 0
UnfinishedAreKept {L} faults asked =
    (c : Description) (begun : L) (now : At L) (tx : TxNo) (call : Call) (server : Server) (body : Request) → Reached faults asked c begun now → CantGoOn c now.wire.machine now.state
    → GoesToServer now tx call server → asked_request call.body ≡ Some body → is_always_answered body ≡ true → IsKept server (asked_of call body)

-- and each such call at all, of a lawful description
abbrev pub AllUnfinishedAreKept : {L : Type 0} → (L → ℕ → ℕ → ℕ) → (L → ℕ → ℕ → ℕ) → Type 0
AllUnfinishedAreKept {L} faults asked =
    (c : Description) (begun : L) (now : At L) (tx : TxNo) (call : Call) (server : Server) (body : Request) → Lawful c → Reached faults asked c begun now → CantGoOn c now.wire.machine now.state
    → GoesToServer now tx call server → asked_request call.body ≡ Some body → IsKept server (asked_of call body)

-- a server keeps no request, and none of its files is busy
pub record KeepsNothing (s : Server) : Type 0 where
  pub free : (file : FileId) → is_busy file s ≡ false
  pub asking : s.asking ≡ []
  pub waiting : s.waiting ≡ []

-- so it is with each server of a reached cluster of which no callback is out
abbrev pub NoCallbackNothingKept : {L : Type 0} → (L → ℕ → ℕ → ℕ) → (L → ℕ → ℕ → ℕ) → Type 0
NoCallbackNothingKept faults asked = ServersHave faults asked (λ s. s.callbacks ≡ [] → KeepsNothing s)

-- where a reached cluster can't go on, no call is unfinished that goes to such a server, and to which servers always have an answer
abbrev pub NoneIsLeftAtServers : {L : Type 0} → (L → ℕ → ℕ → ℕ) → (L → ℕ → ℕ → ℕ) → Type 0
NoneIsLeftAtServers {L} faults asked =
    (c : Description) (begun : L) (now : At L) (tx : TxNo) (call : Call) (server : Server) (body : Request) → Reached faults asked c begun now → CantGoOn c now.wire.machine now.state
    → GoesToServer now tx call server → server.callbacks ≡ [] → asked_request call.body ≡ Some body → is_always_answered body ≡ false

-- and no call at all that goes to such a server, of a lawful description
abbrev pub NoCallIsLeftAtServers : {L : Type 0} → (L → ℕ → ℕ → ℕ) → (L → ℕ → ℕ → ℕ) → Type 0
NoCallIsLeftAtServers {L} faults asked =
    (c : Description) (begun : L) (now : At L) (tx : TxNo) (call : Call) (server : Server) → Lawful c → Reached faults asked c begun now → CantGoOn c now.wire.machine now.state
    → GoesToServer now tx call server → server.callbacks ≡ [] → ⊥
