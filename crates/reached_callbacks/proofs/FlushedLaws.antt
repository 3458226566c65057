-- Of each reached cluster: how callbacks are answered.
use Rattle.std.proofs.Common.{◌≡◌, ℕ, ◌-◌, ◌==◌, Bool, true, false, ◌&&◌, ◌||◌, not, List, [], ◌∷◌, length, slice_get, Option, Some, None, refl, sym, ap, ap₂, ◌∙◌, nat_eq}
use Rattle.std.specs.Cmp.Lexicographic.{pointwise}
use Rattle.std.specs.List.{AllByRecursion}
use Rattle.sprite_ids.specs.declared.Flushed.{Flushed}
use Rattle.sprite_ids.specs.declared.TxNo.{TxNo}
use Rattle.sprite_paths.specs.declared.Path.{Path}
use Rattle.packet_bodies.specs.declared.Body.TheVariants as bodies
use Rattle.packet_bodies.specs.declared.CallbackRequest.{CallbackRequest}
use Rattle.packet_bodies.specs.declared.ReplyBody.{ReplyBody}
use Rattle.packet_bodies.specs.declared.ReplyBody.TheVariants as replies
use Rattle.packet_bodies.specs.declared.Request.TheVariants as requests
use Rattle.kernel_rpc.specs.declared.call.Call.{Call}
use Rattle.kernel_rpc.specs.Machine.{Machine, call_of, is_call}
use Rattle.kernel_rpc.proofs.PartLaws.{eq_same}
use Rattle.kernel_rpc.proofs.SoundLaws.{found_sound}
use Rattle.unix_calls.specs.declared.Description.{Description}
use Rattle.unix_calls.specs.declared.KernelLine.{KernelLine}
use Rattle.unix_calls.specs.Domains.{begins_domain}
use Rattle.unix_calls.specs.Tree.{same_path}
use Rattle.server_kernel.specs.Boot.{serves_in}
use Rattle.server_walks.specs.Sorts.{is_flushed}
use Rattle.cluster_kernels.specs.declared.KernelState.TheVariants as kernels
use Rattle.cluster_kernels.specs.States.{kernel_at}
use Rattle.broadcast_laws.specs.Broadcasts.{Parts}
use Rattle.reached_domains.specs.Domains.{asked_request}
use Rattle.reached_domains.proofs.CallLaws.{Told}
use Rattle.reached_domains.proofs.DomainLaws.{all_stand, call_fine, client_is}
use Rattle.reached_callbacks.specs.Callbacks.{BringsFlushed, CallbacksAreFlushed, NoClientHasOne}
use Rattle.reached_callbacks.proofs.KindLaws.{kind_is, serves_some}
use Rattle.reached_callbacks.proofs.SettledLaws.{Settled, IsSettled, settled_reached}

-- ---- a server's path is its own

number_itself : (n : ℕ) → nat_eq n n ≡ true
number_itself n = eq_same n

bytes_itself : (bytes : List ℕ) → pointwise nat_eq bytes bytes ≡ true
bytes_itself [] = refl
bytes_itself (byte ∷ bytes) = ap₂ (λ (a b : Bool). a && b) (number_itself byte) (bytes_itself bytes)

path_itself : (path : Parts) → same_path path path ≡ true
path_itself [] = refl
path_itself (part ∷ parts) = ap₂ (λ (a b : Bool). a && b) (bytes_itself part) (path_itself parts)

first_served : (paths : List Path) → not (length paths == 0) ≡ true → (path : Parts) × (begins_domain paths path ≡ true)
first_served [] e = absurd (cc)
first_served (path ∷ paths) e = (path, ap (λ b. b || begins_domain paths path) (path_itself path))

serves_one : (o : Option KernelLine) → serves_some o ≡ true → (path : Parts) × (begins_domain (serves_in o) path ≡ true)
serves_one None e = absurd (cc)
serves_one (Some line) e = first_served line.serves e

-- ---- the laws

flushed_of : (body : ReplyBody) → is_flushed body ≡ true → (flushed : Flushed) × (body ≡ replies.Flushed flushed)
flushed_of (replies.Flushed flushed) e = (flushed, refl)
flushed_of body e = absurd (cc)

settled_at : (c : Description) (machine : Machine) (tx : TxNo) (call : Call) (request : CallbackRequest) → AllByRecursion (Settled c) machine.unfinished → call_of machine tx ≡ Some call → asked_request call.body ≡ Some (requests.Callback request) → IsSettled c call
settled_at c machine tx call request h there asks = found_sound (Settled c) (is_call tx) call machine.unfinished there h request asks

pub callbacks_flushed : {L : Type 0} (faults asked : L → ℕ → ℕ → ℕ) → CallbacksAreFlushed faults asked
callbacks_flushed faults asked c begun now tx call request reply reached there asks told = by (serves_some (slice_get c.kernels (call.owner - 1))) refl
  where
    by : (b : Bool) → serves_some (slice_get c.kernels (call.owner - 1)) ≡ b → BringsFlushed reply
    by false off = (settled_at c now.wire.machine tx call request (settled_reached faults asked c begun now reached).calls there asks).told off reply told
    by true is =
        let serves = serves_one (slice_get c.kernels (call.owner - 1)) is in
        let so : Told c call.owner call.body reply = (call_fine c now.wire.machine now.state tx call (all_stand faults asked c begun now reached) there).answer reply told in
        let blocks = flushed_of so.body ((so.told (requests.Callback request) asks).fit serves.0 serves.1) in
        record { packet = so.packet; flushed = blocks.0; reads = so.reads; is = so.is ∙ ap bodies.Reply blocks.1 }

pub no_client_has_one : {L : Type 0} (faults asked : L → ℕ → ℕ → ℕ) → NoClientHasOne faults asked
no_client_has_one faults asked c begun now tx call request client reached there asks low e =
    let so = settled_reached faults asked c begun now reached in
    (settled_at c now.wire.machine tx call request so.calls there asks).free (sym (kind_is c.kernels now.state.kernels (call.owner - 1) (kernels.Client client) so.kinds (client_is (kernel_at call.owner now.state) client e)))
