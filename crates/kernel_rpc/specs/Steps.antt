-- Calls of the wire as steps of a run.
use Rattle.std.specs.Prelude.{◌≡◌, ◌≢◌, ℕ, ◌==◌, true, false, List, [], ◌∷◌, length, Option}
use Rattle.std.specs.List.{list_any}
use Rattle.sprite_ids.specs.declared.TxNo.{TxNo}
use Rattle.sprite_ids.specs.declared.CopyNo.{CopyNo}
use Rattle.sprite_ids.specs.declared.Tries.{Tries}
use Rattle.sprite_ids.specs.declared.Tries.TheVariants.{Eight}
use Rattle.link_plan.specs.declared.Fate.{Fate}
use Rattle.link_plan.specs.declared.Fate.TheVariants.{Once}
use Rattle.link_plan.specs.Counts.{Asks, IsAsked}
use Rattle.kernel_rpc.specs.declared.results.Delivered.{Delivered}
use Rattle.kernel_rpc.specs.declared.results.Delivered.TheVariants.{Request, Reply, Repeated, Old}
use Rattle.kernel_rpc.specs.declared.results.Expired.{Expired}
use Rattle.kernel_rpc.specs.declared.results.Expired.TheVariants.{Resent, GivenUp}
use Rattle.kernel_rpc.specs.Machine.{answer, begun, call_of, copy_of, is_free, may_answer, may_be_silent, may_expire, new_call, silent}
use Rattle.kernel_rpc.specs.Links.{AsksBack}
use Rattle.kernel_rpc.specs.Results.{Delivers, Expires}
use Rattle.kernel_rpc.specs.Runs.{Act, Begin, Deliver, Answer, Silence, Expire, Counts, MayAct, after}
use Rattle.kernel_rpc.specs.Servers.{AreApart, pairs}
use Rattle.kernel_rpc.specs.Sound.{Wired}

-- the counts of a link
abbrev pub counts_in : {L : Type 0} → (L → ℕ → ℕ → ℕ) → (L → ℕ → ℕ → ℕ) → L → Counts
counts_in faults asked link = record { faults = faults link; asked = asked link }

-- what is done is a step of a run: it may be done, the link answers so in it, and the machine is then the one that the run has
abbrev pub IsStep : {L : Type 0} → (L → ℕ → ℕ → ℕ) → (L → ℕ → ℕ → ℕ) → Wired L → Act → Wired L → Type 0
IsStep faults asked old act new = MayAct old.machine (counts_in faults asked old.link) act (counts_in faults asked new.link) × (new.machine ≡ after old.machine act)

-- the fate of a reply that was sent again
abbrev pub fate_of : {M : Type 0} → Delivered M → Fate
fate_of (Request tx message) = Once
fate_of (Reply tx message) = Once
fate_of (Repeated tx given) = given
fate_of Old = Once

-- the packets of a request that was sent again
abbrev pub sent_in : Expired → List (ℕ × Fate)
sent_in (Resent sent) = sent
sent_in (GivenUp before now) = []

-- what `begin` ensures makes it a step
abbrev pub BeginIsStep : {L : Type 0} → (L → ℕ → ℕ → ℕ) → (L → ℕ → ℕ → ℕ) → Type 0
BeginIsStep {L} faults asked = (old new : Wired L) (from port to : ℕ) (body : List ℕ) (tries : Tries) (about : Option (ℕ × ℕ)) (given : Fate) → from ≢ to → is_free old.machine from port ≡ true → IsAsked (faults old.link) (asked old.link) (faults new.link) (asked new.link) from to given → new.machine ≡ begun (new_call old.machine from port (to ∷ []) to body tries about (faults old.link from to)) ((to, given) ∷ []) old.machine → IsStep faults asked old (Begin from port (to ∷ []) to body tries about (faults old.link from to) ((to, given) ∷ [])) new

-- what `broadcast` ensures makes it a step
abbrev pub BroadcastIsStep : {L : Type 0} → (L → ℕ → ℕ → ℕ) → (L → ℕ → ℕ → ℕ) → Type 0
BroadcastIsStep {L} faults asked = (old new : Wired L) (from port : ℕ) (servers : List ℕ) (owner : ℕ) (body : List ℕ) (about : Option (ℕ × ℕ)) (fates : List Fate) → list_any (λ server. server == from) servers ≡ false → AreApart servers → list_any (λ server. server == owner) servers ≡ true → is_free old.machine from port ≡ true → length fates ≡ length servers → Asks faults asked from old.link new.link (pairs servers fates) → new.machine ≡ begun (new_call old.machine from port servers owner body Eight about (faults old.link from owner)) (pairs servers fates) old.machine → IsStep faults asked old (Begin from port servers owner body Eight about (faults old.link from owner) (pairs servers fates)) new

-- what `deliver` ensures makes it a step
abbrev pub DeliverIsStep : {M L : Type 0} → (List ℕ → Option M) → (L → ℕ → ℕ → ℕ) → (L → ℕ → ℕ → ℕ) → Type 0
DeliverIsStep {M} {L} reading faults asked = (old new : Wired L) (copy : CopyNo) (delivered : Delivered M) → Delivers reading faults asked old new (copy_of old.machine copy) delivered → IsStep faults asked old (Deliver copy (fate_of delivered)) new

-- what `answer` ensures makes it a step
abbrev pub AnswerIsStep : {L : Type 0} → (L → ℕ → ℕ → ℕ) → (L → ℕ → ℕ → ℕ) → Type 0
AnswerIsStep {L} faults asked = (old new : Wired L) (tx : TxNo) (body : List ℕ) (given : Fate) → may_answer old.machine tx ≡ true → AsksBack faults asked old.link new.link given (call_of old.machine tx) → new.machine ≡ answer tx body given old.machine → IsStep faults asked old (Answer tx body given) new

-- what `silent` ensures makes it a step
abbrev pub SilentIsStep : {L : Type 0} → (L → ℕ → ℕ → ℕ) → (L → ℕ → ℕ → ℕ) → Type 0
SilentIsStep {L} faults asked = (old new : Wired L) (tx : TxNo) (at : ℕ) → may_be_silent old.machine tx at ≡ true → new.link ≡ old.link → new.machine ≡ silent tx at old.machine → IsStep faults asked old (Silence tx at) new

-- what `expire` ensures makes it a step
abbrev pub ExpireIsStep : {L : Type 0} → (L → ℕ → ℕ → ℕ) → (L → ℕ → ℕ → ℕ) → Type 0
ExpireIsStep {L} faults asked = (old new : Wired L) (tx : TxNo) (expired : Expired) → may_expire old.machine tx ≡ true → Expires faults asked old new tx (call_of old.machine tx) expired → IsStep faults asked old (Expire tx (sent_in expired)) new
