-- What a new call is, and the packets with which it begins.
use Rattle.std.proofs.Common.{◌≡◌, ℕ, ◌==◌, Bool, true, false, ◌&&◌, not, List, [], ◌∷◌, map, Option, Some, None, refl, sym, ap, subst, ◌∙◌}
use Rattle.std.proofs.Common.{arith, ◌≤◌, ◌+◌}
use Rattle.std.proofs.lemmas.Bool.Decides.{nat_tests}
use Rattle.sprite_ids.specs.declared.Tries.TheVariants.{Eight, Always}
use Rattle.sprite_ids.specs.declared.TxNo.{TxNo}
use Rattle.sprite_ids.specs.declared.Tries.{Tries}
use Rattle.link_plan.specs.declared.Fate.{Fate}
use Rattle.link_plan.specs.Counts.{Asks, IsAsked}
use Rattle.kernel_rpc.specs.declared.call.Call.{Call}
use Rattle.kernel_rpc.specs.declared.call.PacketCopy.{PacketCopy}
use Rattle.kernel_rpc.specs.declared.call.Part.{Part}
use Rattle.kernel_rpc.specs.declared.call.Part.TheVariants.{Waiting, Holding, Silent, Answered}
use Rattle.kernel_rpc.specs.declared.call.Receiver.{Receiver}
use Rattle.kernel_rpc.specs.Machine.{fresh, gave_up, holds, is_due, is_last, is_last_of, is_owner, may_fire, owner_of, part_in, part_of}
use Rattle.kernel_rpc.specs.Results.{Expires}
use Rattle.kernel_rpc.specs.Sound.{Wired}
use Rattle.kernel_rpc.specs.declared.results.Expired.TheVariants.{GivenUp}
use Rattle.kernel_rpc.specs.Servers.{pairs}

-- the kernels of new receivers
pub kernels_fresh : (servers : List ℕ) → map (λ (receiver : Receiver). receiver.kernel) (map fresh servers) ≡ servers
kernels_fresh [] = refl
kernels_fresh (server ∷ servers) = ap (λ rest. server ∷ rest) (kernels_fresh servers)

-- packets are the pairs of their receivers and fates
pub pairs_of : (sent : List (ℕ × Fate)) → pairs (map (λ (packet : ℕ × Fate). packet.0) sent) (map (λ (packet : ℕ × Fate). packet.1) sent) ≡ sent
pairs_of [] = refl
pairs_of (packet ∷ sent) = ap (λ rest. packet ∷ rest) (pairs_of sent)

-- the one packet of a call to one kernel
pub only_packet : (sent : List (ℕ × Fate)) (to : ℕ) (given : Fate) → map (λ (packet : ℕ × Fate). packet.0) sent ≡ to ∷ [] → map (λ (packet : ℕ × Fate). packet.1) sent ≡ given ∷ [] → sent ≡ (to, given) ∷ []
only_packet sent to given e k = sym (pairs_of sent) ∙ ap (λ kernels. pairs kernels (map (λ (packet : ℕ × Fate). packet.1) sent)) e ∙ ap (pairs (to ∷ [])) k

-- the link was asked about the one packet
pub asked_once : {L : Type 0} (faults asked : L → ℕ → ℕ → ℕ) (from : ℕ) (before after : L) (to : ℕ) (given : Fate) → Asks faults asked from before after ((to, given) ∷ []) → IsAsked (faults before) (asked before) (faults after) (asked after) from to given
asked_once faults asked from before after to given h = subst (λ link. IsAsked (faults before) (asked before) (faults link) (asked link) from to given) h.2 h.1

-- a call that may expire is there, and is due
pub may_expire_due : (copies : List PacketCopy) (o : Option Call) → may_fire copies o ≡ true → (call : Call) × (o ≡ Some call) × (is_due copies call ≡ true)
may_expire_due copies None h = absurd (cc)
may_expire_due copies (Some call) h = (call, refl, h)

held_part : (part : Option Part) → holds part ≡ true → part ≡ Some Holding
held_part None h = absurd (cc)
held_part (Some Waiting) h = absurd (cc)
held_part (Some Holding) h = refl
held_part (Some Silent) h = absurd (cc)
held_part (Some Answered) h = absurd (cc)

-- a call that may be answered is there, and its owner has it
pub may_answer_held : (o : Option Call) → holds (part_in (owner_of o) o) ≡ true → (call : Call) × (o ≡ Some call) × (part_of call.owner call.receivers ≡ Some Holding)
may_answer_held None h = absurd (cc)
may_answer_held (Some call) h = (call, refl, held_part (part_of call.owner call.receivers) h)

silent_by : (held owner : Bool) → (held && not owner) ≡ true → owner ≡ false
silent_by true true h = absurd (cc)
silent_by true false h = refl
silent_by false owner h = absurd (cc)

-- a call at which a kernel may go silent is there, and the kernel isn't its owner
pub may_be_silent_apart : (kernel : ℕ) (o : Option Call) → (holds (part_in kernel o) && not (is_owner kernel o)) ≡ true → (call : Call) × (o ≡ Some call) × ((call.owner == kernel) ≡ false)
may_be_silent_apart kernel None h = absurd (cc)
may_be_silent_apart kernel (Some call) h = (call, refl, silent_by (holds (part_of kernel call.receivers)) (call.owner == kernel) h)

last_lost : (tries : Tries) (lost : ℕ) → is_last_of tries lost ≡ true → 7 ≤ lost
last_lost Eight lost h = grind (arith, nat_tests)
last_lost Always lost h = absurd (cc)

-- before the last try seven were lost
pub before_last : (call : Call) → is_last call ≡ true → 7 ≤ call.lost
before_last call h = last_lost call.tries call.lost h

-- what becomes of a call that is given up
pub gives_up : {L : Type 0} (faults asked : L → ℕ → ℕ → ℕ) (before after : Wired L) (tx : TxNo) (o : Option Call) (call : Call) (now : ℕ) → o ≡ Some call → is_last call ≡ true → now ≡ faults before.link call.from call.owner → call.before + 8 ≤ now → after.link ≡ before.link → after.machine ≡ gave_up tx before.machine → Expires faults asked before after tx o (GivenUp call.before now)
gives_up faults asked before after tx o call now found last is apart same there = subst (λ o. Expires faults asked before after tx o (GivenUp call.before now)) (sym found) (last, refl, is, apart, same, there)
