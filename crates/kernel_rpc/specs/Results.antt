-- What the wire answers when a copy comes and when a timer fires.
use Rattle.std.specs.Prelude.{◌≡◌, ℕ, ◌+◌, ◌≤◌, List, Option, Some, None, false, true}
use Rattle.link_plan.specs.declared.Fate.TheVariants.{Once}
use Rattle.sprite_ids.specs.declared.TxNo.{TxNo}
use Rattle.kernel_rpc.specs.declared.call.Arrival.TheVariants.{FirstRequest, FirstReply, AskedAgain, Past}
use Rattle.kernel_rpc.specs.declared.call.Call.{Call}
use Rattle.kernel_rpc.specs.declared.call.PacketCopy.{PacketCopy}
use Rattle.kernel_rpc.specs.declared.results.Delivered.{Delivered}
use Rattle.kernel_rpc.specs.declared.results.Delivered.TheVariants.{Request, Reply, Repeated, Old}
use Rattle.kernel_rpc.specs.declared.results.Expired.{Expired}
use Rattle.kernel_rpc.specs.declared.results.Expired.TheVariants.{Resent, GivenUp}
use Rattle.kernel_rpc.specs.Machine.{arrival, call_of, delivered_as, gave_up, is_last, landed, resent}
use Rattle.kernel_rpc.specs.Sound.{Wired}
use Rattle.kernel_rpc.specs.Bodies.{IsMessage, body_of, reply_of}
use Rattle.kernel_rpc.specs.Links.{AsksAll, AsksBack}

-- what is handed out when a copy comes: the request of its call, the reply to it, a fate of the reply that was sent again, or
-- nothing; exactly by what the copy is to its receiver. The link is asked where the reply is sent again, and else not
abbrev pub HandsOut : {M L : Type 0} → (List ℕ → Option M) → (L → ℕ → ℕ → ℕ) → (L → ℕ → ℕ → ℕ) → Wired L → Wired L → PacketCopy → Delivered M → Type 0
HandsOut reading faults asked before after copy (Request tx message) = (arrival before.machine copy ≡ FirstRequest) × (tx ≡ copy.tx) × IsMessage reading (body_of (call_of before.machine tx)) message × (after.link ≡ before.link) × (after.machine ≡ delivered_as FirstRequest copy Once (landed copy before.machine))
HandsOut reading faults asked before after copy (Reply tx message) = (arrival before.machine copy ≡ FirstReply) × (tx ≡ copy.tx) × IsMessage reading (reply_of (call_of before.machine tx)) message × (after.link ≡ before.link) × (after.machine ≡ delivered_as FirstReply copy Once (landed copy before.machine))
HandsOut reading faults asked before after copy (Repeated tx answer) = (arrival before.machine copy ≡ AskedAgain) × (tx ≡ copy.tx) × AsksBack faults asked before.link after.link answer (call_of before.machine tx) × (after.machine ≡ delivered_as AskedAgain copy answer (landed copy before.machine))
HandsOut reading faults asked before after copy Old = (arrival before.machine copy ≡ Past) × (after.link ≡ before.link) × (after.machine ≡ landed copy before.machine)

-- and that of a looked-up copy
abbrev pub Delivers : {M L : Type 0} → (List ℕ → Option M) → (L → ℕ → ℕ → ℕ) → (L → ℕ → ℕ → ℕ) → Wired L → Wired L → Option PacketCopy → Delivered M → Type 0
Delivers reading faults asked before after None delivered = ⊥
Delivers reading faults asked before after (Some copy) delivered = HandsOut reading faults asked before after copy delivered

-- what becomes of a looked-up call whose timer fires: it is sent again, or given up where this was its last try, with two fault
-- counts that differ by at least eight
abbrev pub Expires : {L : Type 0} → (L → ℕ → ℕ → ℕ) → (L → ℕ → ℕ → ℕ) → Wired L → Wired L → TxNo → Option Call → Expired → Type 0
Expires faults asked before after tx None expired = ⊥
Expires faults asked before after tx (Some call) (Resent sent) = (is_last call ≡ false) × AsksAll faults asked before.link after.link sent (Some call) × (after.machine ≡ resent tx (Some call) sent before.machine)
Expires faults asked before after tx (Some call) (GivenUp old now) = (is_last call ≡ true) × (old ≡ call.before) × (now ≡ faults before.link call.from call.owner) × (old + 8 ≤ now) × (after.link ≡ before.link) × (after.machine ≡ gave_up tx before.machine)
