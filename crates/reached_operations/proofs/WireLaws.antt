-- The packets of replies go to who began their calls, and a call stays unfinished until its reply comes or it is given up.
use Rattle.std.proofs.Common.{arith, ◌≡◌, ℕ, ◌+◌, ◌≤◌, ◌==◌, Bool, true, false, ◌&&◌, cond, List, [], ◌∷◌, ◌++◌, Option, Some, None, is_some, refl, sym, ap, subst, ◌∙◌}
use Rattle.std.specs.List.{AllByRecursion, find}
use Rattle.std.proofs.lemmas.Bool.{eqb-true}
use Rattle.sprite_ids.specs.declared.CopyNo.{CopyNo}
use Rattle.sprite_ids.specs.declared.Tries.{Tries}
use Rattle.sprite_ids.specs.declared.TxNo.{TxNo}
use Rattle.sprite_ids.specs.Lists.{changed, less}
use Rattle.sprite_ids.proofs.ListLaws.{each_append, each_push, each_weaken, some_is}
use Rattle.link_plan.specs.declared.Fate.{Fate}
use Rattle.kernel_rpc.specs.declared.call.Arrival.{Arrival}
use Rattle.kernel_rpc.specs.declared.call.Arrival.TheVariants.{FirstRequest, FirstReply, AskedAgain, Past}
use Rattle.kernel_rpc.specs.declared.call.Call.{Call}
use Rattle.kernel_rpc.specs.declared.call.PacketCopy.{PacketCopy}
use Rattle.kernel_rpc.specs.declared.call.Part.{Part}
use Rattle.kernel_rpc.specs.declared.call.Part.TheVariants.{Answered, Holding, Silent, Waiting}
use Rattle.kernel_rpc.specs.Copies.{copies_by, requests}
use Rattle.kernel_rpc.specs.Machine.{Machine, answered, arrival, arrival_at, arrival_back, arrival_of, begun, call_of, copy_of, delivered_as, further, gave_up, idle, is_call, is_copy, is_last, landed, new_call, part_of, replied, reply_to, request, resent, tried}
use Rattle.kernel_rpc.specs.Runs.{Act, Begin, Deliver, Answer, Silence, Expire, after, delivered_by, expired_by, gives_up_by, is_first_reply, is_reply_to}
use Rattle.kernel_rpc.specs.Sound.{HasBegun}
use Rattle.kernel_rpc.proofs.CopyLaws.{each_by, each_request, each_without}
use Rattle.kernel_rpc.proofs.NumberLaws.{changed_same, each_changed}
use Rattle.kernel_rpc.proofs.PartLaws.{eq_same}
use Rattle.kernel_rpc.proofs.RunLaws.{Ordered, ordered_after}
use Rattle.kernel_rpc.proofs.SoundLaws.{each_within, found_is, found_sound}
use Rattle.kernel_rpc.proofs.StayLaws.{stays_until_answered}
use Rattle.kernel_rpc.proofs.TryLaws.{each_kept}

-- ---- copies

-- a copy of the reply to the call of that number goes to that kernel
abbrev IsHome : ℕ → ℕ → PacketCopy → Type 0
IsHome tx from copy = copy.reply ≡ true → copy.tx.0 ≡ tx → copy.to ≡ from

-- so do all of a call's, to who began it
abbrev AreHome : List PacketCopy → Call → Type 0
AreHome copies call = AllByRecursion (IsHome call.tx.0 call.from) copies

-- calls are numbered in their order, copies are of calls that were begun, and those of replies go to who began the calls
pub record Good (machine : Machine) : Type 0 where
  pub ordered : Ordered machine
  pub flying : AllByRecursion (HasBegun machine.begun) machine.copies
  pub home : AllByRecursion (AreHome machine.copies) machine.unfinished

record Flies (machine : Machine) : Type 0 where
  flying : AllByRecursion (HasBegun machine.begun) machine.copies
  home : AllByRecursion (AreHome machine.copies) machine.unfinished

found_low : (machine : Machine) (tx : TxNo) (call : Call) → Ordered machine → call_of machine tx ≡ Some call → call.tx.0 ≤ machine.begun
found_low machine tx call ordered e = found_sound (λ (call : Call). call.tx.0 ≤ machine.begun) (is_call tx) call machine.unfinished e (each_within 0 machine.begun machine.unfinished ordered)

landed_flies : (copy : PacketCopy) (machine : Machine) → Flies machine → Flies (landed copy machine)
landed_flies copy machine h = record {
  flying = each_without (HasBegun machine.begun) (is_copy copy.number) machine.copies h.flying;
  home = each_weaken (AreHome machine.copies) (AreHome (less (is_copy copy.number) machine.copies)) machine.unfinished (λ call k. each_without (IsHome call.tx.0 call.from) (is_copy copy.number) machine.copies k) h.home;
}

-- a request's copies are no reply's
more_home : (copies : List PacketCopy) (packet : PacketCopy) (number : ℕ) (sent : List (ℕ × Fate)) (call : Call) → packet.reply ≡ false → AreHome copies call → AreHome (copies ++ requests packet number sent) call
more_home copies packet number sent call asks h =
    each_append (IsHome call.tx.0 call.from) copies (requests packet number sent) h (each_request (IsHome call.tx.0 call.from) packet number sent (λ number to late is same. absurd (let both = sym asks ∙ is in cc)) (λ number to is same. absurd (let both = sym asks ∙ is in cc)))

-- an unfinished call is the only one of its number
apart_numbers : (key : TxNo) (call other : Call) → call.tx.0 ≡ key.0 → is_call key other ≡ false → call.tx.0 ≡ other.tx.0 → ⊥
apart_numbers key call other is apart same = absurd (let there : is_call key other ≡ true = ap (λ (n : ℕ). n == key.0) (sym same ∙ is) ∙ eq_same key.0 in let both = sym there ∙ apart in cc)

replied_home : (machine : Machine) (tx : TxNo) (call : Call) (given : Fate) → Ordered machine → call_of machine tx ≡ Some call → AllByRecursion (AreHome machine.copies) machine.unfinished → AllByRecursion (AreHome (machine.copies ++ copies_by given (reply_to call machine.next_copy))) machine.unfinished
replied_home machine tx call given ordered found h =
    subst (AllByRecursion (AreHome all)) (changed_same (is_call tx) machine.unfinished)
    (each_changed (AreHome machine.copies) (AreHome all) tx (λ other. other) 0 machine.begun machine.unfinished ordered
    (λ other off k. more other k (λ same. absurd (apart_numbers tx call other number off same)))
    (λ this e k. more this k (λ same. ap (λ (c : Call). c.from) (some_is call this (sym found ∙ e)))) h)
  where
    packet : PacketCopy
    packet = reply_to call machine.next_copy

    all : List PacketCopy
    all = machine.copies ++ copies_by given packet

    number : call.tx.0 ≡ tx.0
    number = eqb-true call.tx.0 tx.0 (found_is tx call machine.unfinished found)

    more : (other : Call) → AreHome machine.copies other → (call.tx.0 ≡ other.tx.0 → call.from ≡ other.from) → AreHome all other
    more other k from = each_append (IsHome other.tx.0 other.from) machine.copies (copies_by given packet) k (each_by (IsHome other.tx.0 other.from) given packet (λ is same. from same) (λ is same. from same) (λ is same. from same))

replied_flies : (o : Option Call) (tx : TxNo) (given : Fate) (machine : Machine) → call_of machine tx ≡ o → Ordered machine → Flies machine → Flies (replied o given machine)
replied_flies None tx given machine e ordered h = h
replied_flies (Some call) tx given machine e ordered h =
    let low : call.tx.0 ≤ machine.begun = found_low machine tx call ordered e in
    let packet : PacketCopy = reply_to call machine.next_copy in
    record { flying = each_append (HasBegun machine.begun) machine.copies (copies_by given packet) h.flying (each_by (HasBegun machine.begun) given packet low low low); home = replied_home machine tx call given ordered e h.home }

arrived_flies : (a : Arrival) (copy : PacketCopy) (given : Fate) (machine : Machine) → Ordered machine → Flies (landed copy machine) → Flies (delivered_as a copy given (landed copy machine))
arrived_flies FirstRequest copy given machine ordered h = record { flying = h.flying; home = each_kept (AreHome (landed copy machine).copies) (is_call copy.tx) (further copy.to Holding) (λ call k. k) machine.unfinished h.home }
arrived_flies FirstReply copy given machine ordered h = record { flying = h.flying; home = each_without (AreHome (landed copy machine).copies) (is_call copy.tx) machine.unfinished h.home }
arrived_flies AskedAgain copy given machine ordered h = replied_flies (call_of (landed copy machine) copy.tx) copy.tx given (landed copy machine) refl ordered h
arrived_flies Past copy given machine ordered h = h

delivered_flies : (o : Option PacketCopy) (given : Fate) (machine : Machine) → Ordered machine → Flies machine → Flies (delivered_by o given machine)
delivered_flies None given machine ordered h = h
delivered_flies (Some copy) given machine ordered h = arrived_flies (arrival machine copy) copy given machine ordered (landed_flies copy machine h)

fired_flies : (b : Bool) (tx : TxNo) (call : Call) (sent : List (ℕ × Fate)) (machine : Machine) → call_of machine tx ≡ Some call → Ordered machine → Flies machine → Flies (cond b (gave_up tx machine) (resent tx (Some call) sent machine))
fired_flies true tx call sent machine e ordered h = record { flying = h.flying; home = each_without (AreHome machine.copies) (is_call tx) machine.unfinished h.home }
fired_flies false tx call sent machine e ordered h =
    let low : call.tx.0 ≤ machine.begun = found_low machine tx call ordered e in
    let packet : PacketCopy = request call machine.next_copy call.owner in
    let all : List PacketCopy = machine.copies ++ requests packet machine.next_copy sent in
    record {
      flying = each_append (HasBegun machine.begun) machine.copies (requests packet machine.next_copy sent) h.flying (each_request (HasBegun machine.begun) packet machine.next_copy sent (λ number to late. low) (λ number to. low));
      home = each_kept (AreHome all) (is_call tx) tried (λ other k. k) machine.unfinished (each_weaken (AreHome machine.copies) (AreHome all) machine.unfinished (λ other k. more_home machine.copies packet machine.next_copy sent other refl k) h.home);
    }

expired_flies : (o : Option Call) (tx : TxNo) (sent : List (ℕ × Fate)) (machine : Machine) → call_of machine tx ≡ o → Ordered machine → Flies machine → Flies (expired_by tx o sent machine)
expired_flies None tx sent machine e ordered h = h
expired_flies (Some call) tx sent machine e ordered h = fired_flies (is_last call) tx call sent machine e ordered h

answered_flies : (o : Option Call) (tx : TxNo) (reply : List ℕ) (machine : Machine) (given : Fate) → Flies (replied o given machine) → Flies (record (replied o given machine) { unfinished = changed (is_call tx) (answered reply) (replied o given machine).unfinished })
answered_flies o tx reply machine given h = record { flying = h.flying; home = each_kept (AreHome (replied o given machine).copies) (is_call tx) (answered reply) (λ call k. k) (replied o given machine).unfinished h.home }

begun_flies : (call : Call) (sent : List (ℕ × Fate)) (machine : Machine) → call.tx.0 ≡ machine.begun + 1 → Flies machine → Flies (begun call sent machine)
begun_flies call sent machine number h =
    let packet : PacketCopy = request call machine.next_copy call.owner in
    let all : List PacketCopy = machine.copies ++ requests packet machine.next_copy sent in
    let low : call.tx.0 ≤ machine.begun + 1 = omega (arith, number) in
    record {
      flying = each_append (HasBegun (machine.begun + 1)) machine.copies (requests packet machine.next_copy sent) (each_weaken (HasBegun machine.begun) (HasBegun (machine.begun + 1)) machine.copies (λ copy k. up copy.tx.0 machine.begun k) h.flying) (each_request (HasBegun (machine.begun + 1)) packet machine.next_copy sent (λ number to late. low) (λ number to. low));
      home = each_push (AreHome all) machine.unfinished call (each_weaken (AreHome machine.copies) (AreHome all) machine.unfinished (λ other k. more_home machine.copies packet machine.next_copy sent other refl k) h.home)
          (more_home machine.copies packet machine.next_copy sent call refl (each_weaken (HasBegun machine.begun) (IsHome call.tx.0 call.from) machine.copies (λ copy k is same. absurd (past copy.tx.0 call.tx.0 machine.begun k number same)) h.flying));
    }
  where
    up : (a b : ℕ) → a ≤ b → a ≤ b + 1
    up a b low = omega (arith, low)

    past : (a b begun : ℕ) → a ≤ begun → b ≡ begun + 1 → a ≡ b → ⊥
    past a b begun low number same = absurd (omega (arith, low, number, same))

flies_after : (act : Act) (machine : Machine) → Ordered machine → Flies machine → Flies (after machine act)
flies_after (Begin from port servers owner body tries about before sent) machine ordered h = begun_flies (new_call machine from port servers owner body tries about before) sent machine refl h
flies_after (Deliver number given) machine ordered h = delivered_flies (copy_of machine number) given machine ordered h
flies_after (Answer tx reply given) machine ordered h = answered_flies (call_of machine tx) tx reply machine given (replied_flies (call_of machine tx) tx given machine refl ordered h)
flies_after (Silence tx at) machine ordered h = record { flying = h.flying; home = each_kept (AreHome machine.copies) (is_call tx) (further at Silent) (λ call k. k) machine.unfinished h.home }
flies_after (Expire tx sent) machine ordered h = expired_flies (call_of machine tx) tx sent machine refl ordered h

pub good_after : (machine : Machine) (act : Act) → Good machine → Good (after machine act)
good_after machine act h = let so : Flies (after machine act) = flies_after act machine h.ordered (record { flying = h.flying; home = h.home }) in record { ordered = ordered_after machine act h.ordered; flying = so.flying; home = so.home }

pub good_idle : Good idle
good_idle = record { ordered = omega arith; flying = tt; home = tt }

-- a first reply is a reply
never_at : (part : Option Part) (reply : Option (List ℕ)) → arrival_at part reply ≡ FirstReply → ⊥
never_at None reply e = absurd (cc)
never_at (Some Waiting) reply e = absurd (cc)
never_at (Some Holding) reply e = absurd (cc)
never_at (Some Silent) reply e = absurd (cc)
never_at (Some Answered) None e = absurd (cc)
never_at (Some Answered) (Some bytes) e = absurd (cc)

reply_by : (b : Bool) (back at : Arrival) → (at ≡ FirstReply → ⊥) → cond b back at ≡ FirstReply → b ≡ true
reply_by true back at never e = refl
reply_by false back at never e = absurd (never e)

pub is_reply : (copy : PacketCopy) (o : Option Call) → arrival_of copy o ≡ FirstReply → copy.reply ≡ true
is_reply copy None e = absurd (cc)
is_reply copy (Some call) e = reply_by copy.reply (arrival_back call.reply) (arrival_at (part_of copy.to call.receivers) call.reply) (never_at (part_of copy.to call.receivers) call.reply) e

-- a copy of a reply in flight goes to who began the call
found_copy : (P : PacketCopy → Type 0) (p : PacketCopy → Bool) (copy : PacketCopy) (copies : List PacketCopy) → find p copies ≡ Some copy → AllByRecursion P copies → P copy
found_copy P p copy [] found h = absurd (cc)
found_copy P p copy (first ∷ copies) found h = by (p first) (λ is. found_copy P p copy copies is h.1) found
  where
    by : (t : Bool) → (find p copies ≡ Some copy → P copy) → cond {A = Option PacketCopy} t (Some first) (find p copies) ≡ Some copy → P copy
    by true later is = subst P (some_is first copy is) h.0
    by false later is = later is

pub reply_home : (machine : Machine) (number : CopyNo) (copy : PacketCopy) (call : Call) → Good machine → copy_of machine number ≡ Some copy → call_of machine copy.tx ≡ Some call → copy.reply ≡ true → copy.to ≡ call.from
reply_home machine number copy call h flies found is =
    found_copy (IsHome call.tx.0 call.from) (is_copy number) copy machine.copies flies (found_sound (AreHome machine.copies) (is_call copy.tx) call machine.unfinished found h.home) is (sym (eqb-true call.tx.0 copy.tx.0 (found_is copy.tx call machine.unfinished found)))

-- ---- what stays unfinished

abbrev pub IsUnfinished : Machine → TxNo → Type 0
IsUnfinished machine tx = is_some (call_of machine tx) ≡ true

-- all calls, and all but that one
abbrev pub Stays : Machine → Machine → Type 0
Stays old new = (tx : TxNo) → IsUnfinished old tx → IsUnfinished new tx

abbrev pub StaysBut : TxNo → Machine → Machine → Type 0
StaysBut key old new = (tx : TxNo) → (tx.0 ≡ key.0 → ⊥) → IsUnfinished old tx → IsUnfinished new tx

pub stays_silent : (machine : Machine) (tx : TxNo) (at : ℕ) → Stays machine (after machine (Silence tx at))
stays_silent machine tx at other h = stays_until_answered machine (Silence tx at) other.0 h refl refl

pub stays_begin : (machine : Machine) (from port : ℕ) (servers : List ℕ) (owner : ℕ) (body : List ℕ) (tries : Tries) (about : Option (ℕ × ℕ)) (before : ℕ) (sent : List (ℕ × Fate)) → Stays machine (after machine (Begin from port servers owner body tries about before sent))
stays_begin machine from port servers owner body tries about before sent other h = stays_until_answered machine (Begin from port servers owner body tries about before sent) other.0 h refl refl

pub stays_answer : (machine : Machine) (tx : TxNo) (reply : List ℕ) (given : Fate) → Stays machine (after machine (Answer tx reply given))
stays_answer machine tx reply given other h = stays_until_answered machine (Answer tx reply given) other.0 h refl refl

apart_by : (a b : ℕ) → (b ≡ a → ⊥) → (a == b) ≡ false
apart_by a b apart = by (a == b) refl
  where
    by : (c : Bool) → (a == b) ≡ c → c ≡ false
    by true e = absurd (apart (sym (eqb-true a b e)))
    by false e = refl

and_left : (a b : Bool) → a ≡ false → (a && b) ≡ false
and_left a b e = ap (λ (x : Bool). x && b) e

and_right : (a b : Bool) → b ≡ false → (a && b) ≡ false
and_right true b e = e
and_right false b e = refl

-- a packet that is no first reply
pub stays_come : (machine : Machine) (number : CopyNo) (given : Fate) (copy : PacketCopy) → copy_of machine number ≡ Some copy → is_first_reply (arrival machine copy) ≡ false → Stays machine (after machine (Deliver number given))
stays_come machine number given copy flies off other h =
    stays_until_answered machine (Deliver number given) other.0 h (ap (λ (o : Option PacketCopy). is_reply_to other.0 machine o) flies ∙ and_right (copy.tx.0 == other.0) (is_first_reply (arrival machine copy)) off) refl

pub stays_reply : (machine : Machine) (number : CopyNo) (given : Fate) (copy : PacketCopy) → copy_of machine number ≡ Some copy → StaysBut copy.tx machine (after machine (Deliver number given))
stays_reply machine number given copy flies other apart h =
    stays_until_answered machine (Deliver number given) other.0 h (ap (λ (o : Option PacketCopy). is_reply_to other.0 machine o) flies ∙ and_left (copy.tx.0 == other.0) (is_first_reply (arrival machine copy)) (apart_by copy.tx.0 other.0 apart)) refl

-- a timer that fires not for the last time
pub stays_fire : (machine : Machine) (tx : TxNo) (sent : List (ℕ × Fate)) (call : Call) → call_of machine tx ≡ Some call → is_last call ≡ false → Stays machine (after machine (Expire tx sent))
stays_fire machine tx sent call found off other h =
    stays_until_answered machine (Expire tx sent) other.0 h refl (ap (λ (o : Option Call). gives_up_by other.0 tx o) found ∙ and_right (tx.0 == other.0) (is_last call) off)

pub stays_last : (machine : Machine) (tx : TxNo) (sent : List (ℕ × Fate)) (call : Call) → call_of machine tx ≡ Some call → StaysBut tx machine (after machine (Expire tx sent))
stays_last machine tx sent call found other apart h =
    stays_until_answered machine (Expire tx sent) other.0 h refl (ap (λ (o : Option Call). gives_up_by other.0 tx o) found ∙ and_left (tx.0 == other.0) (is_last call) (apart_by tx.0 other.0 apart))
