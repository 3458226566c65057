-- Copies have numbers of their own.
use Rattle.std.proofs.Common.{arith, ◌≡◌, ℕ, ◌+◌, ◌*◌, ◌<◌, ◌≤◌, Bool, true, false, ◌||◌, cond, List, [], ◌∷◌, ◌++◌, length, Option, Some, None, refl, ap, subst, ◌∙◌}
use Rattle.std.specs.List.{list_any}
use Rattle.std.proofs.lemmas.Bool.Decides.{nat_tests}
use Rattle.sprite_ids.specs.declared.CopyNo.{CopyNo}
use Rattle.sprite_ids.specs.declared.TxNo.{TxNo}
use Rattle.sprite_ids.specs.Lists.{less}
use Rattle.link_plan.specs.declared.Fate.{Fate}
use Rattle.link_plan.specs.declared.Fate.TheVariants.{Once, Lost, Twice, Late}
use Rattle.kernel_rpc.specs.declared.call.Arrival.{Arrival}
use Rattle.kernel_rpc.specs.declared.call.Arrival.TheVariants.{FirstRequest, FirstReply, AskedAgain, Past}
use Rattle.kernel_rpc.specs.declared.call.Call.{Call}
use Rattle.kernel_rpc.specs.declared.call.PacketCopy.{PacketCopy}
use Rattle.kernel_rpc.specs.Copies.{copies_by, requests}
use Rattle.kernel_rpc.specs.Machine.{Machine, arrival, begun, call_of, copy_of, delivered_as, gave_up, idle, is_copy, is_last, landed, new_call, replied, reply_to, request, resent}
use Rattle.kernel_rpc.specs.Runs.{Act, Begin, Deliver, Answer, Silence, Expire, Counts, after, delivered_by, expired_by}
use Rattle.kernel_rpc.specs.Histories.{AreNumbersRising, CopiesDiffer, NumbersAreNew, reached}
use Rattle.kernel_rpc.proofs.CopyLaws.{both_none, none_dropped}

rising_from : (lower first last : ℕ) (copies : List PacketCopy) → lower ≤ first → AreNumbersRising first copies last → AreNumbersRising lower copies last
rising_from lower first last [] le h = omega arith
rising_from lower first last (copy ∷ copies) le h = (let here = h.0 in (omega arith, h.1))

-- and without some copy
pub rising_less : (p : PacketCopy → Bool) (first last : ℕ) (copies : List PacketCopy) → AreNumbersRising first copies last → AreNumbersRising first (less p copies) last
rising_less p first last [] h = h
rising_less p first last (copy ∷ copies) h =
    elim (p copy) as (λ b. AreNumbersRising first (cond b copies (copy ∷ less p copies)) last) [ true ↦ (let here = h.0 in rising_from first (copy.number.0 + 1) last copies (omega arith) h.1) | false ↦ (h.0, rising_less p (copy.number.0 + 1) last copies h.1) ]

rising_to : (first last : ℕ) (copies : List PacketCopy) → AreNumbersRising first copies last → first ≤ last
rising_to first last [] h = h
rising_to first last (copy ∷ copies) h = (let here = h.0 in let rest = rising_to (copy.number.0 + 1) last copies h.1 in omega arith)

rising_both : (first between last : ℕ) (xs ys : List PacketCopy) → AreNumbersRising first xs between → AreNumbersRising between ys last → AreNumbersRising first (xs ++ ys) last
rising_both first between last [] ys h k = rising_from first between last ys h k
rising_both first between last (copy ∷ xs) ys h k = (h.0, rising_both (copy.number.0 + 1) between last xs ys h.1 k)

rising_by : (given : Fate) (copy : PacketCopy) → AreNumbersRising copy.number.0 (copies_by given copy) (copy.number.0 + 2)
rising_by Once copy = (omega arith, omega arith)
rising_by Lost copy = omega arith
rising_by Twice copy = (omega arith, (omega arith, omega arith))
rising_by Late copy = (omega arith, omega arith)

rising_requests : (packet : PacketCopy) (number : ℕ) (sent : List (ℕ × Fate)) → AreNumbersRising number (requests packet number sent) (number + 2 * length sent)
rising_requests packet number [] = omega arith
rising_requests packet number (first ∷ sent) =
    let same : (number + 2) + 2 * length sent ≡ number + 2 * length (first ∷ sent) = omega arith in
    rising_both number (number + 2) (number + 2 * length (first ∷ sent)) (copies_by first.1 (record packet { number = record { 0 = number }; to = first.0 })) (requests packet (number + 2) sent) (rising_by first.1 (record packet { number = record { 0 = number }; to = first.0 })) (subst (AreNumbersRising (number + 2) (requests packet (number + 2) sent)) same (rising_requests packet (number + 2) sent))

-- the copies of a machine have rising numbers below that of the next one
abbrev pub Rises : Machine → Type 0
Rises machine = AreNumbersRising 1 machine.copies machine.next_copy

-- that stays where a reply is sent
pub rises_replied : (o : Option Call) (given : Fate) (machine : Machine) → Rises machine → Rises (replied o given machine)
rises_replied None given machine h = h
rises_replied (Some call) given machine h = rising_both 1 machine.next_copy (machine.next_copy + 2) machine.copies (copies_by given (reply_to call machine.next_copy)) h (rising_by given (reply_to call machine.next_copy))

-- and where a copy landed
pub rises_landed : (copy : PacketCopy) (machine : Machine) → Rises machine → Rises (landed copy machine)
rises_landed copy machine h = rising_less (is_copy copy.number) 1 machine.next_copy machine.copies h

-- and where it came, whatever it was
pub rises_arrived : (a : Arrival) (copy : PacketCopy) (given : Fate) (machine : Machine) → Rises machine → Rises (delivered_as a copy given (landed copy machine))
rises_arrived FirstRequest copy given machine h = rises_landed copy machine h
rises_arrived FirstReply copy given machine h = rises_landed copy machine h
rises_arrived AskedAgain copy given machine h = rises_replied (call_of (landed copy machine) copy.tx) given (landed copy machine) (rises_landed copy machine h)
rises_arrived Past copy given machine h = rises_landed copy machine h

-- and where a call is begun
pub rises_begun : (call : Call) (sent : List (ℕ × Fate)) (machine : Machine) → Rises machine → Rises (begun call sent machine)
rises_begun call sent machine h = rising_both 1 machine.next_copy (machine.next_copy + 2 * length sent) machine.copies (requests (request call machine.next_copy call.owner) machine.next_copy sent) h (rising_requests (request call machine.next_copy call.owner) machine.next_copy sent)

-- and where one is sent again
pub rises_resent : (tx : TxNo) (call : Call) (sent : List (ℕ × Fate)) (machine : Machine) → Rises machine → Rises (resent tx (Some call) sent machine)
rises_resent tx call sent machine h = rising_both 1 machine.next_copy (machine.next_copy + 2 * length sent) machine.copies (requests (request call machine.next_copy call.owner) machine.next_copy sent) h (rising_requests (request call machine.next_copy call.owner) machine.next_copy sent)

rises_delivered : (o : Option PacketCopy) (given : Fate) (machine : Machine) → Rises machine → Rises (delivered_by o given machine)
rises_delivered None given machine h = h
rises_delivered (Some copy) given machine h = rises_arrived (arrival machine copy) copy given machine h

rises_expired : (o : Option Call) (tx : TxNo) (sent : List (ℕ × Fate)) (machine : Machine) → Rises machine → Rises (expired_by tx o sent machine)
rises_expired None tx sent machine h = h
rises_expired (Some call) tx sent machine h =
    elim (is_last call) as (λ b. Rises (cond b (gave_up tx machine) (resent tx (Some call) sent machine))) [ true ↦ h | false ↦ rises_resent tx call sent machine h ]

rises_after : (machine : Machine) (act : Act) → Rises machine → Rises (after machine act)
rises_after machine (Begin from port servers owner body tries about before sent) h = rises_begun (new_call machine from port servers owner body tries about before) sent machine h
rises_after machine (Deliver number given) h = rises_delivered (copy_of machine number) given machine h
rises_after machine (Answer tx body given) h = rises_replied (call_of machine tx) given machine h
rises_after machine (Silence tx kernel) h = h
rises_after machine (Expire tx sent) h = rises_expired (call_of machine tx) tx sent machine h

rises_reached : (steps : List (Act × Counts)) (machine : Machine) → Rises machine → Rises (reached machine steps)
rises_reached [] machine h = h
rises_reached (first ∷ rest) machine h = rises_reached rest (after machine first.0) (rises_after machine first.0 h)

-- the copies in flight have numbers of their own
pub copies_differ : CopiesDiffer
copies_differ steps = rises_reached steps idle (omega arith)

-- no later copy has a smaller number
none_smaller : (number : CopyNo) (first last : ℕ) (copies : List PacketCopy) → number.0 < first → AreNumbersRising first copies last → list_any (is_copy number) copies ≡ false
none_smaller number first last [] under h = refl
none_smaller number first last (copy ∷ copies) under h =
    let here = h.0 in
    let other : is_copy number copy ≡ false = grind (arith, nat_tests) in
    ap (λ b. b || list_any (is_copy number) copies) other ∙ none_smaller number (copy.number.0 + 1) last copies (omega arith) h.1

-- what isn't in flight stays away
abbrev StaysAway : CopyNo → Machine → Machine → Type 0
StaysAway number old new = (old.next_copy ≤ new.next_copy) × (list_any (is_copy number) new.copies ≡ false)

away_replied : (number : CopyNo) (o : Option Call) (given : Fate) (machine : Machine) → number.0 < machine.next_copy → list_any (is_copy number) machine.copies ≡ false → StaysAway number machine (replied o given machine)
away_replied number None given machine under h = (omega arith, h)
away_replied number (Some call) given machine under h = (omega arith, both_none (is_copy number) machine.copies (copies_by given (reply_to call machine.next_copy)) h (none_smaller number machine.next_copy (machine.next_copy + 2) (copies_by given (reply_to call machine.next_copy)) under (rising_by given (reply_to call machine.next_copy))))

away_arrived : (number : CopyNo) (a : Arrival) (copy : PacketCopy) (given : Fate) (machine : Machine) → number.0 < machine.next_copy → list_any (is_copy number) (landed copy machine).copies ≡ false → StaysAway number machine (delivered_as a copy given (landed copy machine))
away_arrived number FirstRequest copy given machine under h = (omega arith, h)
away_arrived number FirstReply copy given machine under h = (omega arith, h)
away_arrived number AskedAgain copy given machine under h = away_replied number (call_of (landed copy machine) copy.tx) given (landed copy machine) under h
away_arrived number Past copy given machine under h = (omega arith, h)

away_delivered : (number : CopyNo) (o : Option PacketCopy) (given : Fate) (machine : Machine) → number.0 < machine.next_copy → list_any (is_copy number) machine.copies ≡ false → StaysAway number machine (delivered_by o given machine)
away_delivered number None given machine under h = (omega arith, h)
away_delivered number (Some copy) given machine under h = away_arrived number (arrival machine copy) copy given machine under (none_dropped (is_copy number) (is_copy copy.number) machine.copies h)

away_sent : (number : CopyNo) (packet : PacketCopy) (sent : List (ℕ × Fate)) (machine : Machine) → number.0 < machine.next_copy → list_any (is_copy number) machine.copies ≡ false → (machine.next_copy ≤ machine.next_copy + 2 * length sent) × (list_any (is_copy number) (machine.copies ++ requests packet machine.next_copy sent) ≡ false)
away_sent number packet sent machine under h = (omega arith, both_none (is_copy number) machine.copies (requests packet machine.next_copy sent) h (none_smaller number machine.next_copy (machine.next_copy + 2 * length sent) (requests packet machine.next_copy sent) under (rising_requests packet machine.next_copy sent)))

away_expired : (number : CopyNo) (o : Option Call) (tx : TxNo) (sent : List (ℕ × Fate)) (machine : Machine) → number.0 < machine.next_copy → list_any (is_copy number) machine.copies ≡ false → StaysAway number machine (expired_by tx o sent machine)
away_expired number None tx sent machine under h = (omega arith, h)
away_expired number (Some call) tx sent machine under h =
    elim (is_last call) as (λ b. StaysAway number machine (cond b (gave_up tx machine) (resent tx (Some call) sent machine))) [ true ↦ (omega arith, h) | false ↦ away_sent number (request call machine.next_copy call.owner) sent machine under h ]

-- each number is given once
pub numbers_are_new : NumbersAreNew
numbers_are_new machine (Begin from port servers owner body tries about before sent) number under h = away_sent number (request (new_call machine from port servers owner body tries about before) machine.next_copy owner) sent machine under h
numbers_are_new machine (Deliver key given) number under h = away_delivered number (copy_of machine key) given machine under h
numbers_are_new machine (Answer tx body given) number under h = away_replied number (call_of machine tx) given machine under h
numbers_are_new machine (Silence tx kernel) number under h = (omega arith, h)
numbers_are_new machine (Expire tx sent) number under h = away_expired number (call_of machine tx) tx sent machine under h
