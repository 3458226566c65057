-- How many copies of a request come for each time that it was sent.
use Rattle.std.proofs.Common.{arith, ◌≡◌, ℕ, ◌+◌, ◌*◌, ◌≤◌, ◌==◌, Bool, true, false, ◌&&◌, ◌||◌, not, cond, List, [], ◌∷◌, ◌++◌, map, Option, Some, None, refl, sym, ap, subst, ◌∙◌}
use Rattle.std.specs.List.{AllByRecursion, find, list_any}
use Rattle.std.proofs.lemmas.Bool.{eqb-true}
use Rattle.sprite_ids.specs.declared.TxNo.{TxNo}
use Rattle.sprite_ids.specs.Lists.{changed, less}
use Rattle.sprite_ids.proofs.ListLaws.{each_push, some_is}
use Rattle.link_plan.specs.declared.Fate.{Fate}
use Rattle.link_plan.specs.declared.Fate.TheVariants.{Once, Lost, Twice, Late}
use Rattle.kernel_rpc.specs.declared.call.Part.{Part}
use Rattle.kernel_rpc.specs.declared.call.Part.TheVariants.{Answered, Holding, Silent}
use Rattle.kernel_rpc.specs.declared.call.Arrival.{Arrival}
use Rattle.kernel_rpc.specs.declared.call.Arrival.TheVariants.{FirstRequest, FirstReply, AskedAgain, Past}
use Rattle.kernel_rpc.specs.declared.call.Call.{Call}
use Rattle.kernel_rpc.specs.declared.call.PacketCopy.{PacketCopy}
use Rattle.kernel_rpc.specs.declared.call.Receiver.{Receiver}
use Rattle.kernel_rpc.specs.Copies.{copies_by, requests}
use Rattle.kernel_rpc.specs.Machine.{Machine, answered, arrival, call_of, copy_of, delivered_as, further, gave_up, idle, is_call, is_copy, is_last, landed, new_call, replied, reply_to, request, resent, tried, with_part}
use Rattle.kernel_rpc.specs.Runs.{Act, Begin, Deliver, Answer, Silence, Expire, AsksAgain, AsksUnless, Counts, IsRun, MayAct, after, delivered_by, expired_by, once_if}
use Rattle.kernel_rpc.specs.Servers.{AreApart}
use Rattle.kernel_rpc.specs.Histories.{TwoRepliesEach, TwoRequestsEach, brings, how_many, is_asked_again, is_reply_for, is_request_of, passes, replies, replies_again, sends, sends_by, times}
use Rattle.kernel_rpc.proofs.BeginLaws.{kernels_fresh}
use Rattle.kernel_rpc.proofs.CopyLaws.{each_by, each_request, each_without}
use Rattle.kernel_rpc.proofs.LandLaws.{flying_is}
use Rattle.kernel_rpc.proofs.PartLaws.{and_false}
use Rattle.kernel_rpc.proofs.RunLaws.{unfinished_replied}
use Rattle.kernel_rpc.proofs.SoundLaws.{found_is, found_sound}
use Rattle.kernel_rpc.proofs.TryLaws.{each_kept}

many_append : {X : Type 0} (p : X → Bool) (xs ys : List X) → how_many p (xs ++ ys) ≡ how_many p xs + how_many p ys
many_append p [] ys = omega arith
many_append p (x ∷ xs) ys =
    let rest = many_append p xs ys in
    elim (p x) as (λ b. cond b (1 + how_many p (xs ++ ys)) (how_many p (xs ++ ys)) ≡ cond b (1 + how_many p xs) (how_many p xs) + how_many p ys) [ true ↦ omega arith | false ↦ rest ]

many_none : {X : Type 0} (p : X → Bool) (xs : List X) → AllByRecursion (λ x. p x ≡ false) xs → how_many p xs ≡ 0
many_none p [] h = refl
many_none p (x ∷ xs) h = ap (λ b. cond b (1 + how_many p xs) (how_many p xs)) h.0 ∙ many_none p xs h.1

one_more : (b : Bool) (n : ℕ) → cond b (1 + n) n ≡ once_if b + n
one_more true n = omega arith
one_more false n = omega arith

less_by : {X : Type 0} (q p : X → Bool) (x y : X) (ys : List X) → (find p ys ≡ Some x → how_many q ys ≡ once_if (q x) + how_many q (less p ys)) → (b : Bool) → cond b (Some y) (find p ys) ≡ Some x → how_many q (y ∷ ys) ≡ once_if (q x) + how_many q (cond b ys (y ∷ less p ys))
less_by q p x y ys rest true found = subst (λ z. cond (q z) (1 + how_many q ys) (how_many q ys) ≡ once_if (q x) + how_many q ys) (sym (some_is y x found)) (one_more (q x) (how_many q ys))
less_by q p x y ys rest false found =
    let later = rest found in
    elim (q y) as (λ b. cond b (1 + how_many q ys) (how_many q ys) ≡ once_if (q x) + cond b (1 + how_many q (less p ys)) (how_many q (less p ys))) [ true ↦ omega arith | false ↦ later ]

many_less : {X : Type 0} (q p : X → Bool) (x : X) (xs : List X) → find p xs ≡ Some x → how_many q xs ≡ once_if (q x) + how_many q (less p xs)
many_less q p x [] found = absurd (cc)
many_less q p x (y ∷ ys) found = less_by q p x y ys (many_less q p x ys) (p y) found

-- a packet has two copies at most
few_by : (tx kernel : ℕ) (given : Fate) (copy : PacketCopy) → how_many (is_request_of tx kernel) (copies_by given copy) ≤ 2 * once_if (is_request_of tx kernel copy)
few_by tx kernel Once copy = elim (is_request_of tx kernel copy) as (λ b. cond b (1 + 0) 0 ≤ 2 * once_if b) [ true ↦ omega arith | false ↦ omega arith ]
few_by tx kernel Lost copy = omega arith
few_by tx kernel Twice copy = elim (is_request_of tx kernel copy) as (λ b. cond b (1 + cond b (1 + 0) 0) (cond b (1 + 0) 0) ≤ 2 * once_if b) [ true ↦ omega arith | false ↦ omega arith ]
few_by tx kernel Late copy = elim (is_request_of tx kernel copy) as (λ b. cond b (1 + 0) 0 ≤ 2 * once_if b) [ true ↦ omega arith | false ↦ omega arith ]

either : (t r e any : Bool) → (e ≡ true → any ≡ false) → once_if (t && (r && e)) + once_if (t && any) ≤ once_if (t && (e || any))
either false r e any apart = omega arith
either true r false any apart = (let none = ap once_if (and_false r) in omega arith)
either true r true any apart = (let none = ap once_if (apart refl) in small r (once_if any) none)
  where
    small : (r : Bool) (n : ℕ) → n ≡ 0 → once_if (r && true) + n ≤ 1
    small true n e = omega arith
    small false n e = omega arith

apart_at : (first kernel : ℕ) (rest : List ℕ) → list_any (λ other. other == first) rest ≡ false → (first == kernel) ≡ true → list_any (λ other. other == kernel) rest ≡ false
apart_at first kernel rest h e = subst (λ n. list_any (λ other. other == n) rest ≡ false) (eqb-true first kernel e) h

-- to each kernel goes one packet at most
few_requests : (tx kernel : ℕ) (packet : PacketCopy) (number : ℕ) (sent : List (ℕ × Fate)) → AreApart (map (λ (packet : ℕ × Fate). packet.0) sent) → how_many (is_request_of tx kernel) (requests packet number sent) ≤ 2 * once_if ((packet.tx.0 == tx) && list_any (λ other. other == kernel) (map (λ (packet : ℕ × Fate). packet.0) sent))
few_requests tx kernel packet number [] h = omega arith
few_requests tx kernel packet number (first ∷ sent) h =
    let others = map (λ (packet : ℕ × Fate). packet.0) sent in
    let here = few_by tx kernel first.1 (record packet { number = record { 0 = number }; to = first.0 }) in
    let rest = few_requests tx kernel packet (number + 2) sent h.1 in
    let all = many_append (is_request_of tx kernel) (copies_by first.1 (record packet { number = record { 0 = number }; to = first.0 })) (requests packet (number + 2) sent) in
    let both = either (packet.tx.0 == tx) (not packet.reply) (first.0 == kernel) (list_any (λ other. other == kernel) others) (apart_at first.0 kernel others h.0) in
    omega arith

first_most : (a b : Bool) → once_if (a && b) ≤ once_if a
first_most true true = omega arith
first_most true false = omega arith
first_most false b = omega arith

sent_few : (tx kernel : ℕ) (packet : PacketCopy) (number : ℕ) (sent : List (ℕ × Fate)) (copies : List PacketCopy) → AreApart (map (λ (packet : ℕ × Fate). packet.0) sent) → how_many (is_request_of tx kernel) (copies ++ requests packet number sent) ≤ how_many (is_request_of tx kernel) copies + 2 * once_if (packet.tx.0 == tx)
sent_few tx kernel packet number sent copies h =
    let few = few_requests tx kernel packet number sent h in
    let most = first_most (packet.tx.0 == tx) (list_any (λ other. other == kernel) (map (λ (packet : ℕ × Fate). packet.0) sent)) in
    let all = many_append (is_request_of tx kernel) copies (requests packet number sent) in
    omega arith

-- a reply adds no request
none_replied : (tx kernel : ℕ) (o : Option Call) (given : Fate) (machine : Machine) → how_many (is_request_of tx kernel) (replied o given machine).copies ≡ how_many (is_request_of tx kernel) machine.copies
none_replied tx kernel None given machine = refl
none_replied tx kernel (Some call) given machine =
    let packet = reply_to call machine.next_copy in
    let away : is_request_of tx kernel packet ≡ false = and_false (call.tx.0 == tx) in
    let none = many_none (is_request_of tx kernel) (copies_by given packet) (each_by (λ copy. is_request_of tx kernel copy ≡ false) given packet away away away) in
    let all = many_append (is_request_of tx kernel) machine.copies (copies_by given packet) in
    omega arith

arrived_few : (a : Arrival) (tx kernel : ℕ) (copy : PacketCopy) (given : Fate) (machine : Machine) → how_many (is_request_of tx kernel) (delivered_as a copy given (landed copy machine)).copies ≡ how_many (is_request_of tx kernel) (less (is_copy copy.number) machine.copies)
arrived_few FirstRequest tx kernel copy given machine = refl
arrived_few FirstReply tx kernel copy given machine = refl
arrived_few AskedAgain tx kernel copy given machine = none_replied tx kernel (call_of (landed copy machine) copy.tx) given (landed copy machine)
arrived_few Past tx kernel copy given machine = refl

delivered_few : (o : Option PacketCopy) (tx kernel : ℕ) (given : Fate) (machine : Machine) → ((copy : PacketCopy) → o ≡ Some copy → copy_of machine copy.number ≡ Some copy) → once_if (passes (is_request_of tx kernel) o) + how_many (is_request_of tx kernel) (delivered_by o given machine).copies ≤ how_many (is_request_of tx kernel) machine.copies
delivered_few None tx kernel given machine flying = omega arith
delivered_few (Some copy) tx kernel given machine flying =
    let left = arrived_few (arrival machine copy) tx kernel copy given machine in
    let one = many_less (is_request_of tx kernel) (is_copy copy.number) copy machine.copies (flying copy refl) in
    omega arith

-- the receivers of a call differ
abbrev Differ : Call → Type 0
Differ call = AreApart (map (λ (receiver : Receiver). receiver.kernel) call.receivers)

pub kernels_kept : (kernel : ℕ) (part : Part) (receivers : List Receiver) → map (λ (receiver : Receiver). receiver.kernel) (with_part kernel part receivers) ≡ map (λ (receiver : Receiver). receiver.kernel) receivers
kernels_kept kernel part [] = refl
kernels_kept kernel part (first ∷ rest) = elim (first.kernel == kernel) as (λ b. map (λ (receiver : Receiver). receiver.kernel) (cond b (record first { part = part } ∷ rest) (first ∷ with_part kernel part rest)) ≡ first.kernel ∷ map (λ (receiver : Receiver). receiver.kernel) rest) [ true ↦ refl | false ↦ ap (λ kernels. first.kernel ∷ kernels) (kernels_kept kernel part rest) ]

differ_further : (kernel : ℕ) (part : Part) (call : Call) → Differ call → AreApart (map (λ (receiver : Receiver). receiver.kernel) (with_part kernel part call.receivers))
differ_further kernel part call h = subst AreApart (sym (kernels_kept kernel part call.receivers)) h

differ_arrived : (a : Arrival) (copy : PacketCopy) (given : Fate) (machine : Machine) → AllByRecursion Differ machine.unfinished → AllByRecursion Differ (delivered_as a copy given (landed copy machine)).unfinished
differ_arrived FirstRequest copy given machine h = each_kept Differ (is_call copy.tx) (further copy.to Holding) (λ call k. differ_further copy.to Holding call k) machine.unfinished h
differ_arrived FirstReply copy given machine h = each_without Differ (is_call copy.tx) machine.unfinished h
differ_arrived AskedAgain copy given machine h = subst (AllByRecursion Differ) (sym (unfinished_replied (call_of (landed copy machine) copy.tx) given (landed copy machine)).0) h
differ_arrived Past copy given machine h = h

differ_delivered : (o : Option PacketCopy) (given : Fate) (machine : Machine) → AllByRecursion Differ machine.unfinished → AllByRecursion Differ (delivered_by o given machine).unfinished
differ_delivered None given machine h = h
differ_delivered (Some copy) given machine h = differ_arrived (arrival machine copy) copy given machine h

differ_answered : (o : Option Call) (tx : TxNo) (body : List ℕ) (given : Fate) (machine : Machine) → AllByRecursion Differ machine.unfinished → AllByRecursion Differ (changed (is_call tx) (answered body) (replied o given machine).unfinished)
differ_answered None tx body given machine h = each_kept Differ (is_call tx) (answered body) (λ call k. differ_further call.owner Answered call k) machine.unfinished h
differ_answered (Some call) tx body given machine h = each_kept Differ (is_call tx) (answered body) (λ call k. differ_further call.owner Answered call k) machine.unfinished h

differ_expired : (o : Option Call) (tx : TxNo) (sent : List (ℕ × Fate)) (machine : Machine) → AllByRecursion Differ machine.unfinished → AllByRecursion Differ (expired_by tx o sent machine).unfinished
differ_expired None tx sent machine h = h
differ_expired (Some call) tx sent machine h = elim (is_last call) as (λ b. AllByRecursion Differ (cond b (gave_up tx machine) (resent tx (Some call) sent machine)).unfinished) [ true ↦ each_without Differ (is_call tx) machine.unfinished h | false ↦ each_kept Differ (is_call tx) tried (λ call k. k) machine.unfinished h ]

differ_after : (machine : Machine) (old : Counts) (act : Act) (new : Counts) → MayAct machine old act new → AllByRecursion Differ machine.unfinished → AllByRecursion Differ (after machine act).unfinished
differ_after machine old (Begin from port servers owner body tries about before sent) new may h = each_push Differ machine.unfinished (new_call machine from port servers owner body tries about before) h (subst AreApart (sym (kernels_fresh servers)) may.1)
differ_after machine old (Deliver number given) new may h = differ_delivered (copy_of machine number) given machine h
differ_after machine old (Answer tx body given) new may h = differ_answered (call_of machine tx) tx body given machine h
differ_after machine old (Silence tx kernel) new may h = each_kept Differ (is_call tx) (further kernel Silent) (λ call k. differ_further kernel Silent call k) machine.unfinished h
differ_after machine old (Expire tx sent) new may h = differ_expired (call_of machine tx) tx sent machine h

expired_few : (b : Bool) (tx kernel : ℕ) (key : TxNo) (call : Call) (sent : List (ℕ × Fate)) (machine : Machine) (old new : Counts) → call_of machine key ≡ Some call → AllByRecursion Differ machine.unfinished → AsksUnless b old new sent call → how_many (is_request_of tx kernel) (cond b (gave_up key machine) (resent key (Some call) sent machine)).copies ≤ how_many (is_request_of tx kernel) machine.copies + 2 * once_if ((key.0 == tx) && not b)
expired_few true tx kernel key call sent machine old new found h asks = omega arith
expired_few false tx kernel key call sent machine old new found h asks =
    let apart = found_sound Differ (is_call key) call machine.unfinished found h in
    let few = sent_few tx kernel (request call machine.next_copy call.owner) machine.next_copy sent machine.copies (subst AreApart (sym asks.0) apart) in
    let same : (call.tx.0 == tx) ≡ (key.0 == tx) = ap (λ n. n == tx) (eqb-true call.tx.0 key.0 (found_is key call machine.unfinished found)) in
    let sending = ap once_if same in
    let kept = ap once_if (and_true (key.0 == tx)) in
    omega arith
  where
    and_true : (b : Bool) → (b && true) ≡ b
    and_true true = refl
    and_true false = refl

expire_few : (o : Option Call) (tx kernel : ℕ) (key : TxNo) (sent : List (ℕ × Fate)) (machine : Machine) (old new : Counts) → call_of machine key ≡ o → AllByRecursion Differ machine.unfinished → AsksAgain old new sent o → how_many (is_request_of tx kernel) (expired_by key o sent machine).copies ≤ how_many (is_request_of tx kernel) machine.copies + 2 * once_if (sends_by tx key o)
expire_few None tx kernel key sent machine old new found h asks = absurd asks
expire_few (Some call) tx kernel key sent machine old new found h asks = expired_few (is_last call) tx kernel key call sent machine old new found h asks

step_few : (tx kernel : ℕ) (machine : Machine) (old : Counts) (act : Act) (new : Counts) → MayAct machine old act new → AllByRecursion Differ machine.unfinished → once_if (brings (is_request_of tx kernel) machine act) + how_many (is_request_of tx kernel) (after machine act).copies ≤ how_many (is_request_of tx kernel) machine.copies + 2 * once_if (sends tx machine act)
step_few tx kernel machine old (Begin from port servers owner body tries about before sent) new may h = (let few = sent_few tx kernel (request (new_call machine from port servers owner body tries about before) machine.next_copy owner) machine.next_copy sent machine.copies (subst AreApart (sym may.5) may.1) in omega arith)
step_few tx kernel machine old (Deliver number given) new may h = (let few = delivered_few (copy_of machine number) tx kernel given machine (λ copy found. flying_is number copy machine.copies found) in omega arith)
step_few tx kernel machine old (Answer key body given) new may h = (let same = none_replied tx kernel (call_of machine key) given machine in omega arith)
step_few tx kernel machine old (Silence key at) new may h = omega arith
step_few tx kernel machine old (Expire key sent) new may h = (let few = expire_few (call_of machine key) tx kernel key sent machine old new refl h may.1 in omega arith)

run_few : (tx kernel : ℕ) (machine : Machine) (counts : Counts) (steps : List (Act × Counts)) → IsRun machine counts steps → AllByRecursion Differ machine.unfinished → times (brings (is_request_of tx kernel)) machine steps ≤ how_many (is_request_of tx kernel) machine.copies + 2 * times (sends tx) machine steps
run_few tx kernel machine counts [] run h = omega arith
run_few tx kernel machine counts (first ∷ rest) run h =
    let here = step_few tx kernel machine counts first.0 first.1 run.0 h in
    let later = run_few tx kernel (after machine first.0) first.1 rest run.1 (differ_after machine counts first.0 first.1 run.0 h) in
    omega arith

-- at most two copies of a request come for each time that it was sent
pub two_requests_each : TwoRequestsEach
two_requests_each counts steps tx kernel run = (let few = run_few tx kernel idle counts steps run tt in omega arith)

-- a packet has two copies at most, here of a reply
two_by : (tx : ℕ) (given : Fate) (copy : PacketCopy) → how_many (is_reply_for tx) (copies_by given copy) ≤ 2 * once_if (is_reply_for tx copy)
two_by tx Once copy = elim (is_reply_for tx copy) as (λ b. cond b (1 + 0) 0 ≤ 2 * once_if b) [ true ↦ omega arith | false ↦ omega arith ]
two_by tx Lost copy = omega arith
two_by tx Twice copy = elim (is_reply_for tx copy) as (λ b. cond b (1 + cond b (1 + 0) 0) (cond b (1 + 0) 0) ≤ 2 * once_if b) [ true ↦ omega arith | false ↦ omega arith ]
two_by tx Late copy = elim (is_reply_for tx copy) as (λ b. cond b (1 + 0) 0 ≤ 2 * once_if b) [ true ↦ omega arith | false ↦ omega arith ]

two_replied : (tx : ℕ) (key : TxNo) (o : Option Call) (given : Fate) (machine : Machine) → call_of machine key ≡ o → how_many (is_reply_for tx) (replied o given machine).copies ≤ how_many (is_reply_for tx) machine.copies + 2 * once_if (key.0 == tx)
two_replied tx key None given machine found = omega arith
two_replied tx key (Some call) given machine found =
    let packet = reply_to call machine.next_copy in
    let two = two_by tx given packet in
    let most = first_most (call.tx.0 == tx) true in
    let same : once_if (call.tx.0 == tx) ≡ once_if (key.0 == tx) = ap (λ n. once_if (n == tx)) (eqb-true call.tx.0 key.0 (found_is key call machine.unfinished found)) in
    let all = many_append (is_reply_for tx) machine.copies (copies_by given packet) in
    omega arith

again_both : (a b : Bool) → b ≡ true → once_if a ≤ once_if (a && b)
again_both true true e = omega arith
again_both true false e = absurd (cc)
again_both false b e = omega arith

arrived_two : (a : Arrival) (tx : ℕ) (copy : PacketCopy) (given : Fate) (machine : Machine) → how_many (is_reply_for tx) (delivered_as a copy given (landed copy machine)).copies ≤ how_many (is_reply_for tx) (less (is_copy copy.number) machine.copies) + 2 * once_if ((copy.tx.0 == tx) && is_asked_again a)
arrived_two FirstRequest tx copy given machine = omega arith
arrived_two FirstReply tx copy given machine = omega arith
arrived_two AskedAgain tx copy given machine =
    let two = two_replied tx copy.tx (call_of (landed copy machine) copy.tx) given (landed copy machine) refl in
    let most = again_both (copy.tx.0 == tx) true refl in
    omega arith
arrived_two Past tx copy given machine = omega arith

delivered_two : (o : Option PacketCopy) (tx : ℕ) (given : Fate) (machine : Machine) → ((copy : PacketCopy) → o ≡ Some copy → copy_of machine copy.number ≡ Some copy) → once_if (passes (is_reply_for tx) o) + how_many (is_reply_for tx) (delivered_by o given machine).copies ≤ how_many (is_reply_for tx) machine.copies + 2 * once_if (replies_again tx machine o)
delivered_two None tx given machine flying = omega arith
delivered_two (Some copy) tx given machine flying =
    let left = arrived_two (arrival machine copy) tx copy given machine in
    let one = many_less (is_reply_for tx) (is_copy copy.number) copy machine.copies (flying copy refl) in
    omega arith

none_sent : (tx : ℕ) (packet : PacketCopy) (number : ℕ) (sent : List (ℕ × Fate)) (copies : List PacketCopy) → packet.reply ≡ false → how_many (is_reply_for tx) (copies ++ requests packet number sent) ≡ how_many (is_reply_for tx) copies
none_sent tx packet number sent copies e =
    let away : is_reply_for tx packet ≡ false = ap (λ b. (packet.tx.0 == tx) && b) e ∙ and_false (packet.tx.0 == tx) in
    let none = many_none (is_reply_for tx) (requests packet number sent) (each_request (λ copy. is_reply_for tx copy ≡ false) packet number sent (λ n to late. away) (λ n to. away)) in
    let all = many_append (is_reply_for tx) copies (requests packet number sent) in
    omega arith

expired_two : (o : Option Call) (tx : ℕ) (key : TxNo) (sent : List (ℕ × Fate)) (machine : Machine) → how_many (is_reply_for tx) (expired_by key o sent machine).copies ≡ how_many (is_reply_for tx) machine.copies
expired_two None tx key sent machine = refl
expired_two (Some call) tx key sent machine = elim (is_last call) as (λ b. how_many (is_reply_for tx) (cond b (gave_up key machine) (resent key (Some call) sent machine)).copies ≡ how_many (is_reply_for tx) machine.copies) [ true ↦ refl | false ↦ none_sent tx (request call machine.next_copy call.owner) machine.next_copy sent machine.copies refl ]

step_two : (tx : ℕ) (machine : Machine) (act : Act) → once_if (brings (is_reply_for tx) machine act) + how_many (is_reply_for tx) (after machine act).copies ≤ how_many (is_reply_for tx) machine.copies + 2 * once_if (replies tx machine act)
step_two tx machine (Begin from port servers owner body tries about before sent) = (let same = none_sent tx (request (new_call machine from port servers owner body tries about before) machine.next_copy owner) machine.next_copy sent machine.copies refl in omega arith)
step_two tx machine (Deliver number given) = (let two = delivered_two (copy_of machine number) tx given machine (λ copy found. flying_is number copy machine.copies found) in omega arith)
step_two tx machine (Answer key body given) = (let two = two_replied tx key (call_of machine key) given machine refl in omega arith)
step_two tx machine (Silence key at) = omega arith
step_two tx machine (Expire key sent) = (let same = expired_two (call_of machine key) tx key sent machine in omega arith)

run_two : (tx : ℕ) (machine : Machine) (steps : List (Act × Counts)) → times (brings (is_reply_for tx)) machine steps ≤ how_many (is_reply_for tx) machine.copies + 2 * times (replies tx) machine steps
run_two tx machine [] = omega arith
run_two tx machine (first ∷ rest) =
    let here = step_two tx machine first.0 in
    let later = run_two tx (after machine first.0) rest in
    omega arith

-- at most two copies of a reply come for each time that it was sent
pub two_replies_each : TwoRepliesEach
two_replies_each counts steps tx run = (let two = run_two tx idle steps in omega arith)
