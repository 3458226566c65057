-- Requests and replies are handed out at most once in a run.
use Rattle.std.proofs.Common.{arith, ◌≡◌, ℕ, ◌+◌, ◌≤◌, ◌==◌, nat_lt, Bool, true, false, ◌&&◌, ◌||◌, cond, List, [], ◌∷◌, ◌++◌, Option, Some, None, option_map, refl, sym, ap, subst, ◌∙◌}
use Rattle.std.specs.List.{find, list_any}
use Rattle.std.proofs.lemmas.Bool.Decides.{nat_tests}
use Rattle.std.proofs.lemmas.Bool.{eqb-true}
use Rattle.sprite_ids.specs.declared.TxNo.{TxNo}
use Rattle.sprite_ids.proofs.ListLaws.{some_is}
use Rattle.link_plan.specs.declared.Fate.{Fate}
use Rattle.kernel_rpc.specs.declared.call.Part.{Part}
use Rattle.kernel_rpc.specs.declared.call.Part.TheVariants.{Waiting, Holding, Silent, Answered}
use Rattle.kernel_rpc.specs.declared.call.Arrival.{Arrival}
use Rattle.kernel_rpc.specs.declared.call.Arrival.TheVariants.{FirstRequest, FirstReply, AskedAgain, Past}
use Rattle.kernel_rpc.specs.declared.call.Call.{Call}
use Rattle.kernel_rpc.specs.declared.call.PacketCopy.{PacketCopy}
use Rattle.kernel_rpc.specs.declared.call.Receiver.{Receiver}
use Rattle.sprite_ids.specs.Lists.{changed, less}
use Rattle.kernel_rpc.specs.Machine.{Machine, gave_up, new_call, answered, arrival, begun, call_of, copy_of, delivered_as, further, idle, is_call, is_last, landed, part_of, replied, resent, tried, with_part}
use Rattle.kernel_rpc.specs.Sound.{IsNumbered}
use Rattle.kernel_rpc.specs.Runs.{Act, Begin, Deliver, Answer, Silence, Expire, Counts, RepliesAtMostOnce, RequestsAtMostOnce, after, delivered_by, expired_by, hands_reply, hands_request, is_first_reply, is_first_request, is_reply_to, is_request_to, once_if, times_replied, times_requested}
use Rattle.kernel_rpc.proofs.ArrivalLaws.{first_request, first_reply}
use Rattle.kernel_rpc.proofs.NumberLaws.{later_none, numbered_changed, numbered_dropped, numbered_push}
use Rattle.kernel_rpc.proofs.PartLaws.{part_further}
use Rattle.kernel_rpc.proofs.SoundLaws.{found_is, found_within}

-- what is left to be handed out by the call of that number, by what is left of a call
abbrev pub left_of : (Call → ℕ) → ℕ → List Call → ℕ
left_of left tx [] = 0
left_of left tx (call ∷ calls) = cond (call.tx.0 == tx) (left call) (left_of left tx calls)

none_by : (left : Call → ℕ) (tx : ℕ) (call : Call) (calls : List Call) → (list_any (λ (call : Call). call.tx.0 == tx) calls ≡ false → left_of left tx calls ≡ 0) → (b : Bool) → (b || list_any (λ (call : Call). call.tx.0 == tx) calls) ≡ false → cond b (left call) (left_of left tx calls) ≡ 0
none_by left tx call calls later true e = absurd (cc)
none_by left tx call calls later false e = later e

-- where no call has the number, nothing is left
left_none : (left : Call → ℕ) (tx : ℕ) (calls : List Call) → list_any (λ (call : Call). call.tx.0 == tx) calls ≡ false → left_of left tx calls ≡ 0
left_none left tx [] h = refl
left_none left tx (call ∷ calls) h = none_by left tx call calls (left_none left tx calls) (call.tx.0 == tx) h

same_or_less : (b : Bool) (x y z : ℕ) → x ≤ y → cond b x z ≤ cond b y z
same_or_less true x y z h = h
same_or_less false x y z h = omega arith

later_less : (b : Bool) (x y z : ℕ) → y ≤ z → cond b x y ≤ cond b x z
later_less true x y z h = omega arith
later_less false x y z h = h

-- a change by which no call has more left
pub left_changed : (left : Call → ℕ) (tx : ℕ) (p : Call → Bool) (f : Call → Call) → ((call : Call) → (f call).tx ≡ call.tx) → ((call : Call) → left (f call) ≤ left call) → (calls : List Call) → left_of left tx (changed p f calls) ≤ left_of left tx calls
left_changed left tx p f same fewer [] = omega arith
left_changed left tx p f same fewer (call ∷ calls) =
    elim (p call) as (λ b. left_of left tx (cond b (f call ∷ calls) (call ∷ changed p f calls)) ≤ left_of left tx (call ∷ calls)) [ true ↦ subst (λ (key : TxNo). cond (key.0 == tx) (left (f call)) (left_of left tx calls) ≤ cond (call.tx.0 == tx) (left call) (left_of left tx calls)) (sym (same call)) (same_or_less (call.tx.0 == tx) (left (f call)) (left call) (left_of left tx calls) (fewer call)) | false ↦ later_less (call.tx.0 == tx) (left call) (left_of left tx (changed p f calls)) (left_of left tx calls) (left_changed left tx p f same fewer calls) ]

none_later : (left : Call → ℕ) (tx first last : ℕ) (call : Call) (calls : List Call) → IsNumbered first (call ∷ calls) last → (call.tx.0 == tx) ≡ true → left_of left tx calls ≡ 0
none_later left tx first last call calls h e =
    let same : tx ≤ call.tx.0 = grind (arith, nat_tests, e) in
    left_none left tx calls (later_none (record { 0 = tx }) call.tx.0 last calls h.1 same)

dropped_by : (left : Call → ℕ) (tx first last : ℕ) (call : Call) (calls : List Call) → IsNumbered first (call ∷ calls) last → (b : Bool) → (call.tx.0 == tx) ≡ b → left_of left tx calls ≤ cond b (left call) (left_of left tx calls)
dropped_by left tx first last call calls h true e = let none = none_later left tx first last call calls h e in omega arith
dropped_by left tx first last call calls h false e = omega arith

-- without a call no more is left
pub left_dropped : (left : Call → ℕ) (tx : ℕ) (p : Call → Bool) (first last : ℕ) (calls : List Call) → IsNumbered first calls last → left_of left tx (less p calls) ≤ left_of left tx calls
left_dropped left tx p first last [] h = omega arith
left_dropped left tx p first last (call ∷ calls) h =
    elim (p call) as (λ b. left_of left tx (cond b calls (call ∷ less p calls)) ≤ left_of left tx (call ∷ calls)) [ true ↦ dropped_by left tx first last call calls h (call.tx.0 == tx) refl | false ↦ later_less (call.tx.0 == tx) (left call) (left_of left tx (less p calls)) (left_of left tx calls) (left_dropped left tx p call.tx.0 last calls h.1) ]

gone_by : (left : Call → ℕ) (tx first last : ℕ) (call : Call) (calls : List Call) → IsNumbered first (call ∷ calls) last → left_of left tx (less (λ (call : Call). call.tx.0 == tx) calls) ≡ 0 → (b : Bool) → (call.tx.0 == tx) ≡ b → left_of left tx (cond b calls (call ∷ less (λ (call : Call). call.tx.0 == tx) calls)) ≡ 0
gone_by left tx first last call calls h later true e = none_later left tx first last call calls h e
gone_by left tx first last call calls h later false e = ap (λ b. cond b (left call) (left_of left tx (less (λ (call : Call). call.tx.0 == tx) calls))) e ∙ later

-- without its call nothing is left
left_gone : (left : Call → ℕ) (tx first last : ℕ) (calls : List Call) → IsNumbered first calls last → left_of left tx (less (λ (call : Call). call.tx.0 == tx) calls) ≡ 0
left_gone left tx first last [] h = refl
left_gone left tx first last (call ∷ calls) h = gone_by left tx first last call calls h (left_gone left tx call.tx.0 last calls h.1) (call.tx.0 == tx) refl

-- a call of another number
left_pushed : (left : Call → ℕ) (tx : ℕ) (new : Call) (calls : List Call) → (new.tx.0 == tx) ≡ false → left_of left tx (calls ++ new ∷ []) ≡ left_of left tx calls
left_pushed left tx new [] e = ap (λ b. cond b (left new) 0) e
left_pushed left tx new (call ∷ calls) e = ap (cond (call.tx.0 == tx) (left call)) (left_pushed left tx new calls e)

pub left_bound : (left : Call → ℕ) (tx : ℕ) → ((call : Call) → left call ≤ 1) → (calls : List Call) → left_of left tx calls ≤ 1
left_bound left tx most [] = omega arith
left_bound left tx most (call ∷ calls) = elim (call.tx.0 == tx) as (λ b. cond b (left call) (left_of left tx calls) ≤ 1) [ true ↦ most call | false ↦ left_bound left tx most calls ]

left_by : (left : Call → ℕ) (tx : ℕ) (found call : Call) (calls : List Call) → (find (λ (call : Call). call.tx.0 == tx) calls ≡ Some found → left_of left tx calls ≡ left found) → (b : Bool) → cond b (Some call) (find (λ (call : Call). call.tx.0 == tx) calls) ≡ Some found → cond b (left call) (left_of left tx calls) ≡ left found
left_by left tx found call calls later true e = ap left (some_is call found e)
left_by left tx found call calls later false e = later e

-- what is left of the call that is found
pub left_found : (left : Call → ℕ) (tx : ℕ) (found : Call) (calls : List Call) → find (λ (call : Call). call.tx.0 == tx) calls ≡ Some found → left_of left tx calls ≡ left found
left_found left tx found [] e = absurd (cc)
left_found left tx found (call ∷ calls) e = left_by left tx found call calls (left_found left tx found calls) (call.tx.0 == tx) e

spent_by : (left : Call → ℕ) (tx : ℕ) (f : Call → Call) (found call : Call) (calls : List Call) → ((call : Call) → (f call).tx ≡ call.tx) → left (f found) ≡ 0 → (find (λ (call : Call). call.tx.0 == tx) calls ≡ Some found → left_of left tx (changed (λ (call : Call). call.tx.0 == tx) f calls) ≡ 0) → (b : Bool) → (call.tx.0 == tx) ≡ b → cond b (Some call) (find (λ (call : Call). call.tx.0 == tx) calls) ≡ Some found → left_of left tx (cond b (f call ∷ calls) (call ∷ changed (λ (call : Call). call.tx.0 == tx) f calls)) ≡ 0
spent_by left tx f found call calls same spent later true is e =
    let here : ((f call).tx.0 == tx) ≡ true = ap (λ (key : TxNo). key.0 == tx) (same call) ∙ is in
    ap (λ b. cond b (left (f call)) (left_of left tx calls)) here ∙ ap (λ (call : Call). left (f call)) (some_is call found e) ∙ spent
spent_by left tx f found call calls same spent later false is e = ap (λ b. cond b (left call) (left_of left tx (changed (λ (call : Call). call.tx.0 == tx) f calls))) is ∙ later e

-- nothing is left after a change by which the call has nothing left
pub left_spent : (left : Call → ℕ) (tx : ℕ) (f : Call → Call) (found : Call) → ((call : Call) → (f call).tx ≡ call.tx) → left (f found) ≡ 0 → (calls : List Call) → find (λ (call : Call). call.tx.0 == tx) calls ≡ Some found → left_of left tx (changed (λ (call : Call). call.tx.0 == tx) f calls) ≡ 0
left_spent left tx f found same spent [] e = absurd (cc)
left_spent left tx f found same spent (call ∷ calls) e = spent_by left tx f found call calls same spent (left_spent left tx f found same spent calls) (call.tx.0 == tx) refl e

-- what a machine has left of a call: one of a call that isn't begun
abbrev pub total : (Call → ℕ) → ℕ → Machine → ℕ
total left tx machine = cond (nat_lt machine.begun tx) 1 (left_of left tx machine.unfinished)

total_bound : (left : Call → ℕ) (tx : ℕ) → ((call : Call) → left call ≤ 1) → (machine : Machine) → total left tx machine ≤ 1
total_bound left tx most machine = elim (nat_lt machine.begun tx) as (λ b. cond b 1 (left_of left tx machine.unfinished) ≤ 1) [ true ↦ omega arith | false ↦ left_bound left tx most machine.unfinished ]

begun_by : (left : Call → ℕ) (tx begun : ℕ) (new : Call) (calls : List Call) → new.tx.0 ≡ begun + 1 → (cond (nat_lt (begun + 1) tx) 1 (left_of left tx (calls ++ new ∷ [])) ≤ 1) → (b : Bool) → nat_lt begun tx ≡ b → cond (nat_lt (begun + 1) tx) 1 (left_of left tx (calls ++ new ∷ [])) ≤ cond b 1 (left_of left tx calls)
begun_by left tx begun new calls next bound true is = bound
begun_by left tx begun new calls next bound false is =
    let past : nat_lt (begun + 1) tx ≡ false = grind (arith, nat_tests) in
    let other : (new.tx.0 == tx) ≡ false = grind (arith, nat_tests) in
    let same = left_pushed left tx new calls other in
    let here = ap (λ b. cond b 1 (left_of left tx (calls ++ new ∷ []))) past in
    omega arith

-- a call that is begun had one left
pub total_begun : (left : Call → ℕ) (tx : ℕ) → ((call : Call) → left call ≤ 1) → (machine : Machine) (new : Call) (sent : List (ℕ × Fate)) → new.tx.0 ≡ machine.begun + 1 → total left tx (begun new sent machine) ≤ total left tx machine
total_begun left tx most machine new sent next = begun_by left tx machine.begun new machine.unfinished next (total_bound left tx most (begun new sent machine)) (nat_lt machine.begun tx) refl

-- where what is left of the calls doesn't grow, what is left doesn't
total_less : (left : Call → ℕ) (tx begun : ℕ) (old new : List Call) → left_of left tx new ≤ left_of left tx old → cond (nat_lt begun tx) 1 (left_of left tx new) ≤ cond (nat_lt begun tx) 1 (left_of left tx old)
total_less left tx begun old new h = later_less (nat_lt begun tx) 1 (left_of left tx new) (left_of left tx old) h

total_replied : (left : Call → ℕ) (tx : ℕ) (o : Option Call) (given : Fate) (machine : Machine) → total left tx (replied o given machine) ≡ total left tx machine
total_replied left tx None given machine = refl
total_replied left tx (Some call) given machine = refl

pub unfinished_replied : (o : Option Call) (given : Fate) (machine : Machine) → ((replied o given machine).unfinished ≡ machine.unfinished) × ((replied o given machine).begun ≡ machine.begun)
unfinished_replied None given machine = (refl, refl)
unfinished_replied (Some call) given machine = (refl, refl)

-- the calls of a machine ascend
abbrev pub Ordered : Machine → Type 0
Ordered machine = IsNumbered 0 machine.unfinished machine.begun

ordered_replied : (o : Option Call) (given : Fate) (machine : Machine) → Ordered machine → Ordered (replied o given machine)
ordered_replied None given machine h = h
ordered_replied (Some call) given machine h = h

ordered_arrived : (a : Arrival) (copy : PacketCopy) (given : Fate) (machine : Machine) → Ordered machine → Ordered (delivered_as a copy given (landed copy machine))
ordered_arrived FirstRequest copy given machine h = numbered_changed (is_call copy.tx) (further copy.to Holding) (λ call. refl) 0 machine.begun machine.unfinished h
ordered_arrived FirstReply copy given machine h = numbered_dropped (is_call copy.tx) 0 machine.begun machine.unfinished h
ordered_arrived AskedAgain copy given machine h = ordered_replied (call_of (landed copy machine) copy.tx) given (landed copy machine) h
ordered_arrived Past copy given machine h = h

ordered_delivered : (o : Option PacketCopy) (given : Fate) (machine : Machine) → Ordered machine → Ordered (delivered_by o given machine)
ordered_delivered None given machine h = h
ordered_delivered (Some copy) given machine h = ordered_arrived (arrival machine copy) copy given machine h

ordered_expired : (o : Option Call) (tx : TxNo) (sent : List (ℕ × Fate)) (machine : Machine) → Ordered machine → Ordered (expired_by tx o sent machine)
ordered_expired None tx sent machine h = h
ordered_expired (Some call) tx sent machine h =
    elim (is_last call) as (λ b. Ordered (cond b (gave_up tx machine) (resent tx (Some call) sent machine))) [ true ↦ numbered_dropped (is_call tx) 0 machine.begun machine.unfinished h | false ↦ numbered_changed (is_call tx) tried (λ call. refl) 0 machine.begun machine.unfinished h ]

ordered_answered : (o : Option Call) (tx : TxNo) (body : List ℕ) (given : Fate) (machine : Machine) → Ordered machine → IsNumbered 0 (changed (is_call tx) (answered body) (replied o given machine).unfinished) (replied o given machine).begun
ordered_answered None tx body given machine h = numbered_changed (is_call tx) (answered body) (λ call. refl) 0 machine.begun machine.unfinished h
ordered_answered (Some call) tx body given machine h = numbered_changed (is_call tx) (answered body) (λ call. refl) 0 machine.begun machine.unfinished h

-- and go on ascending
pub ordered_after : (machine : Machine) (act : Act) → Ordered machine → Ordered (after machine act)
ordered_after machine (Begin from port servers owner body tries about before sent) h = numbered_push (new_call machine from port servers owner body tries about before) 0 machine.begun machine.unfinished refl h
ordered_after machine (Deliver number given) h = ordered_delivered (copy_of machine number) given machine h
ordered_after machine (Answer tx body given) h = ordered_answered (call_of machine tx) tx body given machine h
ordered_after machine (Silence tx kernel) h = numbered_changed (is_call tx) (further kernel Silent) (λ call. refl) 0 machine.begun machine.unfinished h
ordered_after machine (Expire tx sent) h = ordered_expired (call_of machine tx) tx sent machine h

-- what is left for a kernel, by its part: one where it waits
abbrev left_at : Option Part → ℕ
left_at None = 0
left_at (Some Waiting) = 1
left_at (Some Holding) = 0
left_at (Some Silent) = 0
left_at (Some Answered) = 0

abbrev left_for : ℕ → Call → ℕ
left_for kernel call = left_at (part_of kernel call.receivers)

at_most_one : (part : Option Part) → left_at part ≤ 1
at_most_one None = omega arith
at_most_one (Some Waiting) = omega arith
at_most_one (Some Holding) = omega arith
at_most_one (Some Silent) = omega arith
at_most_one (Some Answered) = omega arith

further_by : (at kernel : ℕ) (part : Part) (first : Receiver) (rest : List Receiver) → left_at (Some part) ≡ 0 → left_at (part_of kernel (with_part at part rest)) ≤ left_at (part_of kernel rest) → (a b : Bool) → left_at (option_map (λ (receiver : Receiver). receiver.part) (cond b (Some (record first { part = part })) (find (λ (receiver : Receiver). receiver.kernel == kernel) rest))) ≤ left_at (option_map (λ (receiver : Receiver). receiver.part) (cond b (Some first) (find (λ (receiver : Receiver). receiver.kernel == kernel) rest)))
further_by at kernel part first rest none later a true = omega arith
further_by at kernel part first rest none later a false = omega arith

kept_by : (at kernel : ℕ) (part : Part) (first : Receiver) (rest : List Receiver) → left_at (part_of kernel (with_part at part rest)) ≤ left_at (part_of kernel rest) → (b : Bool) → left_at (option_map (λ (receiver : Receiver). receiver.part) (cond b (Some first) (find (λ (receiver : Receiver). receiver.kernel == kernel) (with_part at part rest)))) ≤ left_at (option_map (λ (receiver : Receiver). receiver.part) (cond b (Some first) (find (λ (receiver : Receiver). receiver.kernel == kernel) rest)))
kept_by at kernel part first rest later true = omega arith
kept_by at kernel part first rest later false = later

-- a receiver that got further leaves no more
less_further : (at kernel : ℕ) (part : Part) → left_at (Some part) ≡ 0 → (receivers : List Receiver) → left_at (part_of kernel (with_part at part receivers)) ≤ left_at (part_of kernel receivers)
less_further at kernel part none [] = omega arith
less_further at kernel part none (first ∷ rest) =
    elim (first.kernel == at) as (λ a. left_at (part_of kernel (cond a (record first { part = part } ∷ rest) (first ∷ with_part at part rest))) ≤ left_at (part_of kernel (first ∷ rest))) [ true ↦ further_by at kernel part first rest none (less_further at kernel part none rest) true (first.kernel == kernel) | false ↦ kept_by at kernel part first rest (less_further at kernel part none rest) (first.kernel == kernel) ]

-- what a run has left to hand out doesn't grow by what hands nothing out
abbrev Shrinks : (Call → ℕ) → ℕ → Machine → Machine → Type 0
Shrinks left tx old new = total left tx new ≤ total left tx old

changed_shrinks : (left : Call → ℕ) (tx : ℕ) (key : TxNo) (f : Call → Call) (machine : Machine) → ((call : Call) → (f call).tx ≡ call.tx) → ((call : Call) → left (f call) ≤ left call) → cond (nat_lt machine.begun tx) 1 (left_of left tx (changed (is_call key) f machine.unfinished)) ≤ total left tx machine
changed_shrinks left tx key f machine same fewer = total_less left tx machine.begun machine.unfinished (changed (is_call key) f machine.unfinished) (left_changed left tx (is_call key) f same fewer machine.unfinished)

dropped_shrinks : (left : Call → ℕ) (tx : ℕ) (key : TxNo) (machine : Machine) → Ordered machine → cond (nat_lt machine.begun tx) 1 (left_of left tx (less (is_call key) machine.unfinished)) ≤ total left tx machine
dropped_shrinks left tx key machine h = total_less left tx machine.begun machine.unfinished (less (is_call key) machine.unfinished) (left_dropped left tx (is_call key) 0 machine.begun machine.unfinished h)

expired_shrinks : (left : Call → ℕ) (tx : ℕ) → ((call : Call) → left (tried call) ≤ left call) → (o : Option Call) (key : TxNo) (sent : List (ℕ × Fate)) (machine : Machine) → Ordered machine → Shrinks left tx machine (expired_by key o sent machine)
expired_shrinks left tx fewer None key sent machine h = omega arith
expired_shrinks left tx fewer (Some call) key sent machine h =
    elim (is_last call) as (λ b. Shrinks left tx machine (cond b (gave_up key machine) (resent key (Some call) sent machine))) [ true ↦ dropped_shrinks left tx key machine h | false ↦ changed_shrinks left tx key tried machine (λ call. refl) fewer ]

answered_shrinks : (left : Call → ℕ) (tx : ℕ) (body : List ℕ) → ((call : Call) → left (answered body call) ≤ left call) → (o : Option Call) (key : TxNo) (given : Fate) (machine : Machine) → cond (nat_lt (replied o given machine).begun tx) 1 (left_of left tx (changed (is_call key) (answered body) (replied o given machine).unfinished)) ≤ total left tx machine
answered_shrinks left tx body fewer None key given machine = changed_shrinks left tx key (answered body) machine (λ call. refl) fewer
answered_shrinks left tx body fewer (Some call) key given machine = changed_shrinks left tx key (answered body) machine (λ call. refl) fewer

not_both : (a b c : Bool) → c ≡ false → once_if (a && (b && c)) ≡ 0
not_both true true c e = ap once_if e
not_both true false c e = refl
not_both false b c e = refl

-- the request that is handed out was left
request_strict : (machine : Machine) (copy : PacketCopy) → Ordered machine → arrival machine copy ≡ FirstRequest → 1 + cond (nat_lt machine.begun copy.tx.0) 1 (left_of (left_for copy.to) copy.tx.0 (changed (is_call copy.tx) (further copy.to Holding) machine.unfinished)) ≤ total (left_for copy.to) copy.tx.0 machine
request_strict machine copy h is =
    let first = first_request copy (call_of machine copy.tx) is in
    let within = found_within (is_call copy.tx) 0 machine.begun first.0 machine.unfinished h first.1 in
    let same = eqb-true first.0.tx.0 copy.tx.0 (found_is copy.tx first.0 machine.unfinished first.1) in
    let started : nat_lt machine.begun copy.tx.0 ≡ false = grind (arith, nat_tests) in
    let one : left_of (left_for copy.to) copy.tx.0 machine.unfinished ≡ 1 = left_found (left_for copy.to) copy.tx.0 first.0 machine.unfinished first.1 ∙ ap left_at first.3 in
    let spent : left_for copy.to (further copy.to Holding first.0) ≡ 0 = ap left_at (part_further copy.to Holding Waiting first.0.receivers first.3) in
    let none = left_spent (left_for copy.to) copy.tx.0 (further copy.to Holding) first.0 (λ call. refl) spent machine.unfinished first.1 in
    let old = ap (λ b. cond b 1 (left_of (left_for copy.to) copy.tx.0 machine.unfinished)) started in
    let new = ap (λ b. cond b 1 (left_of (left_for copy.to) copy.tx.0 (changed (is_call copy.tx) (further copy.to Holding) machine.unfinished))) started in
    omega arith

request_by : (machine : Machine) (copy : PacketCopy) → Ordered machine → arrival machine copy ≡ FirstRequest → (tx kernel : ℕ) (a b : Bool) → (copy.tx.0 == tx) ≡ a → (copy.to == kernel) ≡ b → once_if (a && (b && true)) + cond (nat_lt machine.begun tx) 1 (left_of (left_for kernel) tx (changed (is_call copy.tx) (further copy.to Holding) machine.unfinished)) ≤ total (left_for kernel) tx machine
request_by machine copy h is tx kernel true true e k = subst (λ n. 1 + cond (nat_lt machine.begun tx) 1 (left_of (left_for n) tx (changed (is_call copy.tx) (further copy.to Holding) machine.unfinished)) ≤ total (left_for n) tx machine) (eqb-true copy.to kernel k) (subst (λ n. 1 + cond (nat_lt machine.begun n) 1 (left_of (left_for copy.to) n (changed (is_call copy.tx) (further copy.to Holding) machine.unfinished)) ≤ total (left_for copy.to) n machine) (eqb-true copy.tx.0 tx e) (request_strict machine copy h is))
request_by machine copy h is tx kernel true false e k = let fewer = changed_shrinks (left_for kernel) tx copy.tx (further copy.to Holding) machine (λ call. refl) (λ call. less_further copy.to kernel Holding refl call.receivers) in omega arith
request_by machine copy h is tx kernel false b e k = let fewer = changed_shrinks (left_for kernel) tx copy.tx (further copy.to Holding) machine (λ call. refl) (λ call. less_further copy.to kernel Holding refl call.receivers) in omega arith

request_arrived : (a : Arrival) (copy : PacketCopy) (given : Fate) (machine : Machine) (tx kernel : ℕ) → Ordered machine → arrival machine copy ≡ a → once_if ((copy.tx.0 == tx) && ((copy.to == kernel) && is_first_request a)) + total (left_for kernel) tx (delivered_as a copy given (landed copy machine)) ≤ total (left_for kernel) tx machine
request_arrived FirstRequest copy given machine tx kernel h is = request_by machine copy h is tx kernel (copy.tx.0 == tx) (copy.to == kernel) refl refl
request_arrived FirstReply copy given machine tx kernel h is = (let fewer = dropped_shrinks (left_for kernel) tx copy.tx machine h in let none = not_both (copy.tx.0 == tx) (copy.to == kernel) false refl in omega arith)
request_arrived AskedAgain copy given machine tx kernel h is = (let same = total_replied (left_for kernel) tx (call_of (landed copy machine) copy.tx) given (landed copy machine) in let none = not_both (copy.tx.0 == tx) (copy.to == kernel) false refl in omega arith)
request_arrived Past copy given machine tx kernel h is = (let none = not_both (copy.tx.0 == tx) (copy.to == kernel) false refl in omega arith)

request_delivered : (o : Option PacketCopy) (given : Fate) (machine : Machine) (tx kernel : ℕ) → Ordered machine → once_if (is_request_to tx kernel machine o) + total (left_for kernel) tx (delivered_by o given machine) ≤ total (left_for kernel) tx machine
request_delivered None given machine tx kernel h = omega arith
request_delivered (Some copy) given machine tx kernel h = request_arrived (arrival machine copy) copy given machine tx kernel h refl

-- what is handed out was left
request_step : (tx kernel : ℕ) (machine : Machine) (act : Act) → Ordered machine → once_if (hands_request tx kernel machine act) + total (left_for kernel) tx (after machine act) ≤ total (left_for kernel) tx machine
request_step tx kernel machine (Begin from port servers owner body tries about before sent) h = (let fewer = total_begun (left_for kernel) tx (λ call. at_most_one (part_of kernel call.receivers)) machine (new_call machine from port servers owner body tries about before) sent refl in omega arith)
request_step tx kernel machine (Deliver number given) h = request_delivered (copy_of machine number) given machine tx kernel h
request_step tx kernel machine (Answer key body given) h = (let fewer = answered_shrinks (left_for kernel) tx body (λ call. less_further call.owner kernel Answered refl call.receivers) (call_of machine key) key given machine in omega arith)
request_step tx kernel machine (Silence key at) h = (let fewer = changed_shrinks (left_for kernel) tx key (further at Silent) machine (λ call. refl) (λ call. less_further at kernel Silent refl call.receivers) in omega arith)
request_step tx kernel machine (Expire key sent) h = (let fewer = expired_shrinks (left_for kernel) tx (λ call. omega arith) (call_of machine key) key sent machine h in omega arith)

requests_bound : (tx kernel : ℕ) (machine : Machine) (steps : List (Act × Counts)) → Ordered machine → times_requested tx kernel machine steps ≤ total (left_for kernel) tx machine
requests_bound tx kernel machine [] h = omega arith
requests_bound tx kernel machine (first ∷ rest) h =
    let here = request_step tx kernel machine first.0 h in
    let later = requests_bound tx kernel (after machine first.0) rest (ordered_after machine first.0 h) in
    omega arith

-- a request is handed to a receiver at most once
pub requests_at_most_once : RequestsAtMostOnce
requests_at_most_once steps tx kernel =
    let bound = requests_bound tx kernel idle steps (omega arith) in
    let most = total_bound (left_for kernel) tx (λ call. at_most_one (part_of kernel call.receivers)) idle in
    omega arith

-- a reply is left as long as its call isn't finished
abbrev one_left : Call → ℕ
one_left call = 1

reply_strict : (machine : Machine) (copy : PacketCopy) → Ordered machine → arrival machine copy ≡ FirstReply → 1 + cond (nat_lt machine.begun copy.tx.0) 1 (left_of one_left copy.tx.0 (less (is_call copy.tx) machine.unfinished)) ≤ total one_left copy.tx.0 machine
reply_strict machine copy h is =
    let first = first_reply copy (call_of machine copy.tx) is in
    let within = found_within (is_call copy.tx) 0 machine.begun first.0 machine.unfinished h first.1 in
    let same = eqb-true first.0.tx.0 copy.tx.0 (found_is copy.tx first.0 machine.unfinished first.1) in
    let started : nat_lt machine.begun copy.tx.0 ≡ false = grind (arith, nat_tests) in
    let one : left_of one_left copy.tx.0 machine.unfinished ≡ 1 = left_found one_left copy.tx.0 first.0 machine.unfinished first.1 in
    let none = left_gone one_left copy.tx.0 0 machine.begun machine.unfinished h in
    let old = ap (λ b. cond b 1 (left_of one_left copy.tx.0 machine.unfinished)) started in
    let new = ap (λ b. cond b 1 (left_of one_left copy.tx.0 (less (is_call copy.tx) machine.unfinished))) started in
    omega arith

reply_by : (machine : Machine) (copy : PacketCopy) → Ordered machine → arrival machine copy ≡ FirstReply → (tx : ℕ) (a : Bool) → (copy.tx.0 == tx) ≡ a → once_if (a && true) + cond (nat_lt machine.begun tx) 1 (left_of one_left tx (less (is_call copy.tx) machine.unfinished)) ≤ total one_left tx machine
reply_by machine copy h is tx true e = subst (λ n. 1 + cond (nat_lt machine.begun n) 1 (left_of one_left n (less (is_call copy.tx) machine.unfinished)) ≤ total one_left n machine) (eqb-true copy.tx.0 tx e) (reply_strict machine copy h is)
reply_by machine copy h is tx false e = let fewer = dropped_shrinks one_left tx copy.tx machine h in omega arith

pub not_then : (a b : Bool) → b ≡ false → once_if (a && b) ≡ 0
not_then true b e = ap once_if e
not_then false b e = refl

reply_arrived : (a : Arrival) (copy : PacketCopy) (given : Fate) (machine : Machine) (tx : ℕ) → Ordered machine → arrival machine copy ≡ a → once_if ((copy.tx.0 == tx) && is_first_reply a) + total one_left tx (delivered_as a copy given (landed copy machine)) ≤ total one_left tx machine
reply_arrived FirstRequest copy given machine tx h is = (let fewer = changed_shrinks one_left tx copy.tx (further copy.to Holding) machine (λ call. refl) (λ call. omega arith) in let none = not_then (copy.tx.0 == tx) false refl in omega arith)
reply_arrived FirstReply copy given machine tx h is = reply_by machine copy h is tx (copy.tx.0 == tx) refl
reply_arrived AskedAgain copy given machine tx h is = (let same = total_replied one_left tx (call_of (landed copy machine) copy.tx) given (landed copy machine) in let none = not_then (copy.tx.0 == tx) false refl in omega arith)
reply_arrived Past copy given machine tx h is = (let none = not_then (copy.tx.0 == tx) false refl in omega arith)

reply_delivered : (o : Option PacketCopy) (given : Fate) (machine : Machine) (tx : ℕ) → Ordered machine → once_if (is_reply_to tx machine o) + total one_left tx (delivered_by o given machine) ≤ total one_left tx machine
reply_delivered None given machine tx h = omega arith
reply_delivered (Some copy) given machine tx h = reply_arrived (arrival machine copy) copy given machine tx h refl

reply_step : (tx : ℕ) (machine : Machine) (act : Act) → Ordered machine → once_if (hands_reply tx machine act) + total one_left tx (after machine act) ≤ total one_left tx machine
reply_step tx machine (Begin from port servers owner body tries about before sent) h = (let fewer = total_begun one_left tx (λ call. omega arith) machine (new_call machine from port servers owner body tries about before) sent refl in omega arith)
reply_step tx machine (Deliver number given) h = reply_delivered (copy_of machine number) given machine tx h
reply_step tx machine (Answer key body given) h = (let fewer = answered_shrinks one_left tx body (λ call. omega arith) (call_of machine key) key given machine in omega arith)
reply_step tx machine (Silence key at) h = (let fewer = changed_shrinks one_left tx key (further at Silent) machine (λ call. refl) (λ call. omega arith) in omega arith)
reply_step tx machine (Expire key sent) h = (let fewer = expired_shrinks one_left tx (λ call. omega arith) (call_of machine key) key sent machine h in omega arith)

replies_bound : (tx : ℕ) (machine : Machine) (steps : List (Act × Counts)) → Ordered machine → times_replied tx machine steps ≤ total one_left tx machine
replies_bound tx machine [] h = omega arith
replies_bound tx machine (first ∷ rest) h =
    let here = reply_step tx machine first.0 h in
    let later = replies_bound tx (after machine first.0) rest (ordered_after machine first.0 h) in
    omega arith

-- a reply is handed to its caller at most once
pub replies_at_most_once : RepliesAtMostOnce
replies_at_most_once steps tx =
    let bound = replies_bound tx idle steps (omega arith) in
    let most = total_bound one_left tx (λ call. omega arith) idle in
    omega arith
