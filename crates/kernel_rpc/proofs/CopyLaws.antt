-- Which copies are in flight after some were sent and one landed.
use Rattle.std.proofs.Common.{arith, ◌≡◌, ℕ, ◌+◌, ◌<◌, ◌≤◌, Bool, true, false, ◌||◌, cond, List, [], ◌∷◌, ◌++◌, Some, refl, sym, ap, subst, ◌∙◌}
use Rattle.std.specs.List.{AllByRecursion, find, list_any}
use Rattle.std.proofs.lemmas.Bool.Decides.{nat_tests}
use Rattle.sprite_ids.proofs.ListLaws.{each_append, some_is}
use Rattle.link_plan.specs.declared.Fate.{Fate}
use Rattle.link_plan.specs.declared.Fate.TheVariants.{Once, Lost, Twice, Late}
use Rattle.link_plan.specs.Counts.{Asks, IsAsked, same_pair}
use Rattle.kernel_rpc.specs.declared.call.PacketCopy.{PacketCopy}
use Rattle.sprite_ids.specs.Lists.{less}
use Rattle.kernel_rpc.specs.Copies.{copies_by, requests}
use Rattle.sprite_ids.proofs.OnceLaws.{or_false}

-- nothing passes in two lists together exactly where nothing passes in each
pub none_append : {X : Type 0} (q : X → Bool) (xs ys : List X) → list_any q (xs ++ ys) ≡ false → (list_any q xs ≡ false) × (list_any q ys ≡ false)
none_append q [] ys h = (refl, h)
none_append q (x ∷ xs) ys h =
    let parts = or_false (q x) (list_any q (xs ++ ys)) h in
    let rest = none_append q xs ys parts.1 in
    (ap (λ b. b || list_any q xs) parts.0 ∙ rest.0, rest.1)

pub both_none : {X : Type 0} (q : X → Bool) (xs ys : List X) → list_any q xs ≡ false → list_any q ys ≡ false → list_any q (xs ++ ys) ≡ false
both_none q [] ys h k = k
both_none q (x ∷ xs) ys h k =
    let parts = or_false (q x) (list_any q xs) h in
    ap (λ b. b || list_any q (xs ++ ys)) parts.0 ∙ both_none q xs ys parts.1 k

-- where nothing passes, nothing passes without one item
pub none_dropped : {X : Type 0} (q p : X → Bool) (xs : List X) → list_any q xs ≡ false → list_any q (less p xs) ≡ false
none_dropped q p [] h = refl
none_dropped q p (x ∷ xs) h =
    let parts = or_false (q x) (list_any q xs) h in
    elim (p x) as (λ b. list_any q (cond b xs (x ∷ less p xs)) ≡ false) [ true ↦ parts.1 | false ↦ ap (λ b. b || list_any q (less p xs)) parts.0 ∙ none_dropped q p xs parts.1 ]

undropped_by : {X : Type 0} (q p : X → Bool) (x first : X) (xs : List X) → q x ≡ false → (find p xs ≡ Some x → list_any q (less p xs) ≡ false → list_any q xs ≡ false) → (b : Bool) → cond b (Some first) (find p xs) ≡ Some x → list_any q (cond b xs (first ∷ less p xs)) ≡ false → list_any q (first ∷ xs) ≡ false
undropped_by q p x first xs unlike rest true found h = ap (λ b. b || list_any q xs) (ap q (some_is first x found) ∙ unlike) ∙ h
undropped_by q p x first xs unlike rest false found h =
    let parts = or_false (q first) (list_any q (less p xs)) h in
    ap (λ b. b || list_any q xs) parts.0 ∙ rest found parts.1

-- where nothing passes without one item, and that doesn't pass either, nothing passes
pub none_undropped : {X : Type 0} (q p : X → Bool) (x : X) (xs : List X) → find p xs ≡ Some x → q x ≡ false → list_any q (less p xs) ≡ false → list_any q xs ≡ false
none_undropped q p x [] found unlike h = refl
none_undropped q p x (first ∷ xs) found unlike h = undropped_by q p x first xs unlike (λ e k. none_undropped q p x xs e unlike k) (p first) found h

found_none_by : {X : Type 0} (q p : X → Bool) (x first : X) (xs : List X) → (find p xs ≡ Some x → q x ≡ false) → q first ≡ false → (b : Bool) → cond b (Some first) (find p xs) ≡ Some x → q x ≡ false
found_none_by q p x first xs rest unlike true found = ap q (sym (some_is first x found)) ∙ unlike
found_none_by q p x first xs rest unlike false found = rest found

-- what is found doesn't pass where nothing passes
pub found_none : {X : Type 0} (q p : X → Bool) (x : X) (xs : List X) → find p xs ≡ Some x → list_any q xs ≡ false → q x ≡ false
found_none q p x [] found h = absurd (cc)
found_none q p x (first ∷ xs) found h =
    let parts = or_false (q first) (list_any q xs) h in
    found_none_by q p x first xs (λ e. found_none q p x xs e parts.1) parts.0 (p first) found

-- a fact of each item is one of each without one
pub each_without : {X : Type 0} (P : X → Type 0) (p : X → Bool) (xs : List X) → AllByRecursion P xs → AllByRecursion P (less p xs)
each_without P p [] h = tt
each_without P p (x ∷ xs) h = elim (p x) as (λ b. AllByRecursion P (cond b xs (x ∷ less p xs))) [ true ↦ h.1 | false ↦ (h.0, each_without P p xs h.1) ]

-- a fact that copies of a packet have, whatever their numbers and lateness, is one of all its copies
pub each_by : (P : PacketCopy → Type 0) (given : Fate) (packet : PacketCopy) → P packet → P (record packet { number = record { 0 = packet.number.0 + 1 } }) → P (record packet { late = true }) → AllByRecursion P (copies_by given packet)
each_by P Once packet h second behind = (h, tt)
each_by P Lost packet h second behind = tt
each_by P Twice packet h second behind = (h, (second, tt))
each_by P Late packet h second behind = (behind, tt)

-- the same of the copies of a packet to several receivers
pub each_request : (P : PacketCopy → Type 0) (packet : PacketCopy) (number : ℕ) (sent : List (ℕ × Fate)) → ((number to : ℕ) (late : Bool) → P (record packet { number = record { 0 = number }; to = to; late = late })) → ((number to : ℕ) → P (record packet { number = record { 0 = number }; to = to })) → AllByRecursion P (requests packet number sent)
each_request P packet number [] h k = tt
each_request P packet number (first ∷ sent) h k =
    each_append P (copies_by first.1 (record packet { number = record { 0 = number }; to = first.0 })) (requests packet (number + 2) sent) (each_by P first.1 (record packet { number = record { 0 = number }; to = first.0 }) (k number first.0) (k (number + 1) first.0) (h number first.0 true)) (each_request P packet (number + 2) sent h k)

-- where no item passes, none passes in all
pub none_each : {X : Type 0} (q : X → Bool) (xs : List X) → AllByRecursion (λ x. q x ≡ false) xs → list_any q xs ≡ false
none_each q [] h = refl
none_each q (x ∷ xs) h = ap (λ b. b || list_any q xs) h.0 ∙ none_each q xs h.1

-- a packet of which no copy passes, where each would, is lost
pub is_lost : (q : PacketCopy → Bool) (given : Fate) (packet : PacketCopy) → q packet ≡ true → q (record packet { late = true }) ≡ true → list_any q (copies_by given packet) ≡ false → given ≡ Lost
is_lost q Once packet h behind none = absurd (let first = (or_false (q packet) false none).0 in (cc))
is_lost q Lost packet h behind none = refl
is_lost q Twice packet h behind none = absurd (let first = (or_false (q packet) (q (record packet { number = record { 0 = packet.number.0 + 1 } }) || false) none).0 in (cc))
is_lost q Late packet h behind none = absurd (let first = (or_false (q (record packet { late = true })) false none).0 in (cc))

-- the pair of two kernels is the same in both orders
pub pair_same : (a b : ℕ) → same_pair a b a b ≡ true
pair_same a b = grind (arith, nat_tests)

pub pair_turned : (a b : ℕ) → same_pair a b b a ≡ true
pair_turned a b = grind (arith, nat_tests)

-- counts of faults never fall
pub asks_grow : {L : Type 0} (faults asked : L → ℕ → ℕ → ℕ) (from : ℕ) (before after : L) (sent : List (ℕ × Fate)) → Asks faults asked from before after sent → (a b : ℕ) → faults before a b ≤ faults after a b
asks_grow faults asked from before after [] h a b = let same = ap (λ link. faults link a b) h in omega arith
asks_grow faults asked from before after (first ∷ sent) h a b =
    let here = h.1.never_fall a b in
    let rest = asks_grow faults asked from h.0 after sent h.2 a b in
    omega arith

-- a lost packet raises its pair's count
pub lost_raises : {L : Type 0} (faults asked : L → ℕ → ℕ → ℕ) (before after : L) (from to : ℕ) (given : Fate) → given ≡ Lost → IsAsked (faults before) (asked before) (faults after) (asked after) from to given → (a b : ℕ) → same_pair a b from to ≡ true → faults before a b < faults after a b
lost_raises faults asked before after from to given lost h a b same = (subst (λ fate. IsAsked (faults before) (asked before) (faults after) (asked after) from to fate) lost h).cause a b same
