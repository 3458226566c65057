-- Processes by their places among others.
use Rattle.std.proofs.Common.{◌≡◌, ◌∙◌, ◌<◌, ℕ, zero, suc, ◌+◌, ◌==◌, Bool, true, false, cond, ◌&&◌, ◌||◌, Option, Some, refl, sym, ap, ap₂, arith}
use Rattle.std.proofs.lemmas.Bool.{eqb-true, eq-eqb, and_parts}
use Rattle.kill_worth.specs.declared.away.Away.{Away}
use Rattle.kill_worth.specs.declared.keys.KillAt.{KillAt}
use Rattle.kill_worth.specs.declared.keys.RequestAt.{RequestAt}
use Rattle.kill_worth.specs.declared.sent.Sent.{Sent}
use Rattle.kill_worth.specs.Kills.{same_kill}
use Rattle.kill_worth.specs.Told.{count_or}
use Rattle.kill_worth.specs.Known.{is_pid, among, away_kept, away_count, away_slot, PutsAway, AddsAway, same_request, sent_kept, sent_count, sent_slot, PutsSent, AddsSent}

-- the same places
same_among : (f g : ℕ → Option ℕ) (n p : ℕ) → ((m : ℕ) → m < n → g m ≡ f m) → among g n p ≡ among f n p
same_among f g zero p same = refl
same_among f g (suc n) p same =
    ap₂ (λ a o. a || is_pid o p) (same_among f g n p (λ m short. same m (omega (arith, short)))) (same n (omega arith))

-- another place than one before it
apart : (n m : ℕ) (b : Bool) → (n == m) ≡ b → m < n → b ≡ false
apart n m true is short = absurd (let same = eqb-true n m is in omega (arith, same, short))
apart n m false is short = refl

turned : (a b : Bool) → (a || b) ≡ cond b true a
turned true true = refl
turned true false = refl
turned false true = refl
turned false false = refl

-- one more place
grows : (f g : ℕ → Option ℕ) (n pid p : ℕ) → ((m : ℕ) → g m ≡ cond (n == m) (Some pid) (f m)) → among g (suc n) p ≡ cond (pid == p) true (among f n p)
grows f g n pid p put =
    ap₂ (λ a o. a || is_pid o p)
    (same_among f g n p (λ m short. put m ∙ ap (λ b. cond b (Some pid) (f m)) (apart n m (n == m) refl short)))
    (put n ∙ ap (λ b. cond b (Some pid) (f n)) (eq-eqb n n refl))
    ∙ turned (among f n p) (pid == p)

-- one more of a group, and none more of another
group_put : (b : Bool) (f g : ℕ → Option ℕ) (n : ℕ) (kept after : Option ℕ) (pid p : ℕ) → (b ≡ true → count_or kept ≡ n) → after ≡ cond b (Some (n + 1)) kept → ((m : ℕ) → g m ≡ cond (b && n == m) (Some pid) (f m)) → among g (count_or after) p ≡ cond (b && pid == p) true (among f (count_or kept) p)
group_put true f g n kept after pid p same count put =
    ap (λ o. among g (count_or o) p) count
    ∙ ap (λ k. among g k p) (add_one n)
    ∙ grows f g n pid p put
    ∙ sym (ap (λ k. cond (pid == p) true (among f k p)) (same refl))
  where
    add_one : (k : ℕ) → k + 1 ≡ suc k
    add_one k = omega arith
group_put false f g n kept after pid p same count put = ap (λ o. among g (count_or o) p) count ∙ same_among f g (count_or kept) p (λ m short. put m)

-- ---- those that one call killed

kill_equal : (a b : KillAt) → same_kill a b ≡ true → a ≡ b
kill_equal a b is =
    let home = and_parts (a.home == b.home) (a.to == b.to && (a.pid == b.pid && a.number == b.number)) is in
    let to = and_parts (a.to == b.to) (a.pid == b.pid && a.number == b.number) home.1 in
    let call = and_parts (a.pid == b.pid) (a.number == b.number) to.1 in
    ap₂ (λ h t. record { home = h; to = t; pid = a.pid; number = a.number }) (eqb-true a.home b.home home.0) (eqb-true a.to b.to to.0)
    ∙ ap₂ (λ p n. record { home = b.home; to = b.to; pid = p; number = n }) (eqb-true a.pid b.pid call.0) (eqb-true a.number b.number call.1)

pub away_put : (at : KillAt) (pid : ℕ) (old new : Away) → PutsAway at pid old new → AddsAway at pid old new
away_put at pid old new puts = λ other p.
    group_put (same_kill at other) (away_slot old.slots.entries other) (away_slot new.slots.entries other) (away_count old.counts.entries at) (away_kept old.counts.entries other) (away_kept new.counts.entries other) pid p
    (λ is. sym (ap (away_count old.counts.entries) (kill_equal at other is)))
    (puts.counts other)
    (λ m. puts.slots (record { at = other; place = m }))

-- ---- those of whose kills one request tells

request_equal : (a b : RequestAt) → same_request a b ≡ true → a ≡ b
request_equal a b is =
    let parts = and_parts (a.kernel == b.kernel) (a.tx.0 == b.tx.0) is in
    ap₂ (λ (k n : ℕ). record { kernel = k; tx = record { 0 = n } }) (eqb-true a.kernel b.kernel parts.0) (eqb-true a.tx.0 b.tx.0 parts.1)

pub sent_put : (at : RequestAt) (pid : ℕ) (old new : Sent) → PutsSent at pid old new → AddsSent at pid old new
sent_put at pid old new puts = λ other p.
    group_put (same_request at other) (sent_slot old.slots.entries other) (sent_slot new.slots.entries other) (sent_count old.counts.entries at) (sent_kept old.counts.entries other) (sent_kept new.counts.entries other) pid p
    (λ is. sym (ap (sent_count old.counts.entries) (request_equal at other is)))
    (puts.counts other)
    (λ m. puts.slots (record { at = other; place = m }))
