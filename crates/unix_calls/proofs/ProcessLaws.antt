-- The processes by ascending number, and where a process is put.
use Rattle.std.proofs.Common.{◌≡◌, ◌≢◌, ◌<◌, ℕ, Bool, true, false, cond, List, [], ◌∷◌, Option, Some, refl, sym, ap, subst, ◌∙◌, inl, inr, arith, nat_lt}
use Rattle.std.specs.Prelude.{◌⊎◌, ◌==◌}
use Rattle.std.specs.List.{AllByRecursion}
use Rattle.std.proofs.lemmas.Bool.{ltb-true, ltb-false, lt-ltb, le-ltb, eq-eqb, eqb-true, ne_eqb}
use Rattle.std.proofs.lemmas.Bool.Decides.{eqb_tells}
use Rattle.sprite_ids.proofs.ListLaws.{some_is, each_weaken}
use Rattle.unix_calls.specs.State.{Process, process_at, put_process}
use Rattle.unix_calls.proofs.OutcomeLaws.{IsAmong}

-- ---- where a process stands

-- how two numbers stand to each other
pub data Compared (m n : ℕ) : Type 0 where
  Same : m ≡ n → Compared m n
  Less : m < n → Compared m n
  More : n < m → Compared m n

compared_by : (m n : ℕ) (b : Bool) → nat_lt m n ≡ b → ((m == n) ≡ true × (m ≡ n)) ⊎ ((m == n) ≡ false × (m ≢ n)) → Compared m n
compared_by m n b e (inl h) = Same h.1
compared_by m n true e (inr h) = Less (ltb-true m n e)
compared_by m n false e (inr h) = More (omega (arith, ltb-false m n e, h.1))

pub compared : (m n : ℕ) → Compared m n
compared m n = compared_by m n (nat_lt m n) refl (eqb_tells m n)

pub at_same : (q : Process) (qs : List Process) (k : ℕ) → q.pid ≡ k → process_at (q ∷ qs) k ≡ Some q
at_same q qs k e = ap (λ (b : Bool). cond b (Some q) (process_at qs k)) (eq-eqb q.pid k e)

pub at_other : (q : Process) (qs : List Process) (k : ℕ) → (q.pid ≡ k → ⊥) → process_at (q ∷ qs) k ≡ process_at qs k
at_other q qs k e = ap (λ (b : Bool). cond b (Some q) (process_at qs k)) (ne_eqb q.pid k e)

pub put_same : (r q : Process) (qs : List Process) → r.pid ≡ q.pid → put_process r (q ∷ qs) ≡ r ∷ qs
put_same r q qs e = ap (λ (b : Bool). cond b (r ∷ qs) (cond (nat_lt r.pid q.pid) (r ∷ q ∷ qs) (q ∷ put_process r qs))) (eq-eqb r.pid q.pid e)

pub put_less : (r q : Process) (qs : List Process) → r.pid < q.pid → put_process r (q ∷ qs) ≡ r ∷ q ∷ qs
put_less r q qs less =
    ap (λ (b : Bool). cond b (r ∷ qs) (cond (nat_lt r.pid q.pid) (r ∷ q ∷ qs) (q ∷ put_process r qs))) (ne_eqb r.pid q.pid (λ (e : r.pid ≡ q.pid). omega (arith, e, less)))
    ∙ ap (λ (b : Bool). cond b (r ∷ q ∷ qs) (q ∷ put_process r qs)) (lt-ltb r.pid q.pid less)

pub put_more : (r q : Process) (qs : List Process) → q.pid < r.pid → put_process r (q ∷ qs) ≡ q ∷ put_process r qs
put_more r q qs more =
    ap (λ (b : Bool). cond b (r ∷ qs) (cond (nat_lt r.pid q.pid) (r ∷ q ∷ qs) (q ∷ put_process r qs))) (ne_eqb r.pid q.pid (λ (e : r.pid ≡ q.pid). omega (arith, e, more)))
    ∙ ap (λ (b : Bool). cond b (r ∷ q ∷ qs) (q ∷ put_process r qs)) (le-ltb r.pid q.pid (omega (arith, more)))

-- a process that was put is there
put_there_by : (r q : Process) (qs : List Process) → Compared r.pid q.pid → process_at (put_process r qs) r.pid ≡ Some r → process_at (put_process r (q ∷ qs)) r.pid ≡ Some r
put_there_by r q qs (Same e) h = ap (λ (ps : List Process). process_at ps r.pid) (put_same r q qs e) ∙ at_same r qs r.pid refl
put_there_by r q qs (Less e) h = ap (λ (ps : List Process). process_at ps r.pid) (put_less r q qs e) ∙ at_same r (q ∷ qs) r.pid refl
put_there_by r q qs (More e) h =
    ap (λ (ps : List Process). process_at ps r.pid) (put_more r q qs e) ∙ (at_other q (put_process r qs) r.pid (λ (same : q.pid ≡ r.pid). omega (arith, same, e)) ∙ h)

pub put_there : (r : Process) (ps : List Process) → process_at (put_process r ps) r.pid ≡ Some r
put_there r [] = at_same r [] r.pid refl
put_there r (q ∷ qs) = put_there_by r q qs (compared r.pid q.pid) (put_there r qs)

-- a process put twice is put once
put_again_by : (r q x : Process) (xs : List Process) → r.pid ≡ q.pid → Compared q.pid x.pid → put_process r (put_process q xs) ≡ put_process r xs → put_process r (put_process q (x ∷ xs)) ≡ put_process r (x ∷ xs)
put_again_by r q x xs e (Same s) h = ap (put_process r) (put_same q x xs s) ∙ (put_same r q xs e ∙ sym (put_same r x xs (e ∙ s)))
put_again_by r q x xs e (Less l) h =
    ap (put_process r) (put_less q x xs l) ∙ (put_same r q (x ∷ xs) e ∙ sym (put_less r x xs (omega (arith, e, l))))
put_again_by r q x xs e (More m) h =
    let more : x.pid < r.pid = omega (arith, e, m) in
    ap (put_process r) (put_more q x xs m) ∙ (put_more r x (put_process q xs) more ∙ (ap (λ (l : List Process). x ∷ l) h ∙ sym (put_more r x xs more)))

pub put_again : (r q : Process) (ps : List Process) → r.pid ≡ q.pid → put_process r (put_process q ps) ≡ put_process r ps
put_again r q [] e = put_same r q [] e
put_again r q (x ∷ xs) e = put_again_by r q x xs e (compared q.pid x.pid) (put_again r q xs e)

-- and the others are as they were
cons_by : (q : Process) (one two : List Process) (k : ℕ) → process_at one k ≡ process_at two k → process_at (q ∷ one) k ≡ process_at (q ∷ two) k
cons_by q one two k e = ap (λ (o : Option Process). cond (q.pid == k) (Some q) o) e

put_others_by : (r q : Process) (qs : List Process) (k : ℕ) → Compared r.pid q.pid → (r.pid ≡ k → ⊥) → process_at (put_process r qs) k ≡ process_at qs k → process_at (put_process r (q ∷ qs)) k ≡ process_at (q ∷ qs) k
put_others_by r q qs k (Same e) other h =
    ap (λ (ps : List Process). process_at ps k) (put_same r q qs e)
    ∙ (at_other r qs k other ∙ sym (at_other q qs k (λ (same : q.pid ≡ k). other (e ∙ same))))
put_others_by r q qs k (Less e) other h = ap (λ (ps : List Process). process_at ps k) (put_less r q qs e) ∙ at_other r (q ∷ qs) k other
put_others_by r q qs k (More e) other h = ap (λ (ps : List Process). process_at ps k) (put_more r q qs e) ∙ cons_by q (put_process r qs) qs k h

pub put_others : (r : Process) (ps : List Process) (k : ℕ) → (r.pid ≡ k → ⊥) → process_at (put_process r ps) k ≡ process_at ps k
put_others r [] k other = at_other r [] k other
put_others r (q ∷ qs) k other = put_others_by r q qs k (compared r.pid q.pid) other (put_others r qs k other)

-- what is found has the number
found_pid_by : (p q : Process) (k : ℕ) (o : Option Process) (b : Bool) → (p.pid == k) ≡ b → cond b (Some p) o ≡ Some q → (o ≡ Some q → q.pid ≡ k) → q.pid ≡ k
found_pid_by p q k o true e is later = subst (λ (r : Process). r.pid ≡ k) (some_is p q is) (eqb-true p.pid k e)
found_pid_by p q k o false e is later = later is

pub found_pid : (ps : List Process) (k : ℕ) (q : Process) → process_at ps k ≡ Some q → q.pid ≡ k
found_pid [] k q e = absurd (cc)
found_pid (p ∷ ps) k q e = found_pid_by p q k (process_at ps k) (p.pid == k) refl e (found_pid ps k q)

-- a fact of all holds of what is found
found_each_by : (P : Process → Type 0) (p q : Process) (o : Option Process) (b : Bool) → P p → cond b (Some p) o ≡ Some q → (o ≡ Some q → P q) → P q
found_each_by P p q o true h is later = subst P (some_is p q is) h
found_each_by P p q o false h is later = later is

pub found_each : (P : Process → Type 0) (ps : List Process) (k : ℕ) (q : Process) → AllByRecursion P ps → process_at ps k ≡ Some q → P q
found_each P [] k q h e = absurd (cc)
found_each P (p ∷ ps) k q h e = found_each_by P p q (process_at ps k) (p.pid == k) h.0 e (found_each P ps k q h.1)

-- a fact of all and of one more holds of all with that one put
each_put_by : (P : Process → Type 0) (r q : Process) (qs : List Process) → Compared r.pid q.pid → P r → P q → AllByRecursion P qs → AllByRecursion P (put_process r qs) → AllByRecursion P (put_process r (q ∷ qs))
each_put_by P r q qs (Same e) hr hq hs hput = subst (AllByRecursion P) (sym (put_same r q qs e)) (hr, hs)
each_put_by P r q qs (Less e) hr hq hs hput = subst (AllByRecursion P) (sym (put_less r q qs e)) (hr, (hq, hs))
each_put_by P r q qs (More e) hr hq hs hput = subst (AllByRecursion P) (sym (put_more r q qs e)) (hq, hput)

pub each_put : (P : Process → Type 0) (r : Process) (ps : List Process) → P r → AllByRecursion P ps → AllByRecursion P (put_process r ps)
each_put P r [] hr hs = (hr, tt)
each_put P r (q ∷ qs) hr hs = each_put_by P r q qs (compared r.pid q.pid) hr hs.0 hs.1 (each_put P r qs hr hs.1)

-- ---- by ascending number

abbrev pub Behind : ℕ → Process → Type 0
Behind pid p = pid < p.pid

abbrev pub Ascending : List Process → Type 0
Ascending [] = Unit {0}
Ascending (p ∷ ps) = AllByRecursion (Behind p.pid) ps × Ascending ps

ascending_put_by : (r q : Process) (qs : List Process) → Compared r.pid q.pid → AllByRecursion (Behind q.pid) qs → Ascending qs → Ascending (put_process r qs) → Ascending (put_process r (q ∷ qs))
ascending_put_by r q qs (Same e) behind h later =
    subst Ascending (sym (put_same r q qs e)) (subst (λ (n : ℕ). AllByRecursion (Behind n) qs) (sym e) behind, h)
ascending_put_by r q qs (Less e) behind h later =
    subst Ascending (sym (put_less r q qs e)) ((e, each_weaken (Behind q.pid) (Behind r.pid) qs (λ (p : Process) (b : q.pid < p.pid). omega (arith, b, e)) behind), (behind, h))
ascending_put_by r q qs (More e) behind h later = subst Ascending (sym (put_more r q qs e)) (each_put (Behind q.pid) r qs e behind, later)

pub ascending_put : (r : Process) (ps : List Process) → Ascending ps → Ascending (put_process r ps)
ascending_put r [] h = (tt, tt)
ascending_put r (q ∷ qs) h = ascending_put_by r q qs (compared r.pid q.pid) h.0 h.1 (ascending_put r qs h.1)

-- one of them is found by its number
among_behind : (q : Process) (ps : List Process) (n : ℕ) → AllByRecursion (Behind n) ps → IsAmong q ps → n < q.pid
among_behind q [] n h among = absurd among
among_behind q (p ∷ ps) n h (inl same) = subst (Behind n) same h.0
among_behind q (p ∷ ps) n h (inr among) = among_behind q ps n h.1 among

pub among_found : (q : Process) (ps : List Process) → Ascending ps → IsAmong q ps → process_at ps q.pid ≡ Some q
among_found q [] h among = absurd among
among_found q (p ∷ ps) h (inl same) = subst (λ (r : Process). process_at (p ∷ ps) r.pid ≡ Some r) same (at_same p ps p.pid refl)
among_found q (p ∷ ps) h (inr among) =
    at_other p ps q.pid (λ (same : p.pid ≡ q.pid). omega (arith, same, among_behind q ps p.pid h.0 among)) ∙ among_found q ps h.1 among
