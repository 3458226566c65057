-- Where a process stands among all, and what a change in its place is.
use Rattle.std.proofs.Common.{◌≡◌, ◌<◌, ◌≤◌, ◌+◌, ℕ, Bool, cond, not, nat_le, zero, suc, length, get_or, List, [], ◌∷◌, Some, None, refl, sym, ap, subst, ◌∙◌, arith, slice_get, slice_set}
use Rattle.std.specs.List.{insert, position_or_len}
use Rattle.std.proofs.lemmas.Bool.{le-leb, lt-leb}
use Rattle.std.proofs.lemmas.List.Sums.{prefix_len-le-length}
use Rattle.sprite_ids.proofs.ListLaws.{some_is, each_get, get_within}
use Rattle.unix_calls.specs.declared.state.Process.{Process}
use Rattle.unix_calls.specs.State.{process_at, put_process}
use Rattle.unix_calls.proofs.ProcessLaws.{Compared, Same, Less, More, compared, at_same, at_other, put_same, put_less, put_more, ascending_put}
use Rattle.unix_calls.proofs.ProcessLaws as calls
use Rattle.unix_world.specs.Among.{Ascending, Behind, IsAt}

-- the word of the calls' laws for it is the same
pub ascends_to : (ps : List Process) → Ascending ps → calls.Ascending ps
ascends_to [] h = tt
ascends_to (p ∷ ps) h = (h.0, ascends_to ps h.1)

pub ascends_from : (ps : List Process) → calls.Ascending ps → Ascending ps
ascends_from [] h = tt
ascends_from (p ∷ ps) h = (h.0, ascends_from ps h.1)

-- one more, or another in one's place
pub put_ascends : (r : Process) (ps : List Process) → Ascending ps → Ascending (put_process r ps)
put_ascends r ps h = ascends_from (put_process r ps) (ascending_put r ps (ascends_to ps h))

-- one that stands somewhere is found
found_there : (ps : List Process) (at : ℕ) (p : Process) → Ascending ps → slice_get ps at ≡ Some p → process_at ps p.pid ≡ Some p
found_there [] at p h got = absurd (omega (arith, get_within [] at p got))
found_there (q ∷ qs) zero p h got = at_same q qs p.pid (ap (λ (x : Process). x.pid) (some_is q p got)) ∙ got
found_there (q ∷ qs) (suc at) p h got =
    at_other q qs p.pid (λ (same : q.pid ≡ p.pid). omega (arith, same, each_get (Behind q.pid) qs at p h.0 got)) ∙ found_there qs at p h.1 got

-- and another in its place is one put
pub set_put : (ps : List Process) (at : ℕ) (p r : Process) → Ascending ps → slice_get ps at ≡ Some p → r.pid ≡ p.pid → slice_set ps at r ≡ put_process r ps
set_put [] at p r h got e = absurd (omega (arith, get_within [] at p got))
set_put (q ∷ qs) zero p r h got e = sym (put_same r q qs (e ∙ ap (λ (x : Process). x.pid) (sym (some_is q p got))))
set_put (q ∷ qs) (suc at) p r h got e =
    let more : q.pid < r.pid = omega (arith, e, each_get (Behind q.pid) qs at p h.0 got) in
    ap (λ l. q ∷ l) (set_put qs at p r h.1 got e) ∙ sym (put_more r q qs more)

pub is_at : (ps : List Process) (at : ℕ) (p : Process) → Ascending ps → slice_get ps at ≡ Some p → IsAt ps p.pid at
is_at ps at p h got = record { process = p; there = got; found = found_there ps at p h got; puts = λ r e. set_put ps at p r h got e }

pub set_ascends : (ps : List Process) (at : ℕ) (p r : Process) → Ascending ps → slice_get ps at ≡ Some p → r.pid ≡ p.pid → Ascending (slice_set ps at r)
set_ascends ps at p r h got e = subst Ascending (sym (set_put ps at p r h got e)) (put_ascends r ps h)

-- two of one number stand at one place
pub stands_once : (ps : List Process) (i j : ℕ) (p q : Process) → Ascending ps → slice_get ps i ≡ Some p → slice_get ps j ≡ Some q → p.pid ≡ q.pid → i ≡ j
stands_once [] i j p q h one other e = absurd (omega (arith, get_within [] i p one))
stands_once (r ∷ rs) zero zero p q h one other e = refl
stands_once (r ∷ rs) zero (suc j) p q h one other e =
    absurd (omega (arith, e, ap (λ (x : Process). x.pid) (some_is r p one), each_get (Behind r.pid) rs j q h.0 other))
stands_once (r ∷ rs) (suc i) zero p q h one other e =
    absurd (omega (arith, e, ap (λ (x : Process). x.pid) (some_is r q other), each_get (Behind r.pid) rs i p h.0 one))
stands_once (r ∷ rs) (suc i) (suc j) p q h one other e = ap suc (stands_once rs i j p q h.1 one other e)

-- an item that was read stands where it was read
pub got_at : {X : Type 0} (xs : List X) (i : ℕ) (x : X) → i < length xs → x ≡ get_or xs i x → slice_get xs i ≡ Some x
got_at [] i x h e = absurd (omega arith)
got_at (y ∷ ys) zero x h e = ap Some (sym e)
got_at (y ∷ ys) (suc i) x h e = got_at ys i x (omega (arith, h)) e

-- ---- one more

-- how many stand before a number's place
abbrev pub place_of : ℕ → List Process → ℕ
place_of pid ps = position_or_len (λ (p : Process). nat_le pid p.pid) ps

pub place_within : (pid : ℕ) (ps : List Process) → place_of pid ps ≤ length ps
place_within pid ps = prefix_len-le-length (λ (p : Process). not (nat_le pid p.pid)) ps

insert_by : (r q : Process) (qs : List Process) → Compared r.pid q.pid → process_at (q ∷ qs) r.pid ≡ None → (process_at qs r.pid ≡ None → put_process r qs ≡ insert qs (place_of r.pid qs) r) → put_process r (q ∷ qs) ≡ insert (q ∷ qs) (place_of r.pid (q ∷ qs)) r
insert_by r q qs (Same e) none later =
    let there : process_at (q ∷ qs) r.pid ≡ Some q = at_same q qs r.pid (sym e) in
    absurd (cc)
insert_by r q qs (Less e) none later =
    put_less r q qs e ∙ sym (ap (λ (b : Bool). insert (q ∷ qs) (cond (not b) (1 + place_of r.pid qs) 0) r) (le-leb r.pid q.pid (omega (arith, e))))
insert_by r q qs (More e) none later =
    let further : process_at qs r.pid ≡ None = sym (at_other q qs r.pid (λ (same : q.pid ≡ r.pid). omega (arith, same, e))) ∙ none in
    let k = place_of r.pid qs in
    let more : suc k ≡ 1 + k = omega arith in
    put_more r q qs e ∙ (ap (λ l. q ∷ l) (later further) ∙ (ap (λ j. insert (q ∷ qs) j r) more
    ∙ sym (ap (λ (b : Bool). insert (q ∷ qs) (cond (not b) (1 + k) 0) r) (lt-leb r.pid q.pid e))))

-- a process with a new number goes before the first that isn't less
pub insert_put : (r : Process) (ps : List Process) → process_at ps r.pid ≡ None → put_process r ps ≡ insert ps (place_of r.pid ps) r
insert_put r [] none = refl
insert_put r (q ∷ qs) none = insert_by r q qs (compared r.pid q.pid) none (insert_put r qs)

-- two that are put in either order
swap_front : (r q : Process) (x : Process) (xs : List Process) → r.pid < q.pid → r.pid < x.pid → Compared q.pid x.pid → put_process r (put_process q (x ∷ xs)) ≡ r ∷ put_process q (x ∷ xs)
swap_front r q x xs less front (Same e) = rw (put_same q x xs e) (put_less r q xs less)
swap_front r q x xs less front (Less e) = rw (put_less q x xs e) (put_less r q (x ∷ xs) less)
swap_front r q x xs less front (More e) = rw (put_more q x xs e) (put_less r x (put_process q xs) front)

swap_by : (r q : Process) (x : Process) (xs : List Process) → r.pid < q.pid → Compared r.pid x.pid → put_process r (put_process q xs) ≡ put_process q (put_process r xs) → put_process r (put_process q (x ∷ xs)) ≡ put_process q (put_process r (x ∷ xs))
swap_by r q x xs less (Same e) h =
    rw (put_more q x xs (omega (arith, e, less)), put_same r x (put_process q xs) e, put_same r x xs e) (sym (put_more q r xs less))
swap_by r q x xs less (Less e) h =
    swap_front r q x xs less e (compared q.pid x.pid) ∙ (sym (put_more q r (x ∷ xs) less) ∙ ap (put_process q) (sym (put_less r x xs e)))
swap_by r q x xs less (More e) h =
    rw (put_more q x xs (omega (arith, e, less)), put_more r x (put_process q xs) e, put_more r x xs e, put_more q x (put_process r xs) (omega (arith, e, less))) (ap (λ l. x ∷ l) h)

swap_less : (r q : Process) (ps : List Process) → r.pid < q.pid → put_process r (put_process q ps) ≡ put_process q (put_process r ps)
swap_less r q [] less = put_less r q [] less ∙ sym (put_more q r [] less)
swap_less r q (x ∷ xs) less = swap_by r q x xs less (compared r.pid x.pid) (swap_less r q xs less)

swap_of : (r q : Process) (ps : List Process) → Compared r.pid q.pid → (r.pid ≡ q.pid → ⊥) → put_process r (put_process q ps) ≡ put_process q (put_process r ps)
swap_of r q ps (Same e) other = absurd (other e)
swap_of r q ps (Less e) other = swap_less r q ps e
swap_of r q ps (More e) other = sym (swap_less q r ps e)

pub put_swap : (r q : Process) (ps : List Process) → (r.pid ≡ q.pid → ⊥) → put_process r (put_process q ps) ≡ put_process q (put_process r ps)
put_swap r q ps other = swap_of r q ps (compared r.pid q.pid) other
