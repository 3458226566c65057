-- A kernel has no more calls than were begun, so one of so many ports and one more is free.
use Rattle.std.proofs.Common.{arith, ◌≡◌, ℕ, zero, suc, ◌+◌, ◌<◌, ◌≤◌, ◌==◌, Bool, true, false, ◌&&◌, ◌||◌, not, cond, List, [], ◌∷◌, length, get_or, refl, sym, ap, ◌∙◌}
use Rattle.std.specs.List.{list_any}
use Rattle.std.proofs.lemmas.Bool.Decides.{nat_tests}
use Rattle.sprite_ids.specs.Lists.{less}
use Rattle.kernel_rpc.specs.declared.call.Call.{Call}
use Rattle.kernel_rpc.specs.Machine.{is_at_port}
use Rattle.kernel_rpc.specs.Ports.{AreMarked}
use Rattle.sprite_ids.proofs.OnceLaws.{or_false}
use Rattle.kernel_rpc.specs.Sound.{IsNumbered}

-- no more calls are unfinished than were begun
pub no_more_than_begun : (first last : ℕ) (calls : List Call) → IsNumbered first calls last → first + length calls ≤ last
no_more_than_begun first last [] h = omega (arith, h)
no_more_than_begun first last (call ∷ calls) h =
    let rest = no_more_than_begun call.tx.0 last calls h.1 in
    let here = h.0 in
    omega arith

one_less_by : {X : Type 0} (p : X → Bool) (x : X) (xs : List X) (b : Bool) → p x ≡ b → (list_any p xs ≡ true → length xs ≡ suc (length (less p xs))) → list_any p (x ∷ xs) ≡ true → length (x ∷ xs) ≡ suc (length (less p (x ∷ xs)))
one_less_by p x xs true e later there = ap (λ b. suc (length (cond b xs (x ∷ less p xs)))) (sym e)
one_less_by p x xs false e later there =
    ap suc (later (ap (λ b. b || list_any p xs) (sym e) ∙ there)) ∙ ap (λ b. suc (length (cond b xs (x ∷ less p xs)))) (sym e)

-- without the first item that passes there is one item less
one_less : {X : Type 0} (p : X → Bool) (xs : List X) → list_any p xs ≡ true → length xs ≡ suc (length (less p xs))
one_less p [] there = absurd (cc)
one_less p (x ∷ xs) there = one_less_by p x xs (p x) refl (one_less p xs) there

stays_by : {X : Type 0} (p q : X → Bool) (x : X) (xs : List X) → (p x ≡ true → q x ≡ false) → (list_any q xs ≡ true → list_any q (less p xs) ≡ true) → (b : Bool) → p x ≡ b → list_any q (x ∷ xs) ≡ true → list_any q (cond b xs (x ∷ less p xs)) ≡ true
stays_by p q x xs other later true e there = ap (λ b. b || list_any q xs) (sym (other e)) ∙ there
stays_by p q x xs other later false e there = or_later (q x) (list_any q xs) (list_any q (less p xs)) later there
  where
    or_later : (a b c : Bool) → (b ≡ true → c ≡ true) → (a || b) ≡ true → (a || c) ≡ true
    or_later true b c later there = refl
    or_later false b c later there = later there

-- an item that passes another test stays
other_stays : {X : Type 0} (p q : X → Bool) (xs : List X) → ((x : X) → p x ≡ true → q x ≡ false) → list_any q xs ≡ true → list_any q (less p xs) ≡ true
other_stays p q [] other there = absurd (cc)
other_stays p q (x ∷ xs) other there = stays_by p q x xs (other x) (other_stays p q xs other) (p x) refl there

at_one_port : (kernel port lower : ℕ) (call : Call) → lower < port → is_at_port kernel port call ≡ true → is_at_port kernel lower call ≡ false
at_one_port kernel port lower call under e = by_kernel (call.from == kernel) (call.port == port) (call.port == lower) (λ here. grind (arith, nat_tests)) e
  where
    by_kernel : (a b c : Bool) → (b ≡ true → c ≡ false) → (a && b) ≡ true → (a && c) ≡ false
    by_kernel true b c other e = other e
    by_kernel false b c other e = refl

-- so many ports are used by as many calls at least
pub as_many_calls : (kernel ports : ℕ) (calls : List Call) → ((port : ℕ) → port < ports → list_any (is_at_port kernel port) calls ≡ true) → ports ≤ length calls
as_many_calls kernel zero calls used = omega arith
as_many_calls kernel (suc ports) calls used =
    let here = used ports (omega arith) in
    let fewer = one_less (is_at_port kernel ports) calls here in
    let rest = as_many_calls kernel ports (less (is_at_port kernel ports) calls) (λ port under. other_stays (is_at_port kernel ports) (is_at_port kernel port) calls (λ call e. at_one_port kernel ports port call under e) (used port (omega arith))) in
    omega arith

all_marked : (used : List Bool) (port : ℕ) → list_any not used ≡ false → port < length used → get_or used port false ≡ true
all_marked [] port e inside = absurd (omega arith)
all_marked (first ∷ used) zero e inside = marked first (or_false (not first) (list_any not used) e).0 where
  marked : (b : Bool) → not b ≡ false → b ≡ true
  marked true e = refl
  marked false e = absurd (cc)
all_marked (first ∷ used) (suc port) e inside = all_marked used port (or_false (not first) (list_any not used) e).1 (omega arith)

-- of one more ports than there are calls, one isn't marked
pub one_is_free : (used : List Bool) (kernel : ℕ) (calls : List Call) → length used ≡ length calls + 1 → AreMarked used kernel calls → (b : Bool) → list_any not used ≡ b → list_any not used ≡ true
one_is_free used kernel calls many marked true e = e
one_is_free used kernel calls many marked false e = absurd (let most = as_many_calls kernel (length used) calls (λ port under. sym (marked port under) ∙ all_marked used port e under) in omega arith)
