-- The unfinished calls have ascending numbers, so each number is that of one of them at most.
use Rattle.std.proofs.Common.{arith, ◌≡◌, ℕ, ◌+◌, ◌<◌, ◌≤◌, ◌==◌, Bool, true, false, ◌||◌, cond, List, [], ◌∷◌, ◌++◌, Some, refl, sym, ap, subst, ◌∙◌}
use Rattle.std.specs.List.{AllByRecursion, find, list_any}
use Rattle.std.proofs.lemmas.Bool.Decides.{nat_tests}
use Rattle.sprite_ids.specs.declared.TxNo.{TxNo}
use Rattle.kernel_rpc.specs.declared.call.Call.{Call}
use Rattle.sprite_ids.specs.Lists.{changed, less}
use Rattle.kernel_rpc.specs.Machine.{is_call}
use Rattle.kernel_rpc.specs.Sound.{IsNumbered}
use Rattle.sprite_ids.proofs.OnceLaws.{or_false}

-- the first number is at most the last
pub first_to_last : (first last : ℕ) (calls : List Call) → IsNumbered first calls last → first ≤ last
first_to_last first last [] h = h
first_to_last first last (call ∷ calls) h = let rest = first_to_last call.tx.0 last calls h.1 in let here = h.0 in omega arith

-- later calls have other numbers
pub later_none : (tx : TxNo) (first last : ℕ) (calls : List Call) → IsNumbered first calls last → tx.0 ≤ first → list_any (is_call tx) calls ≡ false
later_none tx first last [] h le = refl
later_none tx first last (call ∷ calls) h le =
    let here = h.0 in
    let other : (call.tx.0 == tx.0) ≡ false = grind (arith, nat_tests) in
    ap (λ b. b || list_any (is_call tx) calls) other ∙ later_none tx call.tx.0 last calls h.1 (omega arith)

-- calls that ascend past a number ascend past a smaller one
pub numbered_weaken : (lower first last : ℕ) (calls : List Call) → lower ≤ first → IsNumbered first calls last → IsNumbered lower calls last
numbered_weaken lower first last [] le h = omega arith
numbered_weaken lower first last (call ∷ calls) le h = let here = h.0 in (omega arith, h.1)

-- a change that keeps the number keeps the order
pub numbered_changed : (p : Call → Bool) (f : Call → Call) → ((call : Call) → (f call).tx ≡ call.tx) → (first last : ℕ) (calls : List Call) → IsNumbered first calls last → IsNumbered first (changed p f calls) last
numbered_changed p f same first last [] h = h
numbered_changed p f same first last (call ∷ calls) h =
    elim (p call) as (λ b. IsNumbered first (cond b (f call ∷ calls) (call ∷ changed p f calls)) last) [ true ↦ subst (λ (tx : TxNo). (first < tx.0) × IsNumbered tx.0 calls last) (sym (same call)) h | false ↦ (h.0, numbered_changed p f same call.tx.0 last calls h.1) ]

-- without one call the others ascend
pub numbered_dropped : (p : Call → Bool) (first last : ℕ) (calls : List Call) → IsNumbered first calls last → IsNumbered first (less p calls) last
numbered_dropped p first last [] h = h
numbered_dropped p first last (call ∷ calls) h =
    elim (p call) as (λ b. IsNumbered first (cond b calls (call ∷ less p calls)) last) [ true ↦ (let here = h.0 in numbered_weaken first call.tx.0 last calls (omega arith) h.1) | false ↦ (h.0, numbered_dropped p call.tx.0 last calls h.1) ]

-- a call with the next number comes last
pub numbered_push : (call : Call) (first last : ℕ) (calls : List Call) → call.tx.0 ≡ last + 1 → IsNumbered first calls last → IsNumbered first (calls ++ call ∷ []) (last + 1)
numbered_push call first last [] next h = (omega arith, omega arith)
numbered_push call first last (before ∷ calls) next h = (h.0, numbered_push call before.tx.0 last calls next h.1)

-- where no call passes the test, a fact of the others is one of all
pub each_other : (P Q : Call → Type 0) (p : Call → Bool) (calls : List Call) → list_any p calls ≡ false → ((call : Call) → p call ≡ false → P call → Q call) → AllByRecursion P calls → AllByRecursion Q calls
each_other P Q p [] none other h = tt
each_other P Q p (call ∷ calls) none other h =
    let parts = or_false (p call) (list_any p calls) none in
    (other call parts.0 h.0, each_other P Q p calls parts.1 other h.1)

found_now : (p : Call → Bool) (call : Call) (calls : List Call) → p call ≡ true → find p (call ∷ calls) ≡ Some call
found_now p call calls e = ap (λ b. cond b (Some call) (find p calls)) e

found_later : (p : Call → Bool) (call : Call) (calls : List Call) → p call ≡ false → find p (call ∷ calls) ≡ find p calls
found_later p call calls e = ap (λ b. cond b (Some call) (find p calls)) e

pub none_after : (tx : TxNo) (first last : ℕ) (call : Call) (calls : List Call) → is_call tx call ≡ true → IsNumbered first (call ∷ calls) last → list_any (is_call tx) calls ≡ false
none_after tx first last call calls e h =
    let same : tx.0 ≤ call.tx.0 = grind (arith, nat_tests, e) in
    later_none tx call.tx.0 last calls h.1 same

changed_by : (P Q : Call → Type 0) (tx : TxNo) (f : Call → Call) (first last : ℕ) (call : Call) (calls : List Call) → IsNumbered first (call ∷ calls) last → ((call : Call) → is_call tx call ≡ false → P call → Q call) → ((found : Call) → find (is_call tx) (call ∷ calls) ≡ Some found → P found → Q (f found)) → AllByRecursion P (call ∷ calls) → (is_call tx call ≡ false → AllByRecursion Q (changed (is_call tx) f calls)) → (b : Bool) → is_call tx call ≡ b → AllByRecursion Q (cond b (f call ∷ calls) (call ∷ changed (is_call tx) f calls))
changed_by P Q tx f first last call calls n other this h rest true e = (this call (found_now (is_call tx) call calls e) h.0, each_other P Q (is_call tx) calls (none_after tx first last call calls e n) other h.1)
changed_by P Q tx f first last call calls n other this h rest false e = (other call e h.0, rest e)

later_this : (P Q : Call → Type 0) (tx : TxNo) (f : Call → Call) (call : Call) (calls : List Call) → ((found : Call) → find (is_call tx) (call ∷ calls) ≡ Some found → P found → Q (f found)) → is_call tx call ≡ false → (found : Call) → find (is_call tx) calls ≡ Some found → P found → Q (f found)
later_this P Q tx f call calls this e found is h = this found (found_later (is_call tx) call calls e ∙ is) h

-- a fact of all calls after a change of one: what holds of the others, and of the changed one
pub each_changed : (P Q : Call → Type 0) (tx : TxNo) (f : Call → Call) (first last : ℕ) (calls : List Call) → IsNumbered first calls last → ((call : Call) → is_call tx call ≡ false → P call → Q call) → ((found : Call) → find (is_call tx) calls ≡ Some found → P found → Q (f found)) → AllByRecursion P calls → AllByRecursion Q (changed (is_call tx) f calls)
each_changed P Q tx f first last [] n other this h = tt
each_changed P Q tx f first last (call ∷ calls) n other this h =
    changed_by P Q tx f first last call calls n other this h (λ e. each_changed P Q tx f call.tx.0 last calls n.1 other (later_this P Q tx f call calls this e) h.1) (is_call tx call) refl

dropped_by : (P Q : Call → Type 0) (tx : TxNo) (first last : ℕ) (call : Call) (calls : List Call) → IsNumbered first (call ∷ calls) last → ((call : Call) → is_call tx call ≡ false → P call → Q call) → AllByRecursion P (call ∷ calls) → AllByRecursion Q (less (is_call tx) calls) → (b : Bool) → is_call tx call ≡ b → AllByRecursion Q (cond b calls (call ∷ less (is_call tx) calls))
dropped_by P Q tx first last call calls n other h rest true e = each_other P Q (is_call tx) calls (none_after tx first last call calls e n) other h.1
dropped_by P Q tx first last call calls n other h rest false e = (other call e h.0, rest)

-- and without one
pub each_dropped : (P Q : Call → Type 0) (tx : TxNo) (first last : ℕ) (calls : List Call) → IsNumbered first calls last → ((call : Call) → is_call tx call ≡ false → P call → Q call) → AllByRecursion P calls → AllByRecursion Q (less (is_call tx) calls)
each_dropped P Q tx first last [] n other h = tt
each_dropped P Q tx first last (call ∷ calls) n other h =
    dropped_by P Q tx first last call calls n other h (each_dropped P Q tx call.tx.0 last calls n.1 other h.1) (is_call tx call) refl

-- a change to the same changes nothing
pub changed_same : {X : Type 0} (p : X → Bool) (xs : List X) → changed p (λ x. x) xs ≡ xs
changed_same p [] = refl
changed_same p (x ∷ xs) = elim (p x) as (λ b. cond b (x ∷ xs) (x ∷ changed p (λ x. x) xs) ≡ x ∷ xs) [ true ↦ refl | false ↦ ap (λ ys. x ∷ ys) (changed_same p xs) ]
