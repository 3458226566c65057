-- What all seats joined keep, and what that says of each seat.
use Rattle.std.proofs.Common.{◌≡◌, ℕ, zero, suc, ◌+◌, ◌<◌, ◌≤◌, List, [], ◌∷◌, ◌++◌, map, length, Option, Some, None, sym, refl, ap, ap₂, ◌∙◌, subst, inl, arith, le_trans, le_refl, append-nil}
use Rattle.std.proofs.Math.Nat.{le-max_left, le-max_right}
use mathlib.Core.Logic.{dite}
use native.Mathlib.Decide.{ℕ_discrete}
use mathlib.Core.Option.{some, some-injective, some-ne-none}
use lib.ListN.{get_elem?}
use Rattle.atomic_table.specs.Table.{Me, Final, Seen}
use Rattle.turn_gate.specs.declared.view.View.{View}
use Rattle.turn_gate.specs.Rule.{In, items_of}
use Rattle.turn_gate.specs.Steps.{or_else, IsIdle, IsPlain, joined}
use Rattle.turn_gate.specs.Ended.{Ordered, IsAll, gathered_to, gathered, Ended}
use Rattle.turn_gate.proofs.SmallLaws.{in_front, in_back, items_append, items_none, there_below, some_is}
use Rattle.turn_gate.proofs.RuleLaws.{K}
use Rattle.turn_gate.proofs.DealLaws.{Over, ends}

or_else_some : {A : Type 0} (a b : Option A) (x : A) → a ≡ Some x → or_else a b ≡ Some x
or_else_some a b x e = ap (λ z. or_else z b) e

module _ {O I : Type 0} where
  keeps_front : (v : View O I) (ws : List (View O I)) (m : ℕ) → In m v.keeps → In m (gathered_to v ws).keeps
  keeps_front v [] m h = h
  keeps_front v (w ∷ ws) m h = keeps_front (joined v w) ws m (in_front m v.keeps w.keeps h)

  keeps_all : (n : ℕ) (v : View O I) (ws : List (View O I)) (m : ℕ) → Ordered n ws → n < m → m ≤ n + length ws → In m (gathered_to v ws).keeps
  keeps_all n v [] m ord low high = absurd (omega arith)
  keeps_all n v (w ∷ ws) m ord low high = dite (ℕ_discrete m (suc n))
      (λ e. keeps_front (joined v w) ws m (in_back m v.keeps w.keeps (subst (λ l. In m l) (sym ord.0.1) (inl e))))
      (λ ne. keeps_all (suc n) (joined v w) ws m ord.1 (omega arith) (omega arith))

  tally_stays : (v : View O I) (ws : List (View O I)) (n : ℕ) → v.tally ≡ Some n → (gathered_to v ws).tally ≡ Some n
  tally_stays v [] n e = e
  tally_stays v (w ∷ ws) n e = tally_stays (joined v w) ws n (or_else_some v.tally w.tally n e)

  seen_first : (v : View O I) (ws : List (View O I)) → v.seen ≤ (gathered_to v ws).seen
  seen_first v [] = le_refl v.seen
  seen_first v (w ∷ ws) = le_trans (le-max_left v.seen w.seen) (seen_first (joined v w) ws)

  seen_all : (v : View O I) (ws : List (View O I)) (i : ℕ) (w : View O I) → get_elem? ws i ≡ some w → w.seen ≤ (gathered_to v ws).seen
  seen_all v [] i w e = absurd (some-ne-none w (sym e))
  seen_all v (u ∷ ws) zero w e = subst (λ (z : View O I). z.seen ≤ (gathered_to (joined v u) ws).seen) (some-injective u w e) (le_trans (le-max_right v.seen u.seen) (seen_first (joined v u) ws))
  seen_all v (u ∷ ws) (suc i) w e = seen_all (joined v u) ws i w e

  -- the items of a number up to n stay when seats from n + 1 on join
  items_stay : (n : ℕ) (v : View O I) (ws : List (View O I)) (m : ℕ) → Ordered n ws → m ≤ n → items_of m (gathered_to v ws).items ≡ items_of m v.items
  items_stay n v [] m ord low = refl
  items_stay n v (w ∷ ws) m ord low = items_stay (suc n) (joined v w) ws m ord.1 (omega arith) ∙ items_append m v.items w.items
      ∙ ap (λ l. items_of m v.items ++ l) (items_none (suc n) m w.items ord.0.2 (λ e. (omega arith))) ∙ append-nil (items_of m v.items)

  items_all : (n : ℕ) (v : View O I) (ws : List (View O I)) (i : ℕ) (w : View O I) → Ordered n ws → ((m : ℕ) → n < m → items_of m v.items ≡ []) → get_elem? ws i ≡ some w → items_of (suc (i + n)) (gathered_to v ws).items ≡ w.items
  items_all n v [] i w ord clear e = absurd (some-ne-none w (sym e))
  items_all n v (u ∷ ws) zero w ord clear e = subst (λ k. items_of (suc k) (gathered_to (joined v u) ws).items ≡ w.items) (let p : n ≡ 0 + n = omega arith in p)
      (items_stay (suc n) (joined v u) ws (suc n) ord.1 (le_refl (suc n)) ∙ items_append (suc n) v.items u.items ∙ ap₂ (λ a b. a ++ b) (clear (suc n) (omega arith)) ord.0.2 ∙ ap (λ (z : View O I). z.items) (some-injective u w e))
  items_all n v (u ∷ ws) (suc i) w ord clear e = subst (λ k. items_of k (gathered_to (joined v u) ws).items ≡ w.items) (let p : suc (i + suc n) ≡ suc (suc i + n) = omega arith in p)
      (items_all (suc n) (joined v u) ws i w ord.1
      (λ m low. items_append m v.items u.items ∙ ap₂ (λ a b. a ++ b) (clear m (omega arith)) (items_none (suc n) m u.items ord.0.2 (λ z. (omega arith))))
      e)

-- what the seat that keeps all numbers learns, said of each seat
pub ended : {V O I : Type 0} (origin : V → O) (logof : V → List (ℕ × I)) (holds : V → Type 0) (o : O) (op : List (ℕ × I)) (vs : List (View O I)) (xs : List (Option V)) → IsAll vs → Over origin logof holds o op (gathered vs) (length vs) xs
    → (x : V) × (get_elem? xs 0 ≡ some (Some x)) × Ended o op (origin x) (logof x) vs × holds x
ended origin logof holds o op [] xs all over = absurd all
ended {V} {O} {I} origin logof holds o op (v ∷ ws) xs all over =
    let x = over.0 in let added = over.4.0 in let g : View O I = gathered_to v ws in let plain = all.0.0 in let ord = all.0.1 in (
      x,
      over.1,
      record {
        from_start = over.2;
        added = added;
        grown = over.4.1;
        strangers = over.4.4;
        seats = λ i u e. at v ws added (logof x) i u e plain ord over.4.3 over.4.2;
      },
      over.3,
    )
  where
    at : {O I : Type 0} (v : View O I) (ws : List (View O I)) (added log : List (ℕ × I)) (i : ℕ) (u : View O I) → get_elem? (v ∷ ws) i ≡ some u → IsPlain 1 v → Ordered 1 ws
        → ((m : ℕ) → In m (gathered_to v ws).keeps → items_of m added ≡ items_of m (gathered_to v ws).items) → (gathered_to v ws).seen ≤ length log → (items_of (suc i) added ≡ u.items) × (u.seen ≤ length log)
    at {O} {I} v ws added log zero u e plain ord stand saw =
        subst (λ (z : View O I). (items_of 1 added ≡ z.items) × (z.seen ≤ length log)) (some-injective v u e)
        (stand 1 (keeps_front v ws 1 (subst (λ l. In 1 l) (sym plain.1) (inl refl))) ∙ (items_stay 1 v ws 1 ord (le_refl 1) ∙ plain.2), le_trans (seen_first v ws) saw)
    at {O} {I} v ws added log (suc i) u e plain ord stand saw =
        let low : i < length ws = there_below ws i u e in
        let here = items_all 1 v ws i u ord (λ m more. items_none 1 m v.items plain.2 (λ z. (omega arith))) e in
        let two : suc (i + 1) ≡ suc (suc i) = omega arith in (
          stand (suc (suc i)) (keeps_all 1 v ws (suc (suc i)) ord (omega arith) (omega arith)) ∙ subst (λ k. items_of k (gathered_to v ws).items ≡ u.items) two here,
          le_trans (seen_all v ws i u e) saw,
        )

keeps_each : {O I : Type 0} (v : View O I) (ws : List (View O I)) (m : ℕ) → IsPlain 1 v → Ordered 1 ws → 1 ≤ m → m ≤ suc (length ws) → In m (gathered_to v ws).keeps
keeps_each v ws m plain ord low high = dite (ℕ_discrete m 1)
    (λ e. keeps_front v ws m (subst (λ l. In m l) (sym plain.1) (inl e)))
    (λ ne. keeps_all 1 v ws m ord (omega arith) (omega arith))

-- what closing the table says when all seats have joined
pub finished : {V O I : Type 0} (origin : V → O) (logof : V → List (ℕ × I)) (holds : V → Type 0) (o : O) (op : List (ℕ × I)) (vs : List (View O I)) (id : ℕ) (me : Me (Option V) (View O I)) (words : List ℕ) (xs : List (Option V)) → IsAll vs → IsIdle me → me.0 ≡ gathered vs
    → Final (Seen (K origin logof holds o op) id me.0) words xs → (x : V) × (get_elem? xs 0 ≡ some (Some x)) × Ended o op (origin x) (logof x) vs × holds x
finished origin logof holds o op [] id me words xs all idle is fin = absurd all
finished {V} {O} {I} origin logof holds o op (v ∷ ws) id me words xs all idle is fin =
    let g : View O I = gathered (v ∷ ws) in
    let lacks : g.log ≡ None = ap (λ (z : View O I). z.log) (sym is) ∙ idle.2 in
    let fin' = subst (λ (z : View O I). Final (Seen (K origin logof holds o op) id z) words xs) is fin in
    ended origin logof holds o op (v ∷ ws) xs all (ends origin logof holds o op id g (suc (length ws)) lacks (tally_stays v ws (suc (length ws)) all.1) (λ m low high. keeps_each v ws m all.0.0 all.0.1 low high) words xs fin')

pub taken_is : {V : Type 0} (xs : List (Option V)) (x : V) (r : Option V) → get_elem? xs 0 ≡ some (Some x) → get_elem? xs 0 ≡ some r → r ≡ Some x
taken_is xs x r a b = some-injective r (Some x) (sym b ∙ a)

pub gathered_done : {A O I : Type 0} (f : A → View O I) (v g : View O I) (xs : List A) → gathered_to v (map f xs) ≡ g → length xs ≡ 0 → v ≡ g
gathered_done f v g [] e l = e
gathered_done f v g (x ∷ xs) e l = absurd (omega arith)

pub gathered_on : {A O I : Type 0} (f : A → View O I) (v w g : View O I) (all rest : List A) (x : A) → gathered_to v (map f all) ≡ g → all ≡ x ∷ rest → w ≡ joined v (f x) → gathered_to w (map f rest) ≡ g
gathered_on f v w g all rest x e is new = ap (λ z. gathered_to z (map f rest)) new ∙ (ap (λ l. gathered_to v (map f l)) (sym is) ∙ e)

pub ended_at : {V O I : Type 0} (origin : V → O) (logof : V → List (ℕ × I)) (o : O) (op : List (ℕ × I)) (vs : List (View O I)) (x y : V) (r : Option V) → r ≡ Some x → r ≡ Some y → Ended o op (origin x) (logof x) vs → Ended o op (origin y) (logof y) vs
ended_at {V} origin logof o op vs x y r a b e = subst (λ (z : V). Ended o op (origin z) (logof z) vs) (some_is x y (sym a ∙ b)) e

pub holds_at : {V : Type 0} (holds : V → Type 0) (x y : V) (r : Option V) → r ≡ Some x → r ≡ Some y → holds x → holds y
holds_at holds x y r a b h = subst holds (some_is x y (sym a ∙ b)) h
