-- Two seats of a gate, some turns later.
use Rattle.std.proofs.Common.{◌≡◌, ℕ, zero, suc, ◌<◌, List, [], ◌∷◌, ◌++◌, map, length, slice_index_or, All, sym, refl, ◌∙◌, subst, arith, append-nil, le_refl, length-append, append_assoc}
use Rattle.turn_gate.specs.declared.View.{View}
use Rattle.turn_gate.specs.Steps.{Later}
use Rattle.turn_gate.specs.Ended.{IsAll}
use Rattle.turn_gate.proofs.SeatLaws.{all_later}

stays : {O I : Type 0} (v : View O I) → Later v v
stays v = record { origin = refl; opening = refl; number = refl; keeps = refl; tally = refl; items = ([], sym (append-nil v.items), tt); seen = le_refl v.seen }

each_later : {A O I : Type 0} (f : A → View O I) (rest : List A) (s t u v : A) → Later (f s) (f u) → Later (f t) (f v) → (i : ℕ) (d : A) → i < length (rest ++ s ∷ t ∷ []) → Later (f (slice_index_or (rest ++ s ∷ t ∷ []) i d)) (f (slice_index_or (rest ++ u ∷ v ∷ []) i d))
each_later f [] s t u v a b zero d low = a
each_later f [] s t u v a b (suc zero) d low = b
each_later f [] s t u v a b (suc (suc i)) d low = absurd (omega arith)
each_later f (x ∷ rest) s t u v a b zero d low = stays (f x)
each_later f (x ∷ rest) s t u v a b (suc i) d low = each_later f rest s t u v a b i d (omega arith)

same_length : {A : Type 0} (rest : List A) (s t u v : A) → length (rest ++ u ∷ v ∷ []) ≡ length (rest ++ s ∷ t ∷ [])
same_length rest s t u v = length-append rest (u ∷ v ∷ []) ∙ sym (length-append rest (s ∷ t ∷ []))

pub two_later : {A O I : Type 0} (f : A → View O I) (xs ys rest : List A) (s t u v : A) → xs ≡ (rest ++ s ∷ []) ++ t ∷ [] → ys ≡ (rest ++ u ∷ []) ++ v ∷ [] → Later (f s) (f u) → Later (f t) (f v) → IsAll (map f xs) → IsAll (map f ys)
two_later f xs ys rest s t u v was is a b all =
    let before : xs ≡ rest ++ s ∷ t ∷ [] = was ∙ append_assoc rest (s ∷ []) (t ∷ []) in
    let after : ys ≡ rest ++ u ∷ v ∷ [] = is ∙ append_assoc rest (u ∷ []) (v ∷ []) in
    subst (λ l. IsAll (map f l)) (sym after)
    (all_later f (rest ++ s ∷ t ∷ []) (rest ++ u ∷ v ∷ []) (subst (λ l. IsAll (map f l)) before all) (same_length rest s t u v) (each_later f rest s t u v a b))

each_so : {A : Type 0} (P : A → Type 0) (rest : List A) (s t u v : A) → P u → P v → ((i : ℕ) (d : A) → i < length (rest ++ s ∷ t ∷ []) → P (slice_index_or (rest ++ s ∷ t ∷ []) i d)) → (i : ℕ) (d : A) → i < length (rest ++ u ∷ v ∷ []) → P (slice_index_or (rest ++ u ∷ v ∷ []) i d)
each_so P [] s t u v a b all zero d low = a
each_so P [] s t u v a b all (suc zero) d low = b
each_so P [] s t u v a b all (suc (suc i)) d low = absurd (omega arith)
each_so P (x ∷ rest) s t u v a b all zero d low = all zero d (omega arith)
each_so P (x ∷ rest) s t u v a b all (suc i) d low = each_so P rest s t u v a b (λ j e lower. all (suc j) e (omega arith)) i d (omega arith)

in_front : {A : Type 0} (P : A → Type 0) (rest : List A) (s t : A) → All P (rest ++ s ∷ t ∷ []) → P s × P t
in_front P [] s t all = (all zero s (omega arith), all (suc zero) s (omega arith))
in_front P (x ∷ rest) s t all = in_front P rest s t (λ j e lower. all (suc j) e (omega arith))

pub two_tables : {A : Type 0} (P : A → Type 0) (xs ys rest : List A) (s t u v : A) → xs ≡ (rest ++ s ∷ []) ++ t ∷ [] → ys ≡ (rest ++ u ∷ []) ++ v ∷ [] → All P xs → (P s → P u) → (P t → P v) → All P ys
two_tables P xs ys rest s t u v was is all a b =
    let here : All P (rest ++ s ∷ t ∷ []) = subst (λ l. All P l) (was ∙ append_assoc rest (s ∷ []) (t ∷ [])) all in
    let both : P s × P t = in_front P rest s t here in
    subst (λ l. All P l) (sym (is ∙ append_assoc rest (u ∷ []) (v ∷ []))) (each_so P rest s t u v (a both.0) (b both.1) here)
