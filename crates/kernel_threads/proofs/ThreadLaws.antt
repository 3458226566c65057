-- Seats that are here, and seats that are away with workers.
use Rattle.std.proofs.Common.{◌≡◌, ℕ, zero, suc, ◌<◌, ◌⊎◌, List, [], ◌∷◌, ◌++◌, map, length, sym, refl, ap, ◌∙◌, subst, arith, append-nil, append_assoc}
use Rattle.turn_gate.specs.declared.View.{View}
use Rattle.turn_gate.specs.Steps.{Later}
use Rattle.turn_gate.specs.Ended.{newcomers, seats_of, Ended}
use Rattle.kernel_threads.specs.Steps.{Ran}
use Rattle.kernel_threads.specs.Seats.{AreLater, Parted, backwards}
use Rattle.kernel_threads.proofs.SeatLaws.{are_later_begin, are_later_on}

both_later : {O I : Type 0} (vs ws xs ys : List (View O I)) → AreLater vs ws → AreLater xs ys → AreLater (vs ++ xs) (ws ++ ys)
both_later [] [] xs ys a b = b
both_later [] (w ∷ ws) xs ys a b = absurd a
both_later (v ∷ vs) [] xs ys a b = absurd a
both_later (v ∷ vs) (w ∷ ws) xs ys a b = (a.0, both_later vs ws xs ys a.1 b)

-- a seat in the middle, some turns later
middle_later : {O I : Type 0} (xs ys : List (View O I)) (v w : View O I) → Later v w → AreLater (xs ++ v ∷ ys) (xs ++ w ∷ ys)
middle_later xs ys v w one = both_later xs xs (v ∷ ys) (w ∷ ys) (are_later_begin xs) (one, are_later_begin ys)

mapped : {A B : Type 0} (f : A → B) (xs : List A) (x : A) → map f (xs ++ x ∷ []) ≡ map f xs ++ f x ∷ []
mapped f [] x = refl
mapped f (y ∷ xs) x = ap (λ l. f y ∷ l) (mapped f xs x)

turned : {A : Type 0} (xs : List A) (x : A) → backwards (xs ++ x ∷ []) ≡ x ∷ backwards xs
turned [] x = refl
turned (y ∷ xs) x = ap (λ l. l ++ y ∷ []) (turned xs x)

-- the last seat that is here, and the last that is away, stand side by side
side_by_side : {A : Type 0} (xs ys : List A) (x : A) → (xs ++ x ∷ []) ++ ys ≡ xs ++ x ∷ ys
side_by_side xs ys x = append_assoc xs (x ∷ []) ys

pub parted_begins : {A H O I : Type 0} (f : A → View O I) (h : H → View O I) (start : List A) (away : List H) → away ≡ [] → Parted (map f start) (map f start) (map h away)
parted_begins f h start away none = subst (λ l. Parted (map f start) (map f start) (map h l)) (sym none) (subst (λ l. AreLater (map f start) l) (sym (append-nil (map f start))) (are_later_begin (map f start)))

-- the last seat that was here goes to a worker
pub parted_sent : {A H O I : Type 0} (f : A → View O I) (h : H → View O I) (start here rest : List A) (away more : List H) (s : A) (w : H) → here ≡ rest ++ s ∷ [] → more ≡ away ++ w ∷ [] → h w ≡ f s
    → Parted (map f start) (map f here) (map h away) → Parted (map f start) (map f rest) (map h more)
parted_sent f h start here rest away more s w was is same parted =
    let left : map f here ++ backwards (map h away) ≡ map f rest ++ f s ∷ backwards (map h away) = ap (λ l. map f l ++ backwards (map h away)) was ∙ (ap (λ l. l ++ backwards (map h away)) (mapped f rest s) ∙ side_by_side (map f rest) (backwards (map h away)) (f s)) in
    let right : map f rest ++ backwards (map h more) ≡ map f rest ++ f s ∷ backwards (map h away) = ap (λ l. map f rest ++ backwards (map h l)) is ∙ (ap (λ l. map f rest ++ backwards l) (mapped h away w) ∙ (ap (λ l. map f rest ++ l) (turned (map h away) (h w)) ∙ ap (λ v. map f rest ++ v ∷ backwards (map h away)) same)) in
    subst (λ l. AreLater (map f start) l) (left ∙ sym right) parted

-- the last seat comes back, some turns later
pub parted_kept : {A H O I : Type 0} (f : A → View O I) (h : H → View O I) (start here rest now : List A) (away : List H) (s t : A) → here ≡ rest ++ s ∷ [] → now ≡ rest ++ t ∷ [] → Later (f s) (f t)
    → Parted (map f start) (map f here) (map h away) → Parted (map f start) (map f now) (map h away)
parted_kept f h start here rest now away s t was is one parted =
    let left : map f here ++ backwards (map h away) ≡ map f rest ++ f s ∷ backwards (map h away) = ap (λ l. map f l ++ backwards (map h away)) was ∙ (ap (λ l. l ++ backwards (map h away)) (mapped f rest s) ∙ side_by_side (map f rest) (backwards (map h away)) (f s)) in
    let right : map f now ++ backwards (map h away) ≡ map f rest ++ f t ∷ backwards (map h away) = ap (λ l. map f l ++ backwards (map h away)) is ∙ (ap (λ l. l ++ backwards (map h away)) (mapped f rest t) ∙ side_by_side (map f rest) (backwards (map h away)) (f t)) in
    subst (λ l. AreLater (map f start) l) (sym right)
    (are_later_on (map f start) (map f here ++ backwards (map h away)) (map f rest ++ f t ∷ backwards (map h away)) parted (subst (λ l. AreLater l (map f rest ++ f t ∷ backwards (map h away))) (sym left) (middle_later (map f rest) (backwards (map h away)) (f s) (f t) one)))

-- those that are here are served
pub parted_served : {A H O I : Type 0} (f : A → View O I) (h : H → View O I) (start here now done : List A) (away : List H) → AreLater (map f here) (map f now) → AreLater (map f now ++ backwards (map h away)) (map f done) → Parted (map f start) (map f here) (map h away) → AreLater (map f start) (map f done)
parted_served f h start here now done away later joined parted =
    are_later_on (map f start) (map f here ++ backwards (map h away)) (map f done) parted
    (are_later_on (map f here ++ backwards (map h away)) (map f now ++ backwards (map h away)) (map f done) (both_later (map f here) (map f now) (backwards (map h away)) (backwards (map h away)) later (are_later_begin (backwards (map h away)))) joined)

-- a worker's seat comes back behind those that are here
pub one_joined : {A O I : Type 0} (f : A → View O I) (here now : List A) (v : View O I) (t : A) → now ≡ here ++ t ∷ [] → Later v (f t) → AreLater (map f here ++ v ∷ []) (map f now)
one_joined f here now v t is one =
    subst (λ l. AreLater (map f here ++ v ∷ []) l) (sym (ap (λ l. map f l) is ∙ mapped f here t)) (both_later (map f here) (map f here) (v ∷ []) (f t ∷ []) (are_later_begin (map f here)) (one, tt))

-- the last worker's seat comes back, and then the others
pub joined_later : {A H O I : Type 0} (f : A → View O I) (h : H → View O I) (here now done : List A) (away rest : List H) (w : H) → away ≡ rest ++ w ∷ [] → AreLater (map f here ++ h w ∷ []) (map f now)
    → AreLater (map f now ++ backwards (map h rest)) (map f done) → AreLater (map f here ++ backwards (map h away)) (map f done)
joined_later f h here now done away rest w was one later =
    let left : map f here ++ backwards (map h away) ≡ (map f here ++ h w ∷ []) ++ backwards (map h rest) = ap (λ l. map f here ++ backwards (map h l)) was ∙ (ap (λ l. map f here ++ backwards l) (mapped h rest w) ∙ (ap (λ l. map f here ++ l) (turned (map h rest) (h w)) ∙ sym (side_by_side (map f here) (backwards (map h rest)) (h w)))) in
    are_later_on (map f here ++ backwards (map h away)) (map f now ++ backwards (map h rest)) (map f done)
    (subst (λ l. AreLater l (map f now ++ backwards (map h rest))) (sym left) (both_later (map f here ++ h w ∷ []) (map f now) (backwards (map h rest)) (backwards (map h rest)) one (are_later_begin (backwards (map h rest)))))
    later

nil_is : {A : Type 0} (xs : List A) → length xs ≡ 0 → xs ≡ []
nil_is [] e = refl
nil_is (x ∷ xs) e = absurd (omega arith)

pub joined_none : {A H O I : Type 0} (f : A → View O I) (h : H → View O I) (here : List A) (away : List H) → length away ≡ 0 → AreLater (map f here ++ backwards (map h away)) (map f here)
joined_none f h here away none =
    subst (λ l. AreLater (map f here ++ backwards (map h l)) (map f here)) (sym (nil_is away none)) (subst (λ l. AreLater l (map f here)) (sym (append-nil (map f here))) (are_later_begin (map f here)))

-- a parting whose workers have come back
pub parted_done : {A H O I : Type 0} (f : A → View O I) (h : H → View O I) (start here done : List A) (away : List H) → Parted (map f start) (map f here) (map h away) → AreLater (map f here ++ backwards (map h away)) (map f done) → AreLater (map f start) (map f done)
parted_done f h start here done away parted joined = are_later_on (map f start) (map f here ++ backwards (map h away)) (map f done) parted joined

as_long : {O I : Type 0} (vs ws : List (View O I)) → AreLater vs ws → length ws ≡ length vs
as_long [] [] a = refl
as_long [] (w ∷ ws) a = absurd a
as_long (v ∷ vs) [] a = absurd a
as_long (v ∷ vs) (w ∷ ws) a = ap (λ n. suc n) (as_long vs ws a.1)

new_count : {O I : Type 0} (o : O) (op : List (ℕ × I)) (n more : ℕ) → length (newcomers o op n more) ≡ more
new_count o op n zero = refl
new_count o op n (suc more) = ap (λ k. suc k) (new_count o op (suc n) more)

seat_count : {O I : Type 0} (o : O) (op : List (ℕ × I)) (n : ℕ) → length (seats_of o op n) ≡ n
seat_count o op zero = refl
seat_count o op (suc more) = ap (λ k. suc k) (new_count o op 1 more)

pub count_is : {O I : Type 0} (o : O) (op : List (ℕ × I)) (n : ℕ) (vs ws : List (View O I)) → vs ≡ seats_of o op n → AreLater vs ws → length ws ≡ n
count_is o op n vs ws e later = as_long vs ws later ∙ (ap (λ l. length l) e ∙ seat_count o op n)

-- what a gate gives back is a run of so many kernels
pub ran_ended : {V O I : Type 0} (origin : V → O) (log : V → List (ℕ × I)) (holds : V → Type 0) (kernels : ℕ) (key v w : V) (vs : List (View O I)) → key ≡ v → length vs ≡ kernels → Ended (origin key) (log key) (origin w) (log w) vs → holds w → Ran origin log holds kernels v w
ran_ended origin log holds kernels key v w vs same long e h = record {
  origin_stays = e.from_start ∙ ap origin same;
  grows = (e.added, e.grown ∙ ap (λ (x : _). log x ++ e.added) same, λ n out. e.strangers n (subst (λ k. (n ≡ 0) ⊎ (k < n)) (sym long) out));
  still_holds = h;
}
