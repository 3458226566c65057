-- Seats over some turns.
use Rattle.std.proofs.Common.{◌≡◌, ℕ, zero, suc, ◌<◌, List, [], ◌∷◌, ◌++◌, map, length, slice_index_or, All, Option, Some, sym, refl, ap, ◌∙◌, subst, arith, append-nil, le_refl}
use Rattle.turn_gate.specs.declared.View.{View}
use Rattle.turn_gate.specs.Steps.{Later}
use Rattle.turn_gate.specs.Ended.{IsAll}
use Rattle.turn_gate.proofs.TurnLaws.{later_on}
use Rattle.turn_gate.proofs.SeatLaws.{all_later}
use Rattle.turn_gate.proofs.SmallLaws.{some_is}
use Rattle.kernel_threads.specs.declared.acts.Act.{Act}
use Rattle.kernel_threads.specs.declared.acts.Act.TheVariants.{Over, Idle, Moved, Began}
use Rattle.kernel_threads.specs.Steps.{BeganOf}
use Rattle.kernel_threads.specs.Seats.{AreLater, MayEndAt}

-- a seat at once
pub later_begins : {O I : Type 0} (v : View O I) → Later v v
later_begins v = record { origin = refl; opening = refl; number = refl; keeps = refl; tally = refl; items = ([], sym (append-nil v.items), tt); seen = le_refl v.seen }

-- and seats at once
pub are_later_begin : {O I : Type 0} (vs : List (View O I)) → AreLater vs vs
are_later_begin [] = tt
are_later_begin (v ∷ vs) = (later_begins v, are_later_begin vs)

-- later than later
pub are_later_on : {O I : Type 0} (us vs ws : List (View O I)) → AreLater us vs → AreLater vs ws → AreLater us ws
are_later_on [] [] [] a b = tt
are_later_on [] [] (w ∷ ws) a b = absurd b
are_later_on [] (v ∷ vs) ws a b = absurd a
are_later_on (u ∷ us) [] ws a b = absurd a
are_later_on (u ∷ us) (v ∷ vs) [] a b = absurd b
are_later_on (u ∷ us) (v ∷ vs) (w ∷ ws) a b = (later_on u v w a.0 b.0, are_later_on us vs ws a.1 b.1)

later_last : {A O I : Type 0} (f : A → View O I) (xs ys : List A) (x y : A) → AreLater (map f xs) (map f ys) → Later (f x) (f y) → AreLater (map f (xs ++ x ∷ [])) (map f (ys ++ y ∷ []))
later_last f [] [] x y all one = (one, tt)
later_last f [] (z ∷ ys) x y all one = absurd all
later_last f (z ∷ xs) [] x y all one = absurd all
later_last f (w ∷ xs) (z ∷ ys) x y all one = (all.0, later_last f xs ys x y all.1 one)

-- a last seat that was taken off comes back behind the others
pub later_pushed : {A O I : Type 0} (f : A → View O I) (old xs ys new : List A) (x y : A) → old ≡ xs ++ x ∷ [] → new ≡ ys ++ y ∷ [] → AreLater (map f xs) (map f ys) → Later (f x) (f y) → AreLater (map f old) (map f new)
later_pushed f old xs ys new x y was is all one =
    subst (λ l. AreLater (map f l) (map f new)) (sym was) (subst (λ l. AreLater (map f (xs ++ x ∷ [])) (map f l)) (sym is) (later_last f xs ys x y all one))

last_of : {A : Type 0} (P : A → Type 0) (xs : List A) (x : A) → All P (xs ++ x ∷ []) → P x
last_of P [] x all = all 0 x (omega arith)
last_of P (y ∷ xs) x all = last_of P xs x (λ k d low. all (suc k) d (omega arith))

first_of : {A : Type 0} (P : A → Type 0) (xs : List A) (x : A) (k : ℕ) (d : A) → All P (xs ++ x ∷ []) → k < length xs → P (slice_index_or xs k d)
first_of P [] x k d all low = absurd (omega arith)
first_of P (y ∷ xs) x zero d all low = all 0 d (omega arith)
first_of P (y ∷ xs) x (suc k) d all low = first_of P xs x k d (λ i e small. all (suc i) e (omega arith)) (omega arith)

more_of : {A : Type 0} (P : A → Type 0) (xs : List A) (x : A) (k : ℕ) (d : A) → All P xs → P x → k < length (xs ++ x ∷ []) → P (slice_index_or (xs ++ x ∷ []) k d)
more_of P [] x zero d all one low = one
more_of P [] x (suc k) d all one low = absurd (omega arith)
more_of P (y ∷ xs) x zero d all one low = all 0 d (omega arith)
more_of P (y ∷ xs) x (suc k) d all one low = more_of P xs x k d (λ i e small. all (suc i) e (omega arith)) one (omega arith)

-- what is true of each of a list is true of the last, of the others, and of one more
pub every_last : {A : Type 0} (P : A → Type 0) (old xs : List A) (x : A) → old ≡ xs ++ x ∷ [] → All P old → P x
every_last P old xs x e all = last_of P xs x (subst (λ l. All P l) e all)

pub every_first : {A : Type 0} (P : A → Type 0) (old xs : List A) (x : A) → old ≡ xs ++ x ∷ [] → All P old → All P xs
every_first P old xs x e all = λ k d low. first_of P xs x k d (subst (λ l. All P l) e all) low

pub every_pushed : {A : Type 0} (P : A → Type 0) (xs new : List A) (x : A) → new ≡ xs ++ x ∷ [] → All P xs → P x → All P new
every_pushed P xs new x e all one = subst (λ l. All P l) (sym e) (λ k d low. more_of P xs x k d all one low)

long_as : {A O I : Type 0} (f : A → View O I) (xs ys : List A) → AreLater (map f xs) (map f ys) → length ys ≡ length xs
long_as f [] [] all = refl
long_as f [] (y ∷ ys) all = absurd all
long_as f (x ∷ xs) [] all = absurd all
long_as f (x ∷ xs) (y ∷ ys) all = ap (λ n. suc n) (long_as f xs ys all.1)

later_at : {A O I : Type 0} (f : A → View O I) (xs ys : List A) (i : ℕ) (d : A) → AreLater (map f xs) (map f ys) → i < length xs → Later (f (slice_index_or xs i d)) (f (slice_index_or ys i d))
later_at f [] [] i d all low = absurd (omega arith)
later_at f [] (y ∷ ys) i d all low = absurd all
later_at f (x ∷ xs) [] i d all low = absurd all
later_at f (x ∷ xs) (y ∷ ys) zero d all low = all.0
later_at f (x ∷ xs) (y ∷ ys) (suc i) d all low = later_at f xs ys i d all.1 (omega arith)

-- all seats, some turns later, are all seats
pub still_all : {A O I : Type 0} (f : A → View O I) (xs ys : List A) → IsAll (map f xs) → AreLater (map f xs) (map f ys) → IsAll (map f ys)
still_all f xs ys all later = all_later f xs ys all (long_as f xs ys later) (λ i d low. later_at f xs ys i d later low)

-- what a turn of a value with that origin came to, as the seat may say it
pub began_at : {O J B : Type 0} (is_done : J → B → Type 0) (may_end : O → B → Type 0) (o : O) (known : Option O) (act : Act J) → Some o ≡ known → BeganOf is_done (may_end o) act → BeganOf is_done (MayEndAt may_end known) act
began_at is_done may_end o known Over e began = tt
began_at is_done may_end o known Idle e began = tt
began_at is_done may_end o known Moved e began = tt
began_at is_done may_end o known (Began job) e began = λ b done p is. subst (λ z. may_end z b) (some_is o p (e ∙ sym is)) (began b done)
