-- Seats of workers over some turns.
use Rattle.std.specs.Prelude.{◌≡◌, List, [], ◌∷◌, ◌++◌, Option, Some}
use Rattle.turn_gate.specs.declared.View.{View}
use Rattle.turn_gate.specs.Steps.{Later}

-- the same seats in the same order, some turns later
abbrev pub AreLater : {O I : Type 0} → List (View O I) → List (View O I) → Type 0
AreLater [] [] = Unit {0}
AreLater (v ∷ vs) (w ∷ ws) = Later v w × AreLater vs ws
AreLater vs ws = ⊥

-- the burst may end at a value with the origin that a seat knows
abbrev pub MayEndAt : {O B : Type 0} → (O → B → Type 0) → Option O → B → Type 0
MayEndAt may_end known burst = (o : _) → Some o ≡ known → may_end o burst

-- the other way round
abbrev pub backwards : {A : Type 0} → List A → List A
backwards [] = []
backwards (x ∷ xs) = backwards xs ++ x ∷ []

-- these seats are here, and those are away with workers, the last one first; all together they are the seats of the start, some turns later
abbrev pub Parted : {O I : Type 0} → List (View O I) → List (View O I) → List (View O I) → Type 0
Parted start here away = AreLater start (here ++ backwards away)
