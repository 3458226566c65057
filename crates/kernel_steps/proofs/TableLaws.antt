-- Entries under keys.
use Rattle.std.proofs.Common.{◌≡◌, Bool, true, false, cond, List, [], ◌∷◌, Some, None, refl, ap}
use Rattle.std.specs.Map.{lookup, set_value}

absent_by : {K V : Type 0} (test : K → Bool) (entry : K × V) (rest : List (K × V)) (value : V) (b : Bool) → cond b (Some entry.1) (lookup test rest) ≡ None → (lookup test rest ≡ None → set_value test rest value ≡ rest) → cond b ((entry.0, value) ∷ rest) (entry ∷ set_value test rest value) ≡ entry ∷ rest
absent_by test entry rest value true e h = absurd (cc)
absent_by test entry rest value false e h = ap (λ entries. entry ∷ entries) (h e)

-- where the test finds nothing, nothing is set
pub absent_same : {K V : Type 0} (test : K → Bool) (entries : List (K × V)) (value : V) → lookup test entries ≡ None → set_value test entries value ≡ entries
absent_same test [] value e = refl
absent_same test (entry ∷ rest) value e = absent_by test entry rest value (test entry.0) e (absent_same test rest value)
