-- Bytes in hexadecimal.
use Rattle.std.specs.Prelude.{◌≡◌, ℕ, ◌+◌, ◌-◌, ◌*◌, Bool, ◌&&◌, ◌||◌, nat_le, if◌then◌else◌, List, [], ◌∷◌, ◌++◌, Option, Some, None, option_map}

-- whether it is one of 0 to 9 and a to f
abbrev pub is_digit : ℕ → Bool
is_digit c = (nat_le 48 c && nat_le c 57) || (nat_le 97 c && nat_le c 102)

-- the value of a digit
abbrev pub value_of : ℕ → ℕ
value_of c = if nat_le c 57 then c - 48 else c - 87

-- the value of a digit, where it is one
abbrev pub digit_of : ℕ → Option ℕ
digit_of c = if is_digit c then Some (value_of c) else None

-- the bytes that digits spell, two a byte, where the higher one of the first byte was read before, or not; none where they spell none
abbrev pub bytes_from : Option ℕ → List ℕ → Option (List ℕ)
bytes_from None [] = Some []
bytes_from (Some high) [] = None
bytes_from None (c ∷ cs) = if is_digit c then bytes_from (Some (value_of c)) cs else None
bytes_from (Some high) (c ∷ cs) = if is_digit c then option_map (λ more. (16 * high + value_of c) ∷ more) (bytes_from None cs) else None

-- one digit more was put: it is the higher one of a byte, or there is one byte more
abbrev pub IsPut : Option ℕ → ℕ → List ℕ → List ℕ → Option ℕ → Type 0
IsPut None digit old new next = (new ≡ old) × (next ≡ Some digit)
IsPut (Some high) digit old new next = (new ≡ old ++ (16 * high + digit) ∷ []) × (next ≡ None)
