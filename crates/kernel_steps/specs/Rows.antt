-- Rows of a key and a value.
use Rattle.std.specs.Prelude.{Bool, ◌&&◌, List, Option, map, option_map}
use Rattle.std.specs.List.{filter, find}

-- whether a row has that key
abbrev pub is_under : {K V : Type 0} → (K → K → Bool) → K → K × V → Bool
is_under same key row = same row.0 key

-- whether a row has that value
abbrev pub has_value : {K V : Type 0} → (V → V → Bool) → V → K × V → Bool
has_value same value row = same row.1 value

-- whether a row has that key and that value
abbrev pub is_row : {K V : Type 0} → (K → K → Bool) → (V → V → Bool) → K → V → K × V → Bool
is_row same_key same_value key value row = same_key row.0 key && same_value row.1 value

-- the row with another value
abbrev pub with_value : {K V : Type 0} → V → K × V → K × V
with_value value row = (row.0, value)

-- the value of the first row that has that key
abbrev pub first_under : {K V : Type 0} → (K → K → Bool) → K → List (K × V) → Option V
first_under same key rows = option_map (λ row. row.1) (find (is_under same key) rows)

-- the values of all rows that have that key, in their order
abbrev pub all_under : {K V : Type 0} → (K → K → Bool) → K → List (K × V) → List V
all_under same key rows = map (λ row. row.1) (filter (is_under same key) rows)
