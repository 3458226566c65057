-- What a table of a document has at a key.
use Rattle.std.specs.Prelude.{ℕ, ℤ, pos, negsuc, Bool, false, ◌&&◌, ◌==◌, if◌then◌else◌, List, [], ◌∷◌, Option, Some, None, nat_le}
use Rattle.std.specs.Option.{option_and_then, unwrap_or}
use Rattle.toml.specs.Data.{Data, array, Items, no_items, item, Members, get_member, as_integer, as_str, as_bool, as_table}
use Rattle.cluster_file.specs.declared.keys.KeyName.{KeyName}
use Rattle.cluster_file.specs.Keys.{spelled}

-- the value at a key
abbrev pub value_at : KeyName → Members → Option Data
value_at key table = get_member (spelled key) table

-- the elements of an array, in order
abbrev pub listed : Items → List Data
listed no_items = []
listed (item d ds) = d ∷ listed ds

-- the elements of an array; none of another value
abbrev pub elements_of : Data → List Data
elements_of (array ds) = listed ds
elements_of other = []

abbrev pub elements_in : Option Data → List Data
elements_in None = []
elements_in (Some d) = elements_of d

-- the elements of the array at a key; none where there is no array
abbrev pub elements_at : KeyName → Members → List Data
elements_at key table = elements_in (value_at key table)

-- the tables and the strings among some elements
abbrev pub with_some : {A : Type 0} → Option A → List A → List A
with_some None xs = xs
with_some (Some x) xs = x ∷ xs

abbrev pub tables_in : List Data → List Members
tables_in [] = []
tables_in (d ∷ ds) = with_some (as_table d) (tables_in ds)

abbrev pub texts_in : List Data → List (List ℕ)
texts_in [] = []
texts_in (d ∷ ds) = with_some (as_str d) (texts_in ds)

-- the string at a key; the empty one where there is none
abbrev pub text_at : KeyName → Members → List ℕ
text_at key table = unwrap_or (option_and_then as_str (value_at key table)) []

-- the truth value at a key; false where there is none
abbrev pub truth_at : KeyName → Members → Bool
truth_at key table = unwrap_or (option_and_then as_bool (value_at key table)) false

-- the whole number at a key; the default where there is none
abbrev pub whole_at : KeyName → ℕ → Members → ℤ
whole_at key default table = unwrap_or (option_and_then as_integer (value_at key table)) (pos default)

-- the number, where it lies between two others or is one of them
abbrev pub within : ℕ → ℕ → ℤ → Option ℕ
within least most (pos n) = if nat_le least n && nat_le n most then Some n else None
within least most (negsuc n) = None

-- whether the file has version 2, by which its other tables are read
abbrev pub is_two : ℤ → Bool
is_two (pos n) = n == 2
is_two (negsuc n) = false
