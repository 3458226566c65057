-- Elements of an array as a list.
use Rattle.std.proofs.Common.{◌≡◌, List, [], ◌∷◌, map, Some, refl, ap, sym, ◌∙◌}
use Rattle.toml.specs.Data.{Data, string, integer, float, boolean, datetime, array, table, as_array}
use Rattle.toml.specs.declared.value.Value.{Value}
use Rattle.toml.specs.View.{view, items_of, items_view}
use Rattle.cluster_file.specs.Tables.{listed, elements_of}

pub listed_again : (ds : List Data) → listed (items_of ds) ≡ ds
listed_again [] = refl
listed_again (d ∷ ds) = ap (λ rest. d ∷ rest) (listed_again ds)

-- the elements of a value whose array is known
pub elements_known : (d : Data) (vs : List Value) → Some (items_view vs) ≡ as_array d → map view vs ≡ elements_of d
elements_known (array ds) vs e =
    let same : items_view vs ≡ ds = cc in
    sym (listed_again (map view vs)) ∙ ap listed same
elements_known (string s) vs e = absurd (cc)
elements_known (integer s) vs e = absurd (cc)
elements_known (float s) vs e = absurd (cc)
elements_known (boolean s) vs e = absurd (cc)
elements_known (datetime s) vs e = absurd (cc)
elements_known (table s) vs e = absurd (cc)
