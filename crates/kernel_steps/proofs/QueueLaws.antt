-- The first row that a test finds, found by its place.
use Rattle.std.proofs.Common.{◌≡◌, ℕ, Bool, true, List, Some, None, sym, ap, ◌∙◌, slice_get, is_some}
use Rattle.std.specs.Prelude.{option_map}
use Rattle.std.specs.List.{list_any, position}
use Rattle.sprite_ids.specs.Lists.{less}
use Rattle.sprite_ids.proofs.OnceLaws.{found_is_any, found_there, get_is, none_found, not_less, nothing_found}
use Rattle.kernel_steps.specs.Rows.{first_under, is_under}

pub none_first : {K V : Type 0} (same : K → K → Bool) (key : K) (rows : List (K × V)) → position (is_under same key) rows ≡ None → None ≡ first_under same key rows
none_first {K} {V} same key rows e =
    sym (ap (option_map (λ (row : K × V). row.1)) (nothing_found (is_under same key) rows (none_found (is_under same key) rows e)))

pub none_less : {X : Type 0} (p : X → Bool) (rows : List X) → position p rows ≡ None → rows ≡ less p rows
none_less p rows e = sym (not_less p rows (none_found p rows e))

pub first_here : {K V : Type 0} (same : K → K → Bool) (key : K) (rows : List (K × V)) (at : ℕ) (row : K × V) → position (is_under same key) rows ≡ Some at → slice_get rows at ≡ Some row → Some row.1 ≡ first_under same key rows
first_here {K} {V} same key rows at row e got =
    ap (λ (r : K × V). Some r.1) (get_is rows at row got)
    ∙ sym (ap (option_map (λ (r : K × V). r.1)) (found_there (is_under same key) rows at row e))

pub any_there : {X : Type 0} (p : X → Bool) (rows : List X) (at : ℕ) → position p rows ≡ Some at → true ≡ list_any p rows
any_there p rows at e = sym (ap is_some e) ∙ found_is_any p rows
