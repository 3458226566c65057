-- A domain that stayed as it was among the others.
use Rattle.std.proofs.Common.{◌≡◌, ℕ, List, Some, Result, Ok, Err, OnErr, slice_get, slice_set, ap, sym, ◌∙◌}
use Rattle.sprite_ids.proofs.ListLaws.{set_same}

-- what a call left as it was, where it failed, is put back in its place
pub unchanged_at : {A E X : Type 0} (r : Result A E) (xs : List X) (at : ℕ) (old new : X) → slice_get xs at ≡ Some old → OnErr r (new ≡ old) → OnErr r (slice_set xs at new ≡ xs)
unchanged_at (Ok value) xs at old new there same = tt
unchanged_at (Err error) xs at old new there same = set_same xs at new (there ∙ ap Some (sym same))
