-- Names that a map sorts, seen as lists of bytes.
use Rattle.std.proofs.Common.{◌≡◌, ℕ, List, [], ◌∷◌, map, Ordering, Less, Equal, Greater, nat_cmp, refl, ap}
use Rattle.std.specs.Ordering.{match_ordering}
use Rattle.std.specs.BTreeMap.{insert_entry}
use Rattle.std.specs.Map.{keys_of}
use Rattle.std.specs.Cmp.Lexicographic.{slice_cmp}
use Rattle.server_kernel.specs.Listing.{keyed}

-- the keys, seen
pub keys_keyed : {K X : Type 0} (seen : K → List ℕ) (entries : List (K × X)) → keys_of (keyed seen entries) ≡ map seen (keys_of entries)
keys_keyed seen [] = refl
keys_keyed seen (entry ∷ entries) = ap (λ keys. seen entry.0 ∷ keys) (keys_keyed seen entries)

put_keyed : {K X : Type 0} (seen : K → List ℕ) (key : K) (value : X) (entry : K × X) (entries rest : List (K × X)) (seen_rest : List (List ℕ × X)) (order : Ordering) → keyed seen rest ≡ seen_rest → keyed seen (match_ordering order ((key, value) ∷ entry ∷ entries) ((entry.0, value) ∷ entries) (entry ∷ rest)) ≡ match_ordering order ((seen key, value) ∷ (seen entry.0, entry.1) ∷ keyed seen entries) ((seen entry.0, value) ∷ keyed seen entries) ((seen entry.0, entry.1) ∷ seen_rest)
put_keyed seen key value entry entries rest seen_rest Less h = refl
put_keyed seen key value entry entries rest seen_rest Equal h = refl
put_keyed seen key value entry entries rest seen_rest Greater h = ap (λ more. (seen entry.0, entry.1) ∷ more) h

-- a key goes to the place to which what it is seen as goes
pub insert_keyed : {K X : Type 0} (seen : K → List ℕ) (entries : List (K × X)) (key : K) (value : X) → keyed seen (insert_entry (λ a b. slice_cmp nat_cmp (seen a) (seen b)) entries key value) ≡ insert_entry (slice_cmp nat_cmp) (keyed seen entries) (seen key) value
insert_keyed seen [] key value = refl
insert_keyed seen (entry ∷ entries) key value =
    put_keyed seen key value entry entries (insert_entry (λ a b. slice_cmp nat_cmp (seen a) (seen b)) entries key value) (insert_entry (slice_cmp nat_cmp) (keyed seen entries) (seen key) value) (slice_cmp nat_cmp (seen key) (seen entry.0)) (insert_keyed seen entries key value)
