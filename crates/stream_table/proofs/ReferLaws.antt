-- Which streams descriptors lead to, after the descriptors of a process changed.
use Rattle.std.proofs.Common.{◌≡◌, ℕ, zero, suc, ◌<◌, ◌||◌, Bool, true, false, List, [], ◌∷◌, length, replicate, Option, Some, None, refl, sym, ap, ◌∙◌, arith, find, slice_get, slice_set, get_or, position}
use Rattle.std.specs.List.{list_any}
use Rattle.std.proofs.lemmas.List.Quantifiers.{position-Some}
use Rattle.sprite_ids.specs.declared.StreamNo.{StreamNo}
use Rattle.stream_table.specs.Owners.{Owner}
use Rattle.sprite_ids.specs.Lists.{put, without, EachOnce}
use Rattle.stream_table.specs.Owners.{is_number, names, is_free, is_taken, is_used, is_owner, same_owner, refers, is_referred, numbers_or, numbers_of, named, descriptor, kept}
use Rattle.sprite_ids.proofs.OnceLaws.{nothing_found, passes, any_split, any_put, any_set, at_most_one, or_false}
use Rattle.stream_table.proofs.EntryLaws.{number_itself}
use Rattle.stream_table.proofs.OwnerLaws.{owners_same, kept_none, kept_some}

-- a process with its descriptors
abbrev pub owner : ℕ → List (Option StreamNo) → Owner
owner pid numbers = record { pid = pid; numbers = numbers }

-- whether one of these descriptors leads to the stream
abbrev pub any_names : StreamNo → List (Option StreamNo) → Bool
any_names m numbers = list_any (names m) numbers

-- whether a descriptor of another process leads to the stream
abbrev pub elsewhere : List Owner → ℕ → StreamNo → Bool
elsewhere owners pid m = is_referred (without (is_owner pid) owners) m

-- the descriptors of one process, and those of the others, after a change of the one
pub referred_put : (owners : List Owner) (pid : ℕ) (numbers : List (Option StreamNo)) (m : StreamNo) → EachOnce same_owner owners → is_referred (put (is_owner pid) (owner pid numbers) owners) m ≡ (any_names m numbers || elsewhere owners pid m)
referred_put owners pid numbers m once = any_put (is_owner pid) (refers m) (owner pid numbers) owners (at_most_one same_owner owners_same (owner pid numbers) owners once)

passes_found : (m : StreamNo) (o : Option Owner) → passes (refers m) o ≡ any_names m (numbers_or o)
passes_found m (Some o) = refl
passes_found m None = refl

-- and before it
pub referred_split : (owners : List Owner) (pid : ℕ) (m : StreamNo) → EachOnce same_owner owners → is_referred owners m ≡ (any_names m (numbers_of owners pid) || elsewhere owners pid m)
referred_split owners pid m once =
    any_split (is_owner pid) (refers m) owners (at_most_one same_owner owners_same (owner pid []) owners once)
    ∙ ap (λ b. b || elsewhere owners pid m) (passes_found m (find (is_owner pid) owners))

no_name : (m : StreamNo) (x : Option StreamNo) → is_taken x ≡ false → names m x ≡ false
no_name m (Some n) h = absurd (cc)
no_name m None h = refl

-- descriptors that aren't in use lead nowhere
pub no_names : (m : StreamNo) (numbers : List (Option StreamNo)) → is_used numbers ≡ false → any_names m numbers ≡ false
no_names m [] h = refl
no_names m (x ∷ xs) h =
    let parts = or_false (is_taken x) (is_used xs) h in
    ap (λ b. b || any_names m xs) (no_name m x parts.0) ∙ no_names m xs parts.1

kept_by : (owners : List Owner) (pid : ℕ) (numbers : List (Option StreamNo)) (m : StreamNo) (b : Bool) → is_used numbers ≡ b → EachOnce same_owner owners → is_referred (kept owners (owner pid numbers)) m ≡ (any_names m numbers || elsewhere owners pid m)
kept_by owners pid numbers m true e once = ap (λ os. is_referred os m) (kept_some owners (owner pid numbers) e) ∙ referred_put owners pid numbers m once
kept_by owners pid numbers m false e once =
    ap (λ os. is_referred os m) (kept_none owners (owner pid numbers) e) ∙ sym (ap (λ b. b || elsewhere owners pid m) (no_names m numbers e))

-- the same where a process without descriptors goes
pub referred_kept : (owners : List Owner) (pid : ℕ) (numbers : List (Option StreamNo)) (m : StreamNo) → EachOnce same_owner owners → is_referred (kept owners (owner pid numbers)) m ≡ (any_names m numbers || elsewhere owners pid m)
referred_kept owners pid numbers m once = kept_by owners pid numbers m (is_used numbers) refl once

free_first : (x : Option StreamNo) → is_free x ≡ true → Some x ≡ Some None
free_first (Some n) h = absurd (cc)
free_first None h = refl

free_at : (numbers : List (Option StreamNo)) (i : ℕ) → i < length numbers → is_free (get_or numbers i None) ≡ true → slice_get numbers i ≡ Some None
free_at [] i h k = absurd (omega arith)
free_at (x ∷ xs) zero h k = free_first x k
free_at (x ∷ xs) (suc i) h k = free_at xs i (omega arith) k

-- the lowest free descriptor is free
pub free_slot : (numbers : List (Option StreamNo)) (fd : ℕ) → position is_free numbers ≡ Some fd → slice_get numbers fd ≡ Some None
free_slot numbers fd e = let found = position-Some is_free numbers fd None e in free_at numbers fd found.0 found.1

or_none : (b : Bool) → (b || false) ≡ b
or_none true = refl
or_none false = refl

-- where the descriptors lead with one more in use
pub names_more : (m n : StreamNo) (numbers : List (Option StreamNo)) (fd : ℕ) → slice_get numbers fd ≡ Some None → any_names m (slice_set numbers fd (Some n)) ≡ (any_names m numbers || is_number m n)
names_more m n numbers fd e = sym (or_none _) ∙ any_set (names m) numbers fd None (Some n) e

-- and where they led with one fewer
pub names_less : (m n : StreamNo) (numbers : List (Option StreamNo)) (fd : ℕ) → slice_get numbers fd ≡ Some (Some n) → any_names m numbers ≡ (any_names m (slice_set numbers fd None) || is_number m n)
names_less m n numbers fd e = sym (or_none _) ∙ sym (any_set (names m) numbers fd (Some n) None e)

named_at : (o : Option (Option StreamNo)) (n : StreamNo) → named o ≡ Some n → o ≡ Some (Some n)
named_at (Some x) n h = ap Some h
named_at None n h = cc

-- a descriptor that is in use
pub descriptor_slot : (owners : List Owner) (pid fd : ℕ) (n : StreamNo) → descriptor owners pid fd ≡ Some n → slice_get (numbers_of owners pid) fd ≡ Some (Some n)
descriptor_slot owners pid fd n h = named_at (slice_get (numbers_of owners pid) fd) n h

-- leads to its stream
pub descriptor_names : (owners : List Owner) (pid fd : ℕ) (n : StreamNo) → descriptor owners pid fd ≡ Some n → any_names n (numbers_of owners pid) ≡ true
descriptor_names owners pid fd n h =
    names_less n n (numbers_of owners pid) fd (descriptor_slot owners pid fd n h)
    ∙ ap (λ b. any_names n (slice_set (numbers_of owners pid) fd None) || b) (number_itself n) ∙ or_true (any_names n (slice_set (numbers_of owners pid) fd None))
  where
    or_true : (b : Bool) → (b || true) ≡ true
    or_true true = refl
    or_true false = refl

empty_slot : (k fd : ℕ) → named (slice_get (replicate k None) fd) ≡ None
empty_slot zero fd = refl
empty_slot (suc k) zero = refl
empty_slot (suc k) (suc fd) = empty_slot k fd

unknown : (owners : List Owner) (pid fd : ℕ) (n : StreamNo) (b : Bool) → list_any (is_owner pid) owners ≡ b → descriptor owners pid fd ≡ Some n → b ≡ true
unknown owners pid fd n true e h = refl
unknown owners pid fd n false e h =
    let none = sym h ∙ ap (λ o. named (slice_get (numbers_or o) fd)) (nothing_found (is_owner pid) owners e) ∙ empty_slot 16 fd in absurd (cc)

-- and its process has an entry
pub descriptor_known : (owners : List Owner) (pid fd : ℕ) (n : StreamNo) → descriptor owners pid fd ≡ Some n → list_any (is_owner pid) owners ≡ true
descriptor_known owners pid fd n h = unknown owners pid fd n (list_any (is_owner pid) owners) refl h
