-- The maps of processes and of streams as lists of what they hold: what is found, put and taken out.
use Rattle.std.proofs.Common.{rules, tests, subst, ◌≡◌, ℕ, zero, suc, ◌==◌, ◌&&◌, ◌||◌, Bool, true, false, cond, List, [], ◌∷◌, map, replicate, Option, Some, None, find, is_some, refl, sym, ap, ◌∙◌, slice_get}
use Rattle.std.specs.List.{list_any, list_all}
use Rattle.std.specs.Map.{lookup, set_value, remove_entry, values_of}
use Rattle.std.proofs.lemmas.Bool.{eqb-true}
use Rattle.indexmap.specs.IndexMap.{insert_entry}
use Rattle.sprite_ids.specs.declared.StreamNo.{StreamNo}
use Rattle.sprite_ids.specs.Lists.{put, without, EachOnce}
use Rattle.sprite_ids.proofs.OnceLaws.{AtMostOne, dropped, stays, none_taken, at_most_one, put_once}
use Rattle.stream_table.specs.declared.owners.Descriptors.{Descriptors}
use Rattle.stream_table.specs.declared.entries.Known.{Known}
use Rattle.stream_table.specs.declared.stream.Stream.{Stream}
use Rattle.stream_table.specs.Owners.{Owner, owners_in, is_number, is_owner, same_owner, leads_to, is_referred, nothing, named, numbers_or, numbers_of, descriptor, is_used, kept}
use Rattle.stream_table.specs.Entries.{Entry, entries_in, is_of, same_entry, is_listed, stream_in, holder_in, stream_of, holder_of, is_roomy, is_low, has_room}
use Rattle.stream_table.proofs.EntryLaws.{one_number, number_turned, entries_same}
use Rattle.stream_table.proofs.OwnerLaws.{eq_turned, owners_same, kept_none}
use Rattle.stream_table.proofs.ReferLaws.{owner}
use Rattle.stream_table.proofs.FoundLaws.{entry}

module _ {K V X : Type 0} (seen : K → V → X) (eq : K → K → Bool) (k : K) (one : (other : K) → eq k other ≡ true → k ≡ other) (is : X → Bool) (same : (other : K) (v : V) → is (seen other v) ≡ eq k other) where
  -- what a map holds
  abbrev all : List (K × V) → List X
  all es = map (λ e. seen e.0 e.1) es

  -- what is held under the key
  abbrev pub held : Option V → Option X
  held (Some v) = Some (seen k v)
  held None = None

  found_by : (e : K × V) (es : List (K × V)) (b : Bool) → eq k e.0 ≡ b → find is (all es) ≡ held (lookup (eq k) es) → cond b (Some (seen e.0 e.1)) (find is (all es)) ≡ held (cond b (Some e.1) (lookup (eq k) es))
  found_by e es true t h = ap (λ n. Some (seen n e.1)) (sym (one e.0 t))
  found_by e es false t h = h

  pub found_held : (es : List (K × V)) → find is (all es) ≡ held (lookup (eq k) es)
  found_held [] = refl
  found_held (e ∷ es) = ap (λ b. cond b (Some (seen e.0 e.1)) (find is (all es))) (same e.0 e.1) ∙ found_by e es (eq k e.0) refl (found_held es)

  any_by : (e : K × V) (es : List (K × V)) (b : Bool) → list_any is (all es) ≡ is_some (lookup (eq k) es) → (b || list_any is (all es)) ≡ is_some (cond b (Some e.1) (lookup (eq k) es))
  any_by e es true h = refl
  any_by e es false h = h

  -- whether anything is held under it
  pub any_held : (es : List (K × V)) → list_any is (all es) ≡ is_some (lookup (eq k) es)
  any_held [] = refl
  any_held (e ∷ es) = ap (λ b. b || list_any is (all es)) (same e.0 e.1) ∙ any_by e es (eq k e.0) (any_held es)

  put_by : (e : K × V) (es : List (K × V)) (v : V) (b : Bool) → eq k e.0 ≡ b → all (insert_entry eq es k v) ≡ put is (seen k v) (all es) → all (cond b ((e.0, v) ∷ es) (e ∷ insert_entry eq es k v)) ≡ cond b (seen k v ∷ all es) (seen e.0 e.1 ∷ put is (seen k v) (all es))
  put_by e es v true t h = ap (λ n. seen n v ∷ all es) (sym (one e.0 t))
  put_by e es v false t h = ap (λ xs. seen e.0 e.1 ∷ xs) h

  pub put_held : (es : List (K × V)) (v : V) → all (insert_entry eq es k v) ≡ put is (seen k v) (all es)
  put_held [] v = refl
  put_held (e ∷ es) v = put_by e es v (eq k e.0) refl (put_held es v) ∙ sym (ap (λ b. cond b (seen k v ∷ all es) (seen e.0 e.1 ∷ put is (seen k v) (all es))) (same e.0 e.1))

  set_by : (e : K × V) (es : List (K × V)) (v found : V) (b : Bool) → eq k e.0 ≡ b → (lookup (eq k) es ≡ Some found → all (set_value (eq k) es v) ≡ put is (seen k v) (all es)) → cond b (Some e.1) (lookup (eq k) es) ≡ Some found → all (cond b ((e.0, v) ∷ es) (e ∷ set_value (eq k) es v)) ≡ cond b (seen k v ∷ all es) (seen e.0 e.1 ∷ put is (seen k v) (all es))
  set_by e es v found true t h is_there = ap (λ n. seen n v ∷ all es) (sym (one e.0 t))
  set_by e es v found false t h is_there = ap (λ xs. seen e.0 e.1 ∷ xs) (h is_there)

  pub set_held : (es : List (K × V)) (v found : V) → lookup (eq k) es ≡ Some found → all (set_value (eq k) es v) ≡ put is (seen k v) (all es)
  set_held [] v found is_there = absurd (cc)
  set_held (e ∷ es) v found is_there = set_by e es v found (eq k e.0) refl (λ later. set_held es v found later) is_there ∙ sym (ap (λ b. cond b (seen k v ∷ all es) (seen e.0 e.1 ∷ put is (seen k v) (all es))) (same e.0 e.1))

  dropped_by : (e : K × V) (es : List (K × V)) (b : Bool) → eq k e.0 ≡ b → (is (seen e.0 e.1) ≡ true → list_any is (all es) ≡ false) → all (remove_entry (eq k) es) ≡ without is (all es) → all (cond b es (e ∷ remove_entry (eq k) es)) ≡ without is (seen e.0 e.1 ∷ all es)
  dropped_by e es true t o h = sym (dropped is (seen e.0 e.1) (all es) (same e.0 e.1 ∙ t) ∙ none_taken is (all es) (o (same e.0 e.1 ∙ t)))
  dropped_by e es false t o h = ap (λ xs. seen e.0 e.1 ∷ xs) h ∙ sym (stays is (seen e.0 e.1) (all es) (same e.0 e.1 ∙ t))

  pub dropped_held : (es : List (K × V)) → AtMostOne is (all es) → all (remove_entry (eq k) es) ≡ without is (all es)
  dropped_held [] o = refl
  dropped_held (e ∷ es) o = dropped_by e es (eq k e.0) refl o.0 (dropped_held es o.1)

-- the key of a process
abbrev pub is_pid : ℕ → ℕ → Bool
is_pid pid other = pid == other

-- the key of a stream
abbrev pub is_key : StreamNo → StreamNo → Bool
is_key number other = is_number other number

abbrev seen_owner : ℕ → Descriptors → Owner
seen_owner pid descriptors = owner pid descriptors.numbers

abbrev seen_entry : StreamNo → Known → Entry
seen_entry number known = entry number known.stream known.holder

one_pid : (pid other : ℕ) → is_pid pid other ≡ true → pid ≡ other
one_pid pid other e = eqb-true pid other e

one_key : (number other : StreamNo) → is_key number other ≡ true → number ≡ other
one_key number other e = sym (one_number other number e)

-- the descriptors that a look-up finds
abbrev pub or_nothing : Option Descriptors → List (Option StreamNo)
or_nothing (Some descriptors) = descriptors.numbers
or_nothing None = nothing

numbers_held : (pid : ℕ) (o : Option Descriptors) → numbers_or (held seen_owner is_pid pid (one_pid pid) (is_owner pid) (λ other v. eq_turned other pid) o) ≡ or_nothing o
numbers_held pid (Some descriptors) = refl
numbers_held pid None = refl

pub numbers_found : (es : List (ℕ × Descriptors)) (pid : ℕ) (o : Option Descriptors) → o ≡ lookup (is_pid pid) es → numbers_of (owners_in es) pid ≡ or_nothing o
numbers_found es pid o e = ap numbers_or (found_held seen_owner is_pid pid (one_pid pid) (is_owner pid) (λ other v. eq_turned other pid) es) ∙ numbers_held pid (lookup (is_pid pid) es) ∙ ap or_nothing (sym e)

no_descriptor : (n fd : ℕ) → named (slice_get (replicate n None) fd) ≡ None
no_descriptor zero fd = refl
no_descriptor (suc n) zero = refl
no_descriptor (suc n) (suc fd) = no_descriptor n fd

-- a process that isn't there has no descriptor
pub no_owner : (es : List (ℕ × Descriptors)) (pid fd : ℕ) → None ≡ lookup (is_pid pid) es → descriptor (owners_in es) pid fd ≡ None
no_owner es pid fd e = ap (λ ns. named (slice_get ns fd)) (numbers_found es pid None e) ∙ no_descriptor 16 fd

pub owner_known : (es : List (ℕ × Descriptors)) (pid : ℕ) (o : Option Descriptors) → o ≡ lookup (is_pid pid) es → list_any (is_owner pid) (owners_in es) ≡ is_some o
owner_known es pid o e = any_held seen_owner is_pid pid (one_pid pid) (is_owner pid) (λ other v. eq_turned other pid) es ∙ ap is_some (sym e)

pub owner_put : (es : List (ℕ × Descriptors)) (pid : ℕ) (descriptors : Descriptors) → owners_in (insert_entry is_pid es pid descriptors) ≡ put (is_owner pid) (owner pid descriptors.numbers) (owners_in es)
owner_put es pid descriptors = put_held seen_owner is_pid pid (one_pid pid) (is_owner pid) (λ other v. eq_turned other pid) es descriptors

-- a process that is there has other descriptors
pub owner_set : (es new : List (ℕ × Descriptors)) (pid : ℕ) (descriptors found : Descriptors) (numbers : List (Option StreamNo) → List (Option StreamNo)) → Some found ≡ lookup (is_pid pid) es → new ≡ set_value (is_pid pid) es descriptors → descriptors.numbers ≡ numbers found.numbers → owners_in new ≡ put (is_owner pid) (owner pid (numbers (numbers_of (owners_in es) pid))) (owners_in es)
owner_set es new pid descriptors found numbers e en ed =
    ap owners_in en ∙ set_held seen_owner is_pid pid (one_pid pid) (is_owner pid) (λ other v. eq_turned other pid) es descriptors found (sym e)
    ∙ ap (λ ns. put (is_owner pid) (owner pid ns) (owners_in es)) (ed ∙ ap numbers (sym (numbers_found es pid (Some found) e)))

pub owner_dropped : (es : List (ℕ × Descriptors)) (pid : ℕ) → EachOnce same_owner (owners_in es) → owners_in (remove_entry (is_pid pid) es) ≡ without (is_owner pid) (owners_in es)
owner_dropped es pid once = dropped_held seen_owner is_pid pid (one_pid pid) (is_owner pid) (λ other v. eq_turned other pid) es (at_most_one same_owner owners_same (owner pid []) (owners_in es) once)

-- whether any descriptors lead to a stream
pub any_refers : (es : List (ℕ × Descriptors)) (number : StreamNo) → list_any (leads_to number) (values_of es) ≡ is_referred (owners_in es) number
any_refers [] number = refl
any_refers (e ∷ es) number = ap (λ b. leads_to number e.1 || b) (any_refers es number)

-- the stream and the holder that a look-up finds
abbrev pub stream_known : Option Known → Option Stream
stream_known (Some known) = known.stream
stream_known None = None

abbrev pub holder_known : Option Known → Option ℕ
holder_known (Some known) = known.holder
holder_known None = None

stream_held : (number : StreamNo) (o : Option Known) → stream_in (held seen_entry is_key number (one_key number) (is_of number) (λ other v. number_turned number other) o) ≡ stream_known o
stream_held number (Some known) = refl
stream_held number None = refl

holder_held : (number : StreamNo) (o : Option Known) → holder_in (held seen_entry is_key number (one_key number) (is_of number) (λ other v. number_turned number other) o) ≡ holder_known o
holder_held number (Some known) = refl
holder_held number None = refl

pub stream_found : (es : List (StreamNo × Known)) (number : StreamNo) (o : Option Known) → o ≡ lookup (is_key number) es → stream_of (entries_in es) number ≡ stream_known o
stream_found es number o e = ap stream_in (found_held seen_entry is_key number (one_key number) (is_of number) (λ other v. number_turned number other) es) ∙ stream_held number (lookup (is_key number) es) ∙ ap stream_known (sym e)

pub holder_found : (es : List (StreamNo × Known)) (number : StreamNo) (o : Option Known) → o ≡ lookup (is_key number) es → holder_of (entries_in es) number ≡ holder_known o
holder_found es number o e = ap holder_in (found_held seen_entry is_key number (one_key number) (is_of number) (λ other v. number_turned number other) es) ∙ holder_held number (lookup (is_key number) es) ∙ ap holder_known (sym e)

pub entry_listed : (es : List (StreamNo × Known)) (number : StreamNo) → is_listed (entries_in es) number ≡ is_some (lookup (is_key number) es)
entry_listed es number = any_held seen_entry is_key number (one_key number) (is_of number) (λ other v. number_turned number other) es

pub entry_put : (es : List (StreamNo × Known)) (number : StreamNo) (known : Known) → entries_in (insert_entry is_key es number known) ≡ put (is_of number) (entry number known.stream known.holder) (entries_in es)
entry_put es number known = put_held seen_entry is_key number (one_key number) (is_of number) (λ other v. number_turned number other) es known

pub entry_dropped : (es : List (StreamNo × Known)) (number : StreamNo) → EachOnce same_entry (entries_in es) → entries_in (remove_entry (is_key number) es) ≡ without (is_of number) (entries_in es)
entry_dropped es number once = dropped_held seen_entry is_key number (one_key number) (is_of number) (λ other v. number_turned number other) es (at_most_one same_entry entries_same (entry number None None) (entries_in es) once)

-- whether every stream has room
pub all_roomy : (es : List (StreamNo × Known)) → list_all is_low (values_of es) ≡ has_room (entries_in es)
all_roomy [] = refl
all_roomy (e ∷ es) = ap (λ b. is_roomy e.1.stream && b) (all_roomy es)

without_by : {X : Type 0} (p : X → Bool) (x y : X) (ys : List X) → p x ≡ true → without p (put p x ys) ≡ without p ys → (b : Bool) → p y ≡ b → without p (cond b (x ∷ ys) (y ∷ put p x ys)) ≡ without p (y ∷ ys)
without_by p x y ys h later true e = dropped p x ys h ∙ sym (dropped p y ys e)
without_by p x y ys h later false e = stays p y (put p x ys) e ∙ ap (λ l. y ∷ l) later ∙ sym (stays p y ys e)

-- without the item that was put
pub without_put : {X : Type 0} (p : X → Bool) (x : X) (xs : List X) → p x ≡ true → without p (put p x xs) ≡ without p xs
without_put p x [] h = dropped p x [] h
without_put p x (y ∷ ys) h = without_by p x y ys h (without_put p x ys h) (p y) refl

itself : (n : ℕ) → (n == n) ≡ true
itself n = search (rules, tests)

-- a process goes whose descriptors are all free
pub owner_gone : (before cleared : List (ℕ × Descriptors)) (pid : ℕ) (numbers : List (Option StreamNo)) → owners_in cleared ≡ put (is_owner pid) (owner pid numbers) (owners_in before) → EachOnce same_owner (owners_in before) → is_used numbers ≡ false → owners_in (remove_entry (is_pid pid) cleared) ≡ kept (owners_in before) (owner pid numbers)
owner_gone before cleared pid numbers e once free =
    let still = subst (EachOnce same_owner) (sym e) (put_once same_owner owners_same (owner pid numbers) (owners_in before) once) in
    owner_dropped cleared pid still ∙ ap (without (is_owner pid)) e ∙ without_put (is_owner pid) (owner pid numbers) (owners_in before) (itself pid) ∙ sym (kept_none (owners_in before) (owner pid numbers) free)
