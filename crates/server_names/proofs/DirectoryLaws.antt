-- The entries of one directory among all: found, put and taken out.
use Rattle.std.proofs.Common.{◌≡◌, ℕ, zero, suc, ◌+◌, ◌<◌, true, false, inl, inr, List, [], ◌∷◌, ◌++◌, cond, length, get_or, slice_get, position, remove, is_some, Option, Some, None, Result, Ok, Err, OnErr, refl, sym, ap, ◌∙◌, arith}
use Rattle.std.specs.Map.{keys_of, values_of, lookup, remove_entry, set_value}
use Rattle.std.proofs.lemmas.List.Quantifiers.{position-Some}
use Rattle.std.proofs.lemmas.Bool.{cases_Bool, true≢false}
use Rattle.sprite_ids.specs.Lists.{less}
use Rattle.sprite_ids.proofs.ListLaws.{some_is}
use Rattle.sprite_ids.proofs.OnceLaws.{less_here, not_less, none_found}
use Rattle.indexmap.specs.IndexMap.{insert_entry, set_value_at}
use Rattle.server_names.specs.declared.name.Entry.{Entry}
use Rattle.server_names.specs.Names.{Tree, Listed, is_at, is_part, is_listed, or_empty, entries_in, listed_at, listed, unlisted}

-- the directory's place is the first that has its path
abbrev FirstAt : List (List ℕ) → Tree → ℕ → Type 0
FirstAt d [] i = ⊥
FirstAt d (e ∷ es) zero = is_at d e.0 ≡ true
FirstAt d (e ∷ es) (suc i) = (is_at d e.0 ≡ false) × FirstAt d es i

first_at : (d : List (List ℕ)) (tree : Tree) (i : ℕ) (x : List (List ℕ)) → i < length (keys_of tree) → is_at d (get_or (keys_of tree) i x) ≡ true → ((k : ℕ) → k < i → is_at d (get_or (keys_of tree) k x) ≡ false) → FirstAt d tree i
first_at d [] i x h t f = absurd (omega arith)
first_at d (e ∷ es) zero x h t f = t
first_at d (e ∷ es) (suc i) x h t f = (f 0 (omega arith), first_at d es i x (omega arith) t (λ k under. f (suc k) (omega arith)))

placed : (d : List (List ℕ)) (tree : Tree) (i : ℕ) → position (is_at d) (keys_of tree) ≡ Some i → FirstAt d tree i
placed d tree i p =
    let found = position-Some (is_at d) (keys_of tree) i [] p in
    first_at d tree i [] found.0 found.1 found.2

set_value_first : (tree : Tree) (d : List (List ℕ)) (i : ℕ) (w : Listed) → FirstAt d tree i → set_value_at tree i w ≡ set_value (is_at d) tree w
set_value_first [] d i w h = absurd h
set_value_first (e ∷ es) d zero w h = sym (ap (λ b. cond b ((e.0, w) ∷ es) (e ∷ set_value (is_at d) es w)) h)
set_value_first (e ∷ es) d (suc i) w h =
    ap (λ rest. e ∷ rest) (set_value_first es d i w h.1) ∙ sym (ap (λ b. cond b ((e.0, w) ∷ es) (e ∷ set_value (is_at d) es w)) h.0)

insert_first : (tree : Tree) (d : List (List ℕ)) (i : ℕ) (w : Listed) → FirstAt d tree i → set_value_at tree i w ≡ insert_entry is_at tree d w
insert_first [] d i w h = absurd h
insert_first (e ∷ es) d zero w h = sym (ap (λ b. cond b ((e.0, w) ∷ es) (e ∷ insert_entry is_at es d w)) h)
insert_first (e ∷ es) d (suc i) w h =
    ap (λ rest. e ∷ rest) (insert_first es d i w h.1) ∙ sym (ap (λ b. cond b ((e.0, w) ∷ es) (e ∷ insert_entry is_at es d w)) h.0)

-- the entries at the directory's place are its entries
listed_found : (tree : Tree) (d : List (List ℕ)) (i : ℕ) → FirstAt d tree i → listed_at tree i ≡ entries_in tree d
listed_found [] d i h = absurd h
listed_found (e ∷ es) d zero h = sym (ap (λ b. or_empty (cond b (Some e.1) (lookup (is_at d) es))) h)
listed_found (e ∷ es) d (suc i) h = listed_found es d i h.1 ∙ sym (ap (λ b. or_empty (cond b (Some e.1) (lookup (is_at d) es))) h.0)

-- the entries that are seen at a place, and what is put there
pub listed_here : (tree : Tree) (i : ℕ) (v : Listed) → Some v ≡ slice_get (values_of tree) i → listed_at tree i ≡ v
listed_here [] i v e = cc
listed_here (first ∷ rest) zero v e = sym (some_is v first.1 e)
listed_here (first ∷ rest) (suc i) v e = listed_here rest i v e

pub set_same_here : (tree : Tree) (i : ℕ) (v : Listed) → Some v ≡ slice_get (values_of tree) i → set_value_at tree i v ≡ tree
set_same_here [] i v e = refl
set_same_here (first ∷ rest) zero v e = ap (λ (w : Listed). (first.0, w) ∷ rest) (some_is v first.1 e)
set_same_here (first ∷ rest) (suc i) v e = ap (λ (es : Tree). first ∷ es) (set_same_here rest i v e)

-- past the last place nothing is put
pub set_past : (tree : Tree) (i : ℕ) (v : Listed) → None ≡ slice_get (values_of tree) i → tree ≡ set_value_at tree i v
set_past [] i v e = refl
set_past (first ∷ rest) zero v e = cc
set_past (first ∷ rest) (suc i) v e = ap (λ (es : Tree). first ∷ es) (set_past rest i v e)

-- an entry put at the directory's place
pub put_there : (tree : Tree) (d : List (List ℕ)) (i : ℕ) (part : List ℕ) (entry : Entry) → position (is_at d) (keys_of tree) ≡ Some i → set_value_at tree i (listed_at tree i ++ (part, entry) ∷ []) ≡ listed tree d part entry
put_there tree d i part entry p =
    ap (λ es. set_value_at tree i (es ++ (part, entry) ∷ [])) (listed_found tree d i (placed d tree i p))
    ∙ insert_first tree d i (entries_in tree d ++ (part, entry) ∷ []) (placed d tree i p)

-- an entry taken out at the directory's place
pub taken_there : (tree : Tree) (d : List (List ℕ)) (i : ℕ) (part : List ℕ) → position (is_at d) (keys_of tree) ≡ Some i → set_value_at tree i (remove_entry (is_part part) (listed_at tree i)) ≡ unlisted tree d part
taken_there tree d i part p =
    ap (λ es. set_value_at tree i (remove_entry (is_part part) es)) (listed_found tree d i (placed d tree i p))
    ∙ set_value_first tree d i (remove_entry (is_part part) (entries_in tree d)) (placed d tree i p)

-- a directory that isn't there has no entries, and none can be taken out
pub none_there : (tree : Tree) (d : List (List ℕ)) → lookup (is_at d) tree ≡ None → entries_in tree d ≡ []
none_there tree d e = ap or_empty e

none_set : (tree : Tree) (d : List (List ℕ)) (w : Listed) → lookup (is_at d) tree ≡ None → set_value (is_at d) tree w ≡ tree
none_set [] d w e = refl
none_set (first ∷ rest) d w e =
    elim (cases_Bool (is_at d first.0)) [
      | inl here ↦ absurd (let some : Some first.1 ≡ None = sym (ap (λ b. cond b (Some first.1) (lookup (is_at d) rest)) here) ∙ e in cc)
      | inr on ↦ ap (λ b. cond b ((first.0, w) ∷ rest) (first ∷ set_value (is_at d) rest w)) on
          ∙ ap (λ (es : Tree). first ∷ es) (none_set rest d w (sym (ap (λ b. cond b (Some first.1) (lookup (is_at d) rest)) on) ∙ e))
    ]

-- what a look-up found tells whether it found something
pub absent : (o : Option Listed) → false ≡ is_some o → o ≡ None
absent None e = refl
absent (Some w) e = absurd (true≢false (sym e))

pub none_taken_there : (tree : Tree) (d : List (List ℕ)) (part : List ℕ) → lookup (is_at d) tree ≡ None → tree ≡ unlisted tree d part
none_taken_there tree d part e = sym (none_set tree d (remove_entry (is_part part) (entries_in tree d)) e)

-- an entry taken out of a list
less_is : (part : List ℕ) (es : Listed) → less (is_listed part) es ≡ remove_entry (is_part part) es
less_is part [] = refl
less_is part (e ∷ es) = ap (λ rest. cond (is_part part e.0) es (e ∷ rest)) (less_is part es)

pub taken_out : (part : List ℕ) (es : Listed) (i : ℕ) (d : List ℕ × Entry) → position (is_listed part) es ≡ Some i → remove es i ≡ remove_entry (is_part part) es
taken_out part es i d p = less_here (is_listed part) es i d p ∙ less_is part es

pub none_out : (part : List ℕ) (es : Listed) → position (is_listed part) es ≡ None → es ≡ remove_entry (is_part part) es
none_out part es p = sym (not_less (is_listed part) es (none_found (is_listed part) es p)) ∙ less_is part es

-- what stays where a step fails
pub on_err : {A E P : Type 0} (r : Result A E) → P → OnErr r P
on_err (Ok value) p = tt
on_err (Err end) p = p
