-- The places of moves, and the walk over a process's descriptors.
use Rattle.std.proofs.Common.{◌≡◌, ℕ, zero, suc, ◌+◌, ◌<◌, List, [], ◌∷◌, Option, Some, None, refl, sym, ap, ◌∙◌, arith, length, drop, get_or, slice_set}
use Rattle.std.specs.List.{position}
use Rattle.sprite_ids.proofs.OnceLaws.{changed_here}
use Rattle.stream_table.specs.declared.Carried.{Carried}
use Rattle.migrate_freeze.specs.declared.moves.MovedStream.{MovedStream}
use Rattle.migrate_freeze.specs.Moves.{better, is_free, next_from, noted}

get_twice : {X : Type 0} (xs : List X) (i : ℕ) (d : X) → get_or xs i (get_or xs i d) ≡ get_or xs i d
get_twice [] i d = refl
get_twice (x ∷ xs) zero d = refl
get_twice (x ∷ xs) (suc i) d = get_twice xs i d

-- a move goes to the first place that is free
pub put_first : (moved : MovedStream) (places : List (Option MovedStream)) (i : ℕ) → position is_free places ≡ Some i → slice_set places i (Some moved) ≡ noted moved places
put_first moved places i e = changed_here is_free (λ _. Some moved) places i (get_or places i None) e (sym (get_twice places i None))

plus_one : (i : ℕ) → i + 1 ≡ suc i
plus_one i = omega arith

at_next : (moved : List (Option MovedStream)) (least : Option Carried) (streams : List Carried) (i : ℕ) (item : Carried) → i < length streams → item ≡ get_or streams i item → next_from moved (better moved least item) (drop (suc i) streams) ≡ next_from moved least (drop i streams)
at_next moved least [] i item h e = absurd (omega arith)
at_next moved least (first ∷ rest) zero item h e = ap (λ (other : Carried). next_from moved (better moved least other) rest) e
at_next moved least (first ∷ rest) (suc i) item h e = at_next moved least rest i item (omega arith) e

-- a step of the walk
pub item_next : (moved : List (Option MovedStream)) (least : Option Carried) (streams : List Carried) (i : ℕ) (item : Carried) → i < length streams → item ≡ get_or streams i item → next_from moved (better moved least item) (drop (i + 1) streams) ≡ next_from moved least (drop i streams)
item_next moved least streams i item h e =
    ap (λ n. next_from moved (better moved least item) (drop n streams)) (plus_one i) ∙ at_next moved least streams i item h e
