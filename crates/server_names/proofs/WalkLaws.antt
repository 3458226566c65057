-- A walk goes on part by part, and ends at the first part that stops it.
use Rattle.std.proofs.Common.{◌≡◌, ℕ, suc, ◌+◌, ◌<◌, List, [], ◌∷◌, ◌++◌, length, drop, get_or, Result, Ok, Err, sym, ap, ◌∙◌, drop-cons, add-one}
use Rattle.server_names.specs.declared.end.NameEnd.{NameEnd}
use Rattle.server_names.specs.declared.end.NameEnd.TheVariants.{Errno as Refused, Redirect, NoMemory}
use Rattle.server_names.specs.Names.{Tree, entry_in, goes_on, passed, walked, Answers}

walk_next : (tree : Tree) (here : List (List ℕ)) (parts : List (List ℕ)) (i : ℕ) (part : List ℕ) → i < length parts → part ≡ get_or parts i part → walked tree here (drop i parts) ≡ goes_on (passed (entry_in tree here part)) (walked tree (here ++ part ∷ []) (drop (suc i) parts))
walk_next tree here parts i part h is =
    ap (walked tree here) (drop-cons parts i part h) ∙ ap (λ (p : List ℕ). goes_on (passed (entry_in tree here p)) (walked tree (here ++ p ∷ []) (drop (suc i) parts))) (sym is)

-- a walk from a part on
pub walk_on : (tree : Tree) (here : List (List ℕ)) (parts : List (List ℕ)) (i : ℕ) (part : List ℕ) → i < length parts → part ≡ get_or parts i part → walked tree here (drop i parts) ≡ goes_on (passed (entry_in tree here part)) (walked tree (here ++ part ∷ []) (drop (i + 1) parts))
walk_on tree here parts i part h is = rw add-one (walk_next tree here parts i part h is)

-- an error of the first of two is one of both
pub stops : {A : Type 0} (r : Result (Unit {0}) NameEnd) (next : Result A NameEnd) (end : NameEnd) → Answers {A = Unit {0}} (Err end) r → Answers {A = A} (Err end) (goes_on r next)
stops r next (Refused errno) h = ap (λ r. goes_on r next) h
stops r next (Redirect path) h = ap (λ r. goes_on r next) h
stops r next NoMemory h = tt

pub moves_on : {A : Type 0} (r : Result (Unit {0}) NameEnd) (next : Result A NameEnd) (done : Unit {0}) → r ≡ Ok done → goes_on r next ≡ next
moves_on r next done h = ap (λ r. goes_on r next) h
