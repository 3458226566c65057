-- A way is made directory by directory, and ends at the first that can't be made.
use Rattle.std.proofs.Common.{◌≡◌, ℕ, suc, ◌+◌, ◌<◌, List, [], ◌∷◌, ◌++◌, length, drop, get_or, Result, Ok, Err, sym, ap, ◌∙◌, drop-cons, add-one}
use Rattle.server_names.specs.declared.end.NameEnd.{NameEnd}
use Rattle.server_names.specs.declared.end.NameEnd.TheVariants.{Errno as Refused, Redirect, NoMemory}
use Rattle.server_names.specs.declared.name.Node.TheVariants.{Dir}
use Rattle.server_names.specs.declared.name.Entry.TheVariants.{Node as Named, Link}
use Rattle.server_names.specs.Names.{Tree, and_then, on_way, entry_made, with_way, booted, hung_all, done, Answers}

-- an error of the first of two is one of both
pub way_stops : (r : Result Tree NameEnd) (next : Tree → Result Tree NameEnd) (end : NameEnd) → Answers {A = Unit {0}} (Err end) (done r) → Answers {A = Unit {0}} (Err end) (done (and_then r next))
way_stops (Err known) next end h = h
way_stops (Ok tree) next (Refused errno) h = cc
way_stops (Ok tree) next (Redirect path) h = cc
way_stops (Ok tree) next NoMemory h = tt

way_next : (tree : Tree) (here parts : List (List ℕ)) (i : ℕ) (part : List ℕ) → i < length parts → part ≡ get_or parts i part → with_way tree here (drop i parts) ≡ and_then (on_way tree (entry_made tree (here ++ part ∷ []) (Named Dir))) (λ next. with_way next (here ++ part ∷ []) (drop (suc i) parts))
way_next tree here parts i part h is =
    ap (with_way tree here) (drop-cons parts i part h) ∙ ap (λ (p : List ℕ). and_then (on_way tree (entry_made tree (here ++ p ∷ []) (Named Dir))) (λ next. with_way next (here ++ p ∷ []) (drop (suc i) parts))) (sym is)

-- a way from a part on
pub way_on : (tree : Tree) (here parts : List (List ℕ)) (i : ℕ) (part : List ℕ) → i < length parts → part ≡ get_or parts i part → with_way tree here (drop i parts) ≡ and_then (on_way tree (entry_made tree (here ++ part ∷ []) (Named Dir))) (λ next. with_way next (here ++ part ∷ []) (drop (i + 1) parts))
way_on tree here parts i part h is = rw add-one (way_next tree here parts i part h is)

links_next : (tree : Tree) (links : List (List (List ℕ))) (i : ℕ) (link : List (List ℕ)) → i < length links → link ≡ get_or links i link → hung_all tree (drop i links) ≡ and_then (booted tree link (Link link)) (λ next. hung_all next (drop (suc i) links))
links_next tree links i link h is =
    ap (hung_all tree) (drop-cons links i link h) ∙ ap (λ (l : List (List ℕ)). and_then (booted tree l (Link l)) (λ next. hung_all next (drop (suc i) links))) (sym is)

-- the links from one on
pub links_on : (tree : Tree) (links : List (List (List ℕ))) (i : ℕ) (link : List (List ℕ)) → i < length links → link ≡ get_or links i link → hung_all tree (drop i links) ≡ and_then (booted tree link (Link link)) (λ next. hung_all next (drop (i + 1) links))
links_on tree links i link h is = rw add-one (links_next tree links i link h is)
