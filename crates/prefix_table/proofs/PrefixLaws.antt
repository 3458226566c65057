-- The longest prefix is found, and each prefix is kept once.
use Rattle.std.proofs.Common.{fold, ◌≡◌, ◌↔◌, inl, inr, ℕ, zero, suc, ◌<◌, nat_lt, Bool, true, false, ◌||◌, cond, List, [], ◌∷◌, ◌++◌, length, map, Option, Some, None, refl, sym, ap, subst, ◌∙◌, arith, slice_set, get_or, option_map, IsTrue}
use Rattle.std.specs.List.{AllByRecursion, find, list_any, position}
use Rattle.std.proofs.lemmas.List.Quantifiers.{position-Some}
use Rattle.std.proofs.lemmas.Bool.{ltb-true, ltb-false, true≢false}
use Rattle.sprite_paths.specs.Path.{is_prefix}
use Rattle.sprite_paths.proofs.PathLaws.{parts_decide, prefix_decides}
use Rattle.sprite_ids.specs.Lists.{EachOnce}
use Rattle.sprite_ids.proofs.OnceLaws.{or_false}
use Rattle.prefix_table.specs.declared.prefixes.Domain.{Domain}
use Rattle.prefix_table.specs.Prefixes.{is_of, knows, longer, better, longest, learned, same_prefix, IsAmong, Matches, MatchesUpTo}
use Rattle.prefix_table.specs.Laws.{IsLongest, server_at}

-- ---- the longest prefix

-- what was found so far is at least as good as the domain
abbrev pub Covers : List (List ℕ) → Option Domain → Domain → Type 0
Covers path None domain = Matches path domain → ⊥
Covers path (Some best) domain = MatchesUpTo (length best.prefix) path domain

-- what was found so far is one of these, and matches
abbrev pub IsFound : List (List ℕ) → List Domain → Option Domain → Type 0
IsFound path all None = Unit {0}
IsFound path all (Some best) = IsAmong best all × Matches path best

not_matching : (path : List (List ℕ)) (x : Domain) → is_prefix x.prefix path ≡ false → Matches path x → ⊥
not_matching path x e m = true≢false (sym ((prefix_decides x.prefix path).1 m) ∙ e)

longer_covers_by : (path : List (List ℕ)) (best x : Domain) (b : Bool) → nat_lt (length best.prefix) (length x.prefix) ≡ b → Covers path (cond b (Some x) (Some best)) x
longer_covers_by path best x true e = λ m. omega arith
longer_covers_by path best x false e = λ m. omega (arith, ltb-false (length best.prefix) (length x.prefix) e)

longer_covers : (path : List (List ℕ)) (best : Option Domain) (x : Domain) → Covers path (longer best x) x
longer_covers path None x = λ m. omega arith
longer_covers path (Some best) x = longer_covers_by path best x (nat_lt (length best.prefix) (length x.prefix)) refl

-- the better of two covers the domain
step_covers_by : (path : List (List ℕ)) (best : Option Domain) (x : Domain) (b : Bool) → is_prefix x.prefix path ≡ b → Covers path (cond b (longer best x) best) x
step_covers_by path best x true e = longer_covers path best x
step_covers_by path None x false e = not_matching path x e
step_covers_by path (Some best) x false e = λ m. absurd (not_matching path x e m)

step_covers : (path : List (List ℕ)) (best : Option Domain) (x : Domain) → Covers path (better path best x) x
step_covers path best x = step_covers_by path best x (is_prefix x.prefix path) refl

longer_keeps_by : (path : List (List ℕ)) (best x y : Domain) (b : Bool) → nat_lt (length best.prefix) (length x.prefix) ≡ b → Covers path (Some best) y → Covers path (cond b (Some x) (Some best)) y
longer_keeps_by path best x y true e h = λ m. omega (arith, ltb-true (length best.prefix) (length x.prefix) e, h m)
longer_keeps_by path best x y false e h = h

longer_keeps : (path : List (List ℕ)) (best : Option Domain) (x y : Domain) → Covers path best y → Covers path (longer best x) y
longer_keeps path None x y h = λ m. absurd (h m)
longer_keeps path (Some best) x y h = longer_keeps_by path best x y (nat_lt (length best.prefix) (length x.prefix)) refl h

-- and what was covered before
step_keeps : (path : List (List ℕ)) (best : Option Domain) (x y : Domain) → Covers path best y → Covers path (better path best x) y
step_keeps path best x y h =
    elim (is_prefix x.prefix path) as (λ b. Covers path (cond b (longer best x) best) y) [ true ↦ longer_keeps path best x y h | false ↦ h ]

fold_keeps : (path : List (List ℕ)) (best : Option Domain) (xs : List Domain) (y : Domain) → Covers path best y → Covers path (fold (better path) best xs) y
fold_keeps path best [] y h = h
fold_keeps path best (x ∷ xs) y h = fold_keeps path (better path best x) xs y (step_keeps path best x y h)

fold_covers : (path : List (List ℕ)) (best : Option Domain) (xs : List Domain) → AllByRecursion (Covers path (fold (better path) best xs)) xs
fold_covers path best [] = tt
fold_covers path best (x ∷ xs) =
    (fold_keeps path (better path best x) xs x (step_covers path best x), fold_covers path (better path best x) xs)

longer_found : (path : List (List ℕ)) (all : List Domain) (best : Option Domain) (x : Domain) → IsAmong x all → Matches path x → IsFound path all best → IsFound path all (longer best x)
longer_found path all None x a m h = (a, m)
longer_found path all (Some best) x a m h =
    elim (nat_lt (length best.prefix) (length x.prefix)) as (λ b. IsFound path all (cond b (Some x) (Some best))) [ true ↦ (a, m) | false ↦ h ]

step_found_by : (path : List (List ℕ)) (all : List Domain) (best : Option Domain) (x : Domain) (b : Bool) → is_prefix x.prefix path ≡ b → IsAmong x all → IsFound path all best → IsFound path all (cond b (longer best x) best)
step_found_by path all best x true e a h = longer_found path all best x a ((prefix_decides x.prefix path).0 e) h
step_found_by path all best x false e a h = h

fold_found : (path : List (List ℕ)) (all : List Domain) (best : Option Domain) (xs : List Domain) → ((y : Domain) → IsAmong y xs → IsAmong y all) → IsFound path all best → IsFound path all (fold (better path) best xs)
fold_found path all best [] within h = h
fold_found path all best (x ∷ xs) within h =
    fold_found path all (better path best x) xs (λ y a. within y (inr a)) (step_found_by path all best x (is_prefix x.prefix path) refl (within x (inl refl)) h)

-- what is found is known and matches
pub longest_found : (xs : List Domain) (path : List (List ℕ)) (d : Domain) → longest xs path ≡ Some d → IsAmong d xs × Matches path d
longest_found xs path d e = subst (IsFound path xs) e (fold_found path xs None xs (λ y a. a) tt)

-- and no matching one is longer
pub longest_covers : (xs : List Domain) (path : List (List ℕ)) (d : Domain) → longest xs path ≡ Some d → AllByRecursion (MatchesUpTo (length d.prefix) path) xs
longest_covers xs path d e = subst (λ best. AllByRecursion (Covers path best) xs) e (fold_covers path None xs)

pub longest_is : (xs : List Domain) (path : List (List ℕ)) (d : Domain) → longest xs path ≡ Some d → IsLongest xs path d
longest_is xs path d e =
    let found = longest_found xs path d e in
    record { known = found.0; matching = found.1; others = longest_covers xs path d e }

none_by : (path : List (List ℕ)) (x : Domain) (b : Bool) → is_prefix x.prefix path ≡ b → (Matches path x → ⊥) → b ≡ false
none_by path x true e h = absurd (h ((prefix_decides x.prefix path).0 e))
none_by path x false e h = refl

none_found_of : (xs : List Domain) (path : List (List ℕ)) → AllByRecursion (λ domain. Matches path domain → ⊥) xs → longest xs path ≡ None
none_found_of [] path h = refl
none_found_of (x ∷ xs) path h =
    let none = none_by path x (is_prefix x.prefix path) refl h.0 in
    ap (λ b. fold (better path) (cond b (Some x) None) xs) none ∙ none_found_of xs path h.1

-- nothing is found exactly where none matches
pub none_matching : (xs : List Domain) (path : List (List ℕ)) → (longest xs path ≡ None) ↔ AllByRecursion (λ domain. Matches path domain → ⊥) xs
none_matching xs path = (
  λ e. subst (λ best. AllByRecursion (Covers path best) xs) e (fold_covers path None xs),
  λ h. none_found_of xs path h,
)

-- ---- each prefix once

-- the test of a prefix tells whether it is that one
pub is_of_same : (prefix : List (List ℕ)) (x : Domain) → (is_of prefix x ≡ true → x.prefix ≡ prefix) × (x.prefix ≡ prefix → is_of prefix x ≡ true)
is_of_same prefix x = parts_decide x.prefix prefix

tested_by : (prefix : List (List ℕ)) (x : Domain) (b c : Bool) → is_of prefix x ≡ c → (IsTrue b ↔ (x.prefix ≡ prefix)) → b ≡ c
tested_by prefix x true true e h = refl
tested_by prefix x true false e h = sym ((is_of_same prefix x).1 (h.0 refl)) ∙ e
tested_by prefix x false true e h = h.1 ((is_of_same prefix x).0 e)
tested_by prefix x false false e h = refl

-- a test that tells equal prefixes is that test
pub tested : (prefix : List (List ℕ)) (x : Domain) (b : Bool) → (IsTrue b ↔ (x.prefix ≡ prefix)) → b ≡ is_of prefix x
tested prefix x b h = tested_by prefix x b (is_of prefix x) refl h

other_by : (prefix : List (List ℕ)) (x : Domain) (b : Bool) → is_of prefix x ≡ b → (x.prefix ≡ prefix → ⊥) → b ≡ false
other_by prefix x true e h = absurd (h ((is_of_same prefix x).0 e))
other_by prefix x false e h = refl

other : (prefix : List (List ℕ)) (x : Domain) → (x.prefix ≡ prefix → ⊥) → is_of prefix x ≡ false
other prefix x h = other_by prefix x (is_of prefix x) refl h

differ : (prefix : List (List ℕ)) (x : Domain) → is_of prefix x ≡ false → x.prefix ≡ prefix → ⊥
differ prefix x e is = true≢false (sym ((is_of_same prefix x).1 is) ∙ e)

learned_any : (key prefix : List (List ℕ)) (server : ℕ) (xs : List Domain) → (prefix ≡ key → ⊥) → list_any (is_of key) xs ≡ false → list_any (is_of key) (learned xs prefix server) ≡ false
learned_any key prefix server [] k h = ap (λ b. b || false) (other key (record { prefix = prefix; server = server }) k)
learned_any key prefix server (x ∷ xs) k h =
    let parts = or_false (is_of key x) (list_any (is_of key) xs) h in
    elim (is_of prefix x) as (λ b. list_any (is_of key) (cond b (record x { server = server } ∷ xs) (x ∷ learned xs prefix server)) ≡ false) [ true ↦ h | false ↦ ap (λ b. b || list_any (is_of key) (learned xs prefix server)) parts.0 ∙ learned_any key prefix server xs k parts.1 ]

learned_once_by : (prefix : List (List ℕ)) (server : ℕ) (x : Domain) (xs : List Domain) (b : Bool) → is_of prefix x ≡ b → EachOnce same_prefix (x ∷ xs) → EachOnce same_prefix (learned xs prefix server) → EachOnce same_prefix (cond b (record x { server = server } ∷ xs) (x ∷ learned xs prefix server))
learned_once_by prefix server x xs true e h more = h
learned_once_by prefix server x xs false e h more =
    (learned_any x.prefix prefix server xs (λ is. differ prefix x e (sym is)) h.0, more)

-- the domains after one was learned are each there once
pub learned_once : (prefix : List (List ℕ)) (server : ℕ) (xs : List Domain) → EachOnce same_prefix xs → EachOnce same_prefix (learned xs prefix server)
learned_once prefix server [] h = (refl, tt)
learned_once prefix server (x ∷ xs) h =
    learned_once_by prefix server x xs (is_of prefix x) refl h (learned_once prefix server xs h.1)

-- a prefix that isn't known comes last
pub learned_last : (prefix : List (List ℕ)) (server : ℕ) (xs : List Domain) → list_any (is_of prefix) xs ≡ false → learned xs prefix server ≡ xs ++ record { prefix = prefix; server = server } ∷ []
learned_last prefix server [] h = refl
learned_last prefix server (x ∷ xs) h =
    let parts = or_false (is_of prefix x) (list_any (is_of prefix) xs) h in
    ap (λ b. cond b (record x { server = server } ∷ xs) (x ∷ learned xs prefix server)) parts.0 ∙ ap (λ ys. x ∷ ys) (learned_last prefix server xs parts.1)

learned_there : (prefix : List (List ℕ)) (server : ℕ) (xs : List Domain) (i : ℕ) (d : Domain) → i < length xs → is_of prefix (get_or xs i d) ≡ true → ((k : ℕ) → k < i → is_of prefix (get_or xs k d) ≡ false) → learned xs prefix server ≡ slice_set xs i (record (get_or xs i d) { server = server })
learned_there prefix server [] i d h t k = absurd (omega arith)
learned_there prefix server (x ∷ xs) zero d h t k = ap (λ b. cond b (record x { server = server } ∷ xs) (x ∷ learned xs prefix server)) t
learned_there prefix server (x ∷ xs) (suc i) d h t k =
    ap (λ b. cond b (record x { server = server } ∷ xs) (x ∷ learned xs prefix server)) (k 0 (omega arith)) ∙ ap (λ ys. x ∷ ys) (learned_there prefix server xs i d (omega arith) t (λ j less. k (suc j) (omega arith)))

-- a known prefix gets its server at its place
pub learned_here : (prefix : List (List ℕ)) (server : ℕ) (xs : List Domain) (i : ℕ) (d : Domain) → position (is_of prefix) xs ≡ Some i → d ≡ get_or xs i d → slice_set xs i (record d { server = server }) ≡ learned xs prefix server
learned_here prefix server xs i d e is =
    let found = position-Some (is_of prefix) xs i d e in
    ap (λ (s : Domain). slice_set xs i (record s { server = server })) is ∙ sym (learned_there prefix server xs i d found.0 found.1 found.2)

-- ---- what learning leaves

keep_by : (prefix : List (List ℕ)) (server : ℕ) (x : Domain) (xs : List Domain) (b : Bool) → is_of prefix x ≡ b → (b || list_any (is_of prefix) xs) ≡ true → (list_any (is_of prefix) xs ≡ true → map (λ (domain : Domain). domain.prefix) (learned xs prefix server) ≡ map (λ (domain : Domain). domain.prefix) xs) → map (λ (domain : Domain). domain.prefix) (cond b (record x { server = server } ∷ xs) (x ∷ learned xs prefix server)) ≡ map (λ (domain : Domain). domain.prefix) (x ∷ xs)
keep_by prefix server x xs true e h more = refl
keep_by prefix server x xs false e h more = ap (λ ys. x.prefix ∷ ys) (more h)

pub keep_places : (xs : List Domain) (prefix : List (List ℕ)) (server : ℕ) → knows xs prefix ≡ true → map (λ (domain : Domain). domain.prefix) (learned xs prefix server) ≡ map (λ (domain : Domain). domain.prefix) xs
keep_places [] prefix server h = absurd (cc)
keep_places (x ∷ xs) prefix server h =
    keep_by prefix server x xs (is_of prefix x) refl h (λ known. keep_places xs prefix server known)

new_first : (prefix : List (List ℕ)) (server : ℕ) (x : Domain) (xs : List Domain) (b : Bool) → is_of prefix x ≡ b → server_at (learned xs prefix server) prefix ≡ Some server → server_at (cond b (record x { server = server } ∷ xs) (x ∷ learned xs prefix server)) prefix ≡ Some server
new_first prefix server x xs true e h = ap (λ b. option_map (λ (domain : Domain). domain.server) (cond b (Some (record x { server = server })) (find (is_of prefix) xs))) e
new_first prefix server x xs false e h = ap (λ b. option_map (λ (domain : Domain). domain.server) (cond b (Some x) (find (is_of prefix) (learned xs prefix server)))) e ∙ h

-- a learned prefix has its server
pub new_server : (xs : List Domain) (prefix : List (List ℕ)) (server : ℕ) → server_at (learned xs prefix server) prefix ≡ Some server
new_server [] prefix server =
    let same = (is_of_same prefix (record { prefix = prefix; server = server })).1 refl in
    ap (λ b. option_map (λ (domain : Domain). domain.server) (cond b (Some (record { prefix = prefix; server = server })) None)) same
new_server (x ∷ xs) prefix server = new_first prefix server x xs (is_of prefix x) refl (new_server xs prefix server)

old_first : (prefix key : List (List ℕ)) (server : ℕ) (x : Domain) (xs : List Domain) (b : Bool) → is_of prefix x ≡ b → (key ≡ prefix → ⊥) → server_at (learned xs prefix server) key ≡ server_at xs key → server_at (cond b (record x { server = server } ∷ xs) (x ∷ learned xs prefix server)) key ≡ server_at (x ∷ xs) key
old_first prefix key server x xs true e k h =
    let apart = other key x (λ is. k (sym is ∙ (is_of_same prefix x).0 e)) in
    ap (λ b. option_map (λ (domain : Domain). domain.server) (cond b (Some (record x { server = server })) (find (is_of key) xs))) apart ∙ sym (ap (λ b. option_map (λ (domain : Domain). domain.server) (cond b (Some x) (find (is_of key) xs))) apart)
old_first prefix key server x xs false e k h =
    elim (is_of key x) as (λ b. option_map (λ (domain : Domain). domain.server) (cond b (Some x) (find (is_of key) (learned xs prefix server))) ≡ option_map (λ (domain : Domain). domain.server) (cond b (Some x) (find (is_of key) xs))) [ true ↦ refl | false ↦ h ]

-- and the others keep theirs
pub old_server : (xs : List Domain) (prefix key : List (List ℕ)) (server : ℕ) → (key ≡ prefix → ⊥) → server_at (learned xs prefix server) key ≡ server_at xs key
old_server [] prefix key server k =
    let apart = other key (record { prefix = prefix; server = server }) (λ is. k (sym is)) in
    ap (λ b. option_map (λ (domain : Domain). domain.server) (cond b (Some (record { prefix = prefix; server = server })) None)) apart
old_server (x ∷ xs) prefix key server k =
    old_first prefix key server x xs (is_of prefix x) refl k (old_server xs prefix key server k)

-- something is not nothing
pub some_not_none : (d : Domain) → Some d ≡ None → ⊥
some_not_none d e = absurd (cc)
