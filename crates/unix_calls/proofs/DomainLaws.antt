-- How the best domain is found.
use Rattle.std.proofs.Common.{◌≡◌, ℕ, suc, ◌+◌, ◌-◌, ◌<◌, ◌≤◌, ◌^◌, List, [], ◌∷◌, ◌++◌, length, drop, get_or, refl, sym, ap, subst, ◌∙◌, arith, add-one, drop-cons, length-append}
use Rattle.std.specs.Prelude.{Option, Some, None, Bool, true, false, ◌||◌, nat_lt, slice_get}
use Rattle.std.proofs.Common.{cond}
use Rattle.std.specs.List.{AllByRecursion}
use Rattle.std.specs.Option.{option_map, unwrap_or}
use Rattle.std.proofs.lemmas.Bool.{ltb-true, ltb-false, true≢false}
use Rattle.sprite_paths.specs.Path.{is_prefix, IsPrefix}
use Rattle.sprite_paths.proofs.PathLaws.{parts_decide, prefix_decides}
use Rattle.unix_calls.specs.Tree.{same_path}
use Rattle.unix_calls.specs.declared.domains.Found.{Found}
use Rattle.unix_calls.specs.declared.description.KernelLine.{KernelLine}
use Rattle.unix_calls.specs.Domains.{roots_of, begins_domain, longer, better, best_from, domain_of, server_from, server_of, HasUpTo, IsLongest, IsServer}

-- some more domains and then others
pub best_from-append : (path : List (List ℕ)) (roots others : List (List (List ℕ))) (best : Option Found) (place : ℕ) → best_from path best place (roots ++ others) ≡ best_from path (best_from path best place roots) (place + length roots) others
best_from-append path [] others best place = grind arith
best_from-append path (root ∷ roots) others best place = grind (arith, best_from-append path roots others (better path best place root) (place + 1))

-- what the loop over the kernels keeps: the domains that are left stand from the place on, and the best of them is the
-- best of all
abbrev pub Reached : List (List ℕ) → List (List (List ℕ)) → List (List (List ℕ)) → Option Found → ℕ → Type 0
Reached path all rest best place =
    length all < 2 ^ 64 → (place + length rest ≡ length all) × (best_from path best place rest ≡ best_from path None 0 all)

-- it keeps that past some domains more
pub reached_further : (path : List (List ℕ)) (all roots rest : List (List (List ℕ))) (best found : Option Found) (place after : ℕ) → Reached path all (roots ++ rest) best place → (place + length roots < 2 ^ 64 → found ≡ best_from path best place roots) → (place + length roots < 2 ^ 64 → after ≡ place + length roots) → Reached path all rest found after
reached_further path all roots rest best found place after reached is_found is_after small =
    let now = reached small in
    let sizes : place + (length roots + length rest) ≡ length all = rw (← length-append roots rest) now.0 in
    let fits : place + length roots < 2 ^ 64 = omega arith in
    let at : after ≡ place + length roots = is_after fits in
    let same : best_from path found after rest ≡ best_from path (best_from path best place roots) (place + length roots) rest = rw (is_found fits, at) refl in
    (omega arith, same ∙ (sym (best_from-append path roots rest best place) ∙ now.1))

-- and so past one kernel's line more
pub line_reached : (path : List (List ℕ)) (lines : List KernelLine) (index : ℕ) (line : KernelLine) (best found : Option Found) (place after : ℕ) → index < length lines → line ≡ get_or lines index line → Reached path (roots_of lines) (roots_of (drop index lines)) best place → (place + length line.serves < 2 ^ 64 → found ≡ best_from path best place line.serves) → (place + length line.serves < 2 ^ 64 → after ≡ place + length line.serves) → Reached path (roots_of lines) (roots_of (drop (index + 1) lines)) found after
line_reached path lines index line best found place after inside is reached is_found is_after =
    let cut : drop index lines ≡ line ∷ drop (index + 1) lines = rw add-one (drop-cons lines index line inside ∙ ap (λ (l : KernelLine). l ∷ drop (suc index) lines) (sym is)) in
    reached_further path (roots_of lines) line.serves (roots_of (drop (index + 1) lines)) best found place after (subst (λ (rest : List KernelLine). Reached path (roots_of lines) (roots_of rest) best place) cut reached) is_found is_after

-- ---- the longest domain

-- what was found so far is at least as good as that domain
abbrev pub Covers : List (List ℕ) → Option Found → List (List ℕ) → Type 0
Covers path None root = IsPrefix root path → ⊥
Covers path (Some best) root = HasUpTo best.parts path root

-- what was found is one of these, and has the path
pub record IsAt (all : List (List (List ℕ))) (path : List (List ℕ)) (best : Found) : Type 0 where
  pub root : List (List ℕ)
  pub there : slice_get all best.place ≡ Some root
  pub size : best.parts ≡ length root
  pub prefix : IsPrefix root path

abbrev pub IsFound : List (List (List ℕ)) → List (List ℕ) → Option Found → Type 0
IsFound all path None = Unit {0}
IsFound all path (Some best) = IsAt all path best

not_prefix : (path root : List (List ℕ)) → is_prefix root path ≡ false → IsPrefix root path → ⊥
not_prefix path root e m = true≢false (sym ((prefix_decides root path).1 m) ∙ e)

longer_covers_by : (path : List (List ℕ)) (best : Found) (place : ℕ) (root : List (List ℕ)) (b : Bool) → nat_lt best.parts (length root) ≡ b → Covers path (cond b (Some (record { place = place; parts = length root })) (Some best)) root
longer_covers_by path best place root true e = λ m. omega arith
longer_covers_by path best place root false e = λ m. omega (arith, ltb-false best.parts (length root) e)

longer_covers : (path : List (List ℕ)) (best : Option Found) (place : ℕ) (root : List (List ℕ)) → Covers path (longer best place root) root
longer_covers path None place root = λ m. omega arith
longer_covers path (Some best) place root = longer_covers_by path best place root (nat_lt best.parts (length root)) refl

better_covers_by : (path : List (List ℕ)) (best : Option Found) (place : ℕ) (root : List (List ℕ)) (b : Bool) → is_prefix root path ≡ b → Covers path (cond b (longer best place root) best) root
better_covers_by path best place root true e = longer_covers path best place root
better_covers_by path None place root false e = not_prefix path root e
better_covers_by path (Some best) place root false e = λ m. absurd (not_prefix path root e m)

longer_keeps_by : (path : List (List ℕ)) (best : Found) (place : ℕ) (root other : List (List ℕ)) (b : Bool) → nat_lt best.parts (length root) ≡ b → Covers path (Some best) other → Covers path (cond b (Some (record { place = place; parts = length root })) (Some best)) other
longer_keeps_by path best place root other true e h = λ m. omega (arith, ltb-true best.parts (length root) e, h m)
longer_keeps_by path best place root other false e h = h

longer_keeps : (path : List (List ℕ)) (best : Option Found) (place : ℕ) (root other : List (List ℕ)) → Covers path best other → Covers path (longer best place root) other
longer_keeps path None place root other h = λ m. absurd (h m)
longer_keeps path (Some best) place root other h = longer_keeps_by path best place root other (nat_lt best.parts (length root)) refl h

better_keeps : (path : List (List ℕ)) (best : Option Found) (place : ℕ) (root other : List (List ℕ)) → Covers path best other → Covers path (better path best place root) other
better_keeps path best place root other h =
    elim (is_prefix root path) as (λ b. Covers path (cond b (longer best place root) best) other) [ true ↦ longer_keeps path best place root other h | false ↦ h ]

best_keeps : (path : List (List ℕ)) (roots : List (List (List ℕ))) (best : Option Found) (place : ℕ) (other : List (List ℕ)) → Covers path best other → Covers path (best_from path best place roots) other
best_keeps path [] best place other h = h
best_keeps path (root ∷ roots) best place other h =
    best_keeps path roots (better path best place root) (place + 1) other (better_keeps path best place root other h)

best_covers : (path : List (List ℕ)) (roots : List (List (List ℕ))) (best : Option Found) (place : ℕ) → AllByRecursion (Covers path (best_from path best place roots)) roots
best_covers path [] best place = tt
best_covers path (root ∷ roots) best place = (
  best_keeps path roots (better path best place root) (place + 1) root (better_covers_by path best place root (is_prefix root path) refl),
  best_covers path roots (better path best place root) (place + 1),
)

longer_found : (all : List (List (List ℕ))) (path : List (List ℕ)) (best : Option Found) (place : ℕ) (root : List (List ℕ)) → slice_get all place ≡ Some root → IsPrefix root path → IsFound all path best → IsFound all path (longer best place root)
longer_found all path None place root at m h = record { root = root; there = at; size = refl; prefix = m }
longer_found all path (Some best) place root at m h =
    elim (nat_lt best.parts (length root)) as (λ b. IsFound all path (cond b (Some (record { place = place; parts = length root })) (Some best))) [ true ↦ record { root = root; there = at; size = refl; prefix = m } | false ↦ h ]

better_found_by : (all : List (List (List ℕ))) (path : List (List ℕ)) (best : Option Found) (place : ℕ) (root : List (List ℕ)) (b : Bool) → is_prefix root path ≡ b → slice_get all place ≡ Some root → IsFound all path best → IsFound all path (cond b (longer best place root) best)
better_found_by all path best place root true e at h = longer_found all path best place root at ((prefix_decides root path).0 e) h
better_found_by all path best place root false e at h = h

-- the domains stand among all from that place on
abbrev pub StandFrom : List (List (List ℕ)) → ℕ → List (List (List ℕ)) → Type 0
StandFrom all place roots = (i : ℕ) (root : List (List ℕ)) → slice_get roots i ≡ Some root → slice_get all (place + i) ≡ Some root

best_found : (all : List (List (List ℕ))) (path : List (List ℕ)) (roots : List (List (List ℕ))) (best : Option Found) (place : ℕ) → StandFrom all place roots → IsFound all path best → IsFound all path (best_from path best place roots)
best_found all path [] best place stand h = h
best_found all path (root ∷ roots) best place stand h =
    let at : slice_get all place ≡ Some root = subst (λ (n : ℕ). slice_get all n ≡ Some root) (omega arith) (stand 0 root refl) in
    let later : StandFrom all (place + 1) roots = λ (i : ℕ) (r : List (List ℕ)) (e : slice_get roots i ≡ Some r). subst (λ (n : ℕ). slice_get all n ≡ Some r) (omega arith) (stand (suc i) r e) in
    best_found all path roots (better path best place root) (place + 1) later (better_found_by all path best place root (is_prefix root path) refl at h)

root_is_prefix : (path root : List (List ℕ)) → same_path [] root ≡ true → IsPrefix root path
root_is_prefix path root e =
    subst (λ (r : List (List ℕ)). IsPrefix r path) ((parts_decide [] root).0 e) (record { rest = path; whole = refl })

-- where `/` is a domain, one has the path
some_covers_by : (path root : List (List ℕ)) (rest b : Bool) → same_path [] root ≡ b → (b || rest) ≡ true → (IsPrefix root path → ⊥) → rest ≡ true
some_covers_by path root rest true e any none = absurd (none (root_is_prefix path root e))
some_covers_by path root rest false e any none = any

some_has : (path : List (List ℕ)) (roots : List (List (List ℕ))) → begins_domain roots [] ≡ true → AllByRecursion (Covers path None) roots → ⊥
some_has path [] any none = true≢false (sym any)
some_has path (root ∷ roots) any none =
    some_has path roots (some_covers_by path root (begins_domain roots []) (same_path [] root) refl any none.0) none.1

longest_by : (roots : List (List (List ℕ))) (path : List (List ℕ)) (best : Option Found) → begins_domain roots [] ≡ true → AllByRecursion (Covers path best) roots → IsFound roots path best → IsLongest roots path (unwrap_or (option_map (λ (f : Found). f.place) best) 0)
longest_by roots path None any covers found = absurd (some_has path roots any covers)
longest_by roots path (Some best) any covers found =
    record {
      root = found.root;
      there = found.there;
      prefix = found.prefix;
      others = subst (λ (n : ℕ). AllByRecursion (HasUpTo n path) roots) found.size covers;
    }

pub domain_is_longest : (roots : List (List (List ℕ))) (path : List (List ℕ)) → begins_domain roots [] ≡ true → IsLongest roots path (domain_of roots path)
domain_is_longest roots path any =
    longest_by roots path (best_from path None 0 roots) any (best_covers path roots None 0)
    (best_found roots path roots None 0 (λ (i : ℕ) (root : List (List ℕ)) (e : slice_get roots i ≡ Some root). subst (λ (n : ℕ). slice_get roots n ≡ Some root) (omega arith) e) tt)

-- ---- the server of a domain

-- the kernel of that number serves the domain, of kernels whose numbers begin with the first
record ServesFrom (first : ℕ) (lines : List KernelLine) (domain number : ℕ) : Type 0 where
  before : List KernelLine
  line : KernelLine
  after : List KernelLine
  all : lines ≡ before ++ line ∷ after
  counted : number ≡ length before + first
  from : length (roots_of before) ≤ domain
  to : domain < length (roots_of before) + length line.serves

serves_later : (first : ℕ) (line : KernelLine) (lines : List KernelLine) (domain number : ℕ) → length line.serves ≤ domain → ServesFrom (first + 1) lines (domain - length line.serves) number → ServesFrom first (line ∷ lines) domain number
serves_later first line lines domain number past s =
    let sizes : length (roots_of (line ∷ s.before)) ≡ length line.serves + length (roots_of s.before) = length-append line.serves (roots_of s.before) in
    record {
      before = line ∷ s.before;
      line = s.line;
      after = s.after;
      all = ap (λ (ls : List KernelLine). line ∷ ls) s.all;
      counted = grind (arith, s.counted);
      from = omega (arith, s.from, s.to, sizes, past);
      to = omega (arith, s.from, s.to, sizes, past);
    }

serves_by : (first : ℕ) (line : KernelLine) (lines : List KernelLine) (domain : ℕ) (b : Bool) → nat_lt domain (length line.serves) ≡ b → (b ≡ false → ServesFrom (first + 1) lines (domain - length line.serves) (server_from (first + 1) lines (domain - length line.serves))) → ServesFrom first (line ∷ lines) domain (cond b first (server_from (first + 1) lines (domain - length line.serves)))
serves_by first line lines domain true e later =
    record {
      before = [];
      line = line;
      after = lines;
      all = refl;
      counted = omega arith;
      from = omega arith;
      to = omega (arith, ltb-true domain (length line.serves) e);
    }
serves_by first line lines domain false e later =
    serves_later first line lines domain (server_from (first + 1) lines (domain - length line.serves)) (ltb-false domain (length line.serves) e) (later refl)

serves_from : (first : ℕ) (lines : List KernelLine) (domain : ℕ) → domain < length (roots_of lines) → ServesFrom first lines domain (server_from first lines domain)
serves_from first [] domain small = absurd (omega (arith, small))
serves_from first (line ∷ lines) domain small =
    let sizes : length (roots_of (line ∷ lines)) ≡ length line.serves + length (roots_of lines) = length-append line.serves (roots_of lines) in
    serves_by first line lines domain (nat_lt domain (length line.serves)) refl
    (λ (e : nat_lt domain (length line.serves) ≡ false). serves_from (first + 1) lines (domain - length line.serves) (omega (arith, small, sizes, ltb-false domain (length line.serves) e)))

pub server_serves : (lines : List KernelLine) (domain : ℕ) → domain < length (roots_of lines) → IsServer lines domain (server_of lines domain)
server_serves lines domain small =
    let s = serves_from 1 lines domain small in
    record {
      before = s.before;
      line = s.line;
      after = s.after;
      all = s.all;
      counted = s.counted;
      from = s.from;
      to = s.to;
    }

-- the longest domain under another name
pub longest_of : (roots : List (List (List ℕ))) (path : List (List ℕ)) (place : ℕ) → begins_domain roots [] ≡ true → place ≡ domain_of roots path → IsLongest roots path place
longest_of roots path place any is = subst (λ (n : ℕ). IsLongest roots path n) (sym is) (domain_is_longest roots path any)

-- and the server
pub server_is : (lines : List KernelLine) (domain number : ℕ) → domain < length (roots_of lines) → number ≡ server_of lines domain → IsServer lines domain number
server_is lines domain number small is = subst (λ (n : ℕ). IsServer lines domain n) (sym is) (server_serves lines domain small)
