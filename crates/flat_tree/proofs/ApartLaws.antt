-- Whether two paths lie in two domains.
use Rattle.std.proofs.Common.{◌≡◌, ◌≤◌, ◌==◌, ℕ, Bool, true, false, ◌||◌, cond, not, List, [], ◌∷◌, ◌++◌, length, slice_get, Option, None, inl, inr, refl, sym, ap, ap₂, subst, ◌∙◌, arith, append_assoc, drop}
use Rattle.std.specs.Prelude.{◌+◌}
use Rattle.std.specs.List.{AllByRecursion}
use Rattle.std.proofs.lemmas.Bool.{cases_Bool, true≢false, eqb-true}
use Rattle.sprite_ids.proofs.ListLaws.{some_is}
use Rattle.sprite_paths.specs.Path.{IsPrefix, is_prefix}
use Rattle.sprite_paths.proofs.PathLaws.{prefix_decides}
use Rattle.server_names.proofs.FoundLaws.{path_is}
use Rattle.unix_calls.specs.Domains.{HasUpTo, begins_domain, best_from, better, domain_of, longer}
use Rattle.unix_calls.specs.Tree.{same_path}
use Rattle.unix_calls.proofs.DomainLaws.{domain_is_longest}
use Rattle.tree_laws.specs.Trees.{Parts}
use Rattle.flat_tree.specs.Requests.{are_apart, has_one}

-- ---- prefixes

pub prefix_tests : (prefix path : Parts) → IsPrefix prefix path → is_prefix prefix path ≡ true
prefix_tests prefix path h = (prefix_decides prefix path).1 h

pub prefix_is : (prefix path : Parts) → is_prefix prefix path ≡ true → IsPrefix prefix path
prefix_is prefix path h = (prefix_decides prefix path).0 h

pub prefix_through : (a b c : Parts) → IsPrefix a b → IsPrefix b c → IsPrefix a c
prefix_through a b c one two = record { rest = one.rest ++ two.rest; whole = two.whole ∙ ap (λ (l : Parts). l ++ two.rest) one.whole ∙ append_assoc a one.rest two.rest }

-- of two prefixes of one path the shorter is one of the other
pub shorter_by : (a b x y : Parts) → a ++ x ≡ b ++ y → length a ≤ length b → IsPrefix a b
shorter_by [] b x y e h = record { rest = b; whole = refl }
shorter_by (p ∷ a) [] x y e h = absurd (omega (arith, h))
shorter_by (p ∷ a) (q ∷ b) x y e h =
    let head : p ≡ q = some_is p q (ap (λ (l : Parts). slice_get l 0) e) in
    let rest = shorter_by a b x y (ap (λ (l : Parts). drop 1 l) e) (omega (arith, h)) in
    record { rest = rest.rest; whole = ap₂ (λ (z : List ℕ) (l : Parts). z ∷ l) (sym head) rest.whole }

pub shorter : (a b path : Parts) → IsPrefix a path → IsPrefix b path → length a ≤ length b → IsPrefix a b
shorter a b path one two h = shorter_by a b one.rest two.rest (sym one.whole ∙ two.whole) h

-- ---- domains

-- what holds of all roots holds of where a domain begins
pub of_root : (P : Parts → Type 0) (roots : List Parts) (path : Parts) → begins_domain roots path ≡ true → AllByRecursion P roots → P path
of_root P [] path begins all = absurd (true≢false (sym begins))
of_root P (root ∷ roots) path begins all = by (same_path path root) refl begins (λ later. of_root P roots path later all.1)
  where
    by : (b : Bool) → same_path path root ≡ b → (b || begins_domain roots path) ≡ true → (begins_domain roots path ≡ true → P path) → P path
    by true e begins rest = subst P (sym (path_is path root e)) all.0
    by false e begins rest = rest begins

-- the two paths have the same prefixes among these
abbrev pub Together : Parts → Parts → List Parts → Type 0
Together one two roots = AllByRecursion (λ (root : Parts). is_prefix root one ≡ is_prefix root two) roots

one_false : (a b : Bool) → cond a (not b) b ≡ false → a ≡ b
one_false true true h = refl
one_false true false h = absurd (true≢false h)
one_false false true h = absurd (true≢false h)
one_false false false h = refl

pub together : (one two : Parts) (roots : List Parts) → are_apart roots one two ≡ false → Together one two roots
together one two [] h = tt
together one two (root ∷ roots) h = by (has_one one two root) refl h (λ later. together one two roots later)
  where
    by : (b : Bool) → has_one one two root ≡ b → (b || are_apart roots one two) ≡ false → (are_apart roots one two ≡ false → Together one two roots) → Together one two (root ∷ roots)
    by true e h rest = absurd (true≢false h)
    by false e h rest = (one_false (is_prefix root one) (is_prefix root two) e, rest h)

-- a search among the roots that sees of a path only which of them are its prefixes
search_same : {X : Type 0} (from : Parts → Option X → ℕ → List Parts → Option X) (step : Parts → Option X → ℕ → Parts → Option X)
    → ((path : Parts) (best : Option X) (place : ℕ) → from path best place [] ≡ best)
    → ((path : Parts) (best : Option X) (place : ℕ) (root : Parts) (roots : List Parts) → from path best place (root ∷ roots) ≡ from path (step path best place root) (place + 1) roots)
    → ((one two : Parts) (best : Option X) (place : ℕ) (root : Parts) → is_prefix root one ≡ is_prefix root two → step one best place root ≡ step two best place root)
    → (one two : Parts) (roots : List Parts) (best : Option X) (place : ℕ) → Together one two roots → from one best place roots ≡ from two best place roots
search_same from step ends goes sees one two [] best place h = ends one best place ∙ sym (ends two best place)
search_same from step ends goes sees one two (root ∷ roots) best place h =
    goes one best place root roots
    ∙ ap (λ b. from one b (place + 1) roots) (sees one two best place root h.0)
    ∙ search_same from step ends goes sees one two roots (step two best place root) (place + 1) h.1
    ∙ sym (goes two best place root roots)

pub one_domain : (one two : Parts) (roots : List Parts) → Together one two roots → domain_of roots one ≡ domain_of roots two
one_domain one two roots h =
    rw (search_same best_from better (λ path best place. refl) (λ path best place root more. refl) (λ a b best place root same. ap (λ c. cond c (longer best place root) best) same) one two roots None 0 h) refl

-- where two paths have one longest domain, each domain has both or none
has_both : (one two root longest : Parts) → IsPrefix longest one → IsPrefix longest two → HasUpTo (length longest) one root → is_prefix root one ≡ true → is_prefix root two ≡ true
has_both one two root longest first second up h =
    prefix_tests root two (prefix_through root longest two (shorter root longest one (prefix_is root one h) first (up (prefix_is root one h))) second)

either_none : (a b : Bool) → (a ≡ true → b ≡ true) → (b ≡ true → a ≡ true) → cond a (not b) b ≡ false
either_none true true f g = refl
either_none true false f g = absurd (true≢false (sym (f refl)))
either_none false true f g = absurd (true≢false (sym (g refl)))
either_none false false f g = refl

not_apart : (one two longest : Parts) (roots : List Parts) → IsPrefix longest one → IsPrefix longest two → AllByRecursion (HasUpTo (length longest) one) roots → AllByRecursion (HasUpTo (length longest) two) roots → are_apart roots one two ≡ false
not_apart one two longest [] first second up down = refl
not_apart one two longest (root ∷ roots) first second up down =
    ap₂ (λ a b. a || b)
    (either_none (is_prefix root one) (is_prefix root two) (has_both one two root longest first second up.0) (has_both two one root longest second first down.0))
    (not_apart one two longest roots first second up.1 down.1)

pub apart_domains : (roots : List Parts) (one two : Parts) → begins_domain roots [] ≡ true → are_apart roots one two ≡ true → (domain_of roots one == domain_of roots two) ≡ false
apart_domains roots one two whole apart =
    elim (cases_Bool (domain_of roots one == domain_of roots two)) [
      | inl same ↦
          let place = eqb-true (domain_of roots one) (domain_of roots two) same in
          let a = domain_is_longest roots one whole in
          let b = domain_is_longest roots two whole in
          let root : b.root ≡ a.root = some_is b.root a.root (sym b.there ∙ ap (slice_get roots) (sym place) ∙ a.there) in
          let prefix : IsPrefix a.root two = subst (λ (k : Parts). IsPrefix k two) root b.prefix in
          let others : AllByRecursion (HasUpTo (length a.root) two) roots = subst (λ (k : Parts). AllByRecursion (HasUpTo (length k) two) roots) root b.others in
          absurd (true≢false (sym apart ∙ not_apart one two a.root roots a.prefix prefix a.others others))
      | inr other ↦ other
    ]
