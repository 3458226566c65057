-- Each line's file is one of the kernel that serves its domain.
use Rattle.std.proofs.Common.{◌≡◌, ◌+◌, ◌-◌, ℕ, zero, suc, Bool, true, false, ◌||◌, not, cond, List, [], ◌∷◌, ◌++◌, slice_get, refl, sym, ap, subst, ◌∙◌, arith}
use Rattle.std.specs.List.{list_all, list_any}
use Rattle.std.proofs.lemmas.Bool.{true≢false, not-true, and_parts}
use Rattle.sprite_paths.specs.Path.{is_prefix}
use Rattle.unix_calls.specs.declared.KernelLine.{KernelLine}
use Rattle.unix_calls.specs.Domains.{begins_domain, roots_of}
use Rattle.unix_calls.specs.Lawful.{each_once, is_clean}
use Rattle.unix_calls.specs.Tree.{same_path}
use Rattle.server_names.proofs.FoundLaws.{path_is, path_itself}
use Rattle.server_kernel.specs.Boot.{is_longest, serves_in}
use Rattle.tree_laws.specs.Trees.{Parts}
use Rattle.flat_tree.specs.Opening.{lies_in}
use Rattle.flat_tree.proofs.ApartLaws.{prefix_is}
use Rattle.flat_tree.proofs.StartLaws.{one_of, some_of, begins_later}
use Rattle.name_laws.specs.Boots.{LineFilesTie, line_file, owner_from}
use Rattle.name_laws.proofs.BootLaws.{any_back, any_front, once_back, within_all}
use Rattle.name_laws.proofs.FillLaws.{either_right, file_of}
use Rattle.name_laws.proofs.HangLaws.{prefix_shorter, whole_prefix}

record Passing (passes : Parts → Bool) (roots : List Parts) : Type 0 where
  root : Parts
  begins : begins_domain roots root ≡ true
  is : passes root ≡ true

passing : (passes : Parts → Bool) (roots : List Parts) → list_any passes roots ≡ true → Passing passes roots
passing passes [] h = absurd (true≢false (sym h))
passing passes (root ∷ roots) h = by (passes root) refl h (λ later. passing passes roots later)
  where
    by : (b : Bool) → passes root ≡ b → (b || list_any passes roots) ≡ true → (list_any passes roots ≡ true → Passing passes roots) → Passing passes (root ∷ roots)
    by true is h go = record { root = root; begins = ap (λ b. b || begins_domain roots root) (path_itself root); is = is }
    by false off h go = let rest = go h in record { root = rest.root; begins = begins_later root roots rest.root rest.begins; is = rest.is }

-- no path stands in both parts of a list that has each once
apart : (xs ys : List Parts) (k : Parts) → each_once same_path (xs ++ ys) ≡ true → begins_domain xs k ≡ true → begins_domain ys k ≡ true → ⊥
apart [] ys k once first second = true≢false (sym first)
apart (x ∷ xs) ys k once first second = by (same_path k x) refl first (λ later. apart xs ys k both.1 later second)
  where
    both : (not (begins_domain (xs ++ ys) x) ≡ true) × (each_once same_path (xs ++ ys) ≡ true)
    both = and_parts (not (begins_domain (xs ++ ys) x)) (each_once same_path (xs ++ ys)) once

    behind : (xs : List Parts) → begins_domain ys k ≡ true → begins_domain (xs ++ ys) k ≡ true
    behind xs h = any_back k xs ys h

    by : (b : Bool) → same_path k x ≡ b → (b || begins_domain xs k) ≡ true → (begins_domain xs k ≡ true → ⊥) → ⊥
    by true same h go = true≢false (sym (behind xs second) ∙ ap (begins_domain (xs ++ ys)) (path_is k x same) ∙ not-true (begins_domain (xs ++ ys) x) both.0)
    by false off h go = go h

owner_is : (passes : Parts → Bool) (lines : List KernelLine) (i number : ℕ) (root : Parts) → each_once same_path (roots_of lines) ≡ true → passes root ≡ true → begins_domain (serves_in (slice_get lines i)) root ≡ true
    → ((other : Parts) → begins_domain (roots_of lines) other ≡ true → passes other ≡ true → other ≡ root) → owner_from passes number lines ≡ number + i
owner_is passes [] i number root once is here alone = absurd (true≢false (sym here))
owner_is passes (line ∷ lines) zero number root once is here alone =
    let same : number ≡ number + 0 = omega arith in
    ap (λ b. cond b number (owner_from passes (number + 1) lines)) (some_of passes line.serves root here is) ∙ same
owner_is passes (line ∷ lines) (suc i) number root once is here alone =
    by (list_any passes line.serves) refl
    (owner_is passes lines i (number + 1) root (once_back line.serves (roots_of lines) once) is here (λ other begins passed. alone other (any_back other line.serves (roots_of lines) begins) passed))
  where
    by : (b : Bool) → list_any passes line.serves ≡ b → owner_from passes (number + 1) lines ≡ number + 1 + i → cond b number (owner_from passes (number + 1) lines) ≡ number + suc i
    by true some rest =
        let p = passing passes line.serves some in
        let same : p.root ≡ root = alone p.root (any_front p.root line.serves (roots_of lines) p.begins) p.is in
        absurd (apart line.serves (roots_of lines) p.root once p.begins (subst (λ (k : Parts). begins_domain (roots_of lines) k ≡ true) (sym same) (within_all lines i root here)))
    by false none rest = let same : number + 1 + i ≡ number + suc i = omega arith in rest ∙ same

-- two longest domains of a path are one
longest_once : (roots : List Parts) (one two path : Parts) → begins_domain roots one ≡ true → begins_domain roots two ≡ true → lies_in roots one path ≡ true → lies_in roots two path ≡ true → one ≡ two
longest_once roots one two path first second a b =
    let p = and_parts (is_prefix one path) (is_longest roots one path) a in
    let q = and_parts (is_prefix two path) (is_longest roots two path) b in
    let down = prefix_is one two (either_right (is_prefix one path) (is_prefix one two) p.0 (one_of (λ root. not (is_prefix root path) || is_prefix root two) roots one q.1 first)) in
    let up = prefix_is two one (either_right (is_prefix two path) (is_prefix two one) q.0 (one_of (λ root. not (is_prefix root path) || is_prefix root one) roots two p.1 second)) in
    whole_prefix two one up (prefix_shorter one two down)

pub line_files_tie : LineFilesTie
line_files_tie ties c kernel lawful files first place line root got makes begins lies =
    let roots = roots_of c.kernels in
    let once = (and_parts (list_all is_clean roots) (each_once same_path roots) lawful.domains).1 in
    let mine = within_all c.kernels (kernel - 1) root begins in
    let number : 1 + (kernel - 1) ≡ kernel = omega (arith, first) in
    files.file_is place ∙ ap (line_file c place) got
    ∙ ap (λ k. file_of k (place + 1)) (
    owner_is (λ k. lies_in roots k line.path) c.kernels (kernel - 1) 1 root once lies begins (λ other is passed. longest_once roots other root line.path is mine passed lies)
    ∙ number
    )
