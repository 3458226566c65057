-- Names and domains that stand once.
use Rattle.std.proofs.Common.{◌≡◌, ℕ, ◌+◌, List, [], ◌∷◌, ◌++◌, length, map, Bool, true, false, cond, ◌||◌, not, Some, None, inl, inr, refl, sym, ap, subst, ◌∙◌}
use Rattle.std.specs.List.{AllByRecursion, list_any, flat_map}
use Rattle.std.proofs.lemmas.Bool.{true≢false, and_parts, and_from, or_parts, or_from, not-true, not_from_false, cases_Bool}
use Rattle.std.proofs.lemmas.List.{append-nil, map-append}
use Rattle.std.proofs.lemmas.List.Folds.{list_any-append}
use Rattle.std.proofs.lemmas.Grind.{flat_map-append}
use Rattle.std.specs.Cmp.Lexicographic.{bytes_decides}
use Rattle.sprite_ids.proofs.ListLaws.{each_of_append}
use Rattle.unix_calls.specs.Lawful.{each_once}
use Rattle.unix_calls.specs.Same.{same_text}
use Rattle.cluster_file.specs.declared.rows.KernelRow.{KernelRow}
use Rattle.cluster_file.specs.declared.rows.ProgramRow.{ProgramRow}
use Rattle.cluster_file.specs.declared.rows.Rows.{Rows}
use Rattle.cluster_file.specs.Names
use Rattle.cluster_file.proofs.StageLaws.{neither, mapped_none}

-- a test over a flattened list, and over a mapped one
pub any_flat : {A B : Type 0} (p : B → Bool) (f : A → List B) (xs : List A) → list_any p (flat_map f xs) ≡ list_any (λ (x : A). list_any p (f x)) xs
any_flat p f [] = refl
any_flat {A} {B} p f (x ∷ xs) = list_any-append p (f x) (flat_map f xs) ∙ ap (λ b. list_any p (f x) || b) (any_flat p f xs)

-- and over a mapped one
pub any_map : {A B : Type 0} (p : B → Bool) (f : A → B) (xs : List A) → list_any p (map f xs) ≡ list_any (λ (x : A). p (f x)) xs
any_map p f [] = refl
any_map p f (x ∷ xs) = ap (λ b. p (f x) || b) (any_map p f xs)

-- two tests that are the same
pub any_same : {A : Type 0} (p q : A → Bool) (xs : List A) → ((x : A) → p x ≡ q x) → list_any p xs ≡ list_any q xs
any_same p q [] h = refl
any_same {A} p q (x ∷ xs) h = ap (λ b. b || list_any p xs) (h x) ∙ ap (λ b. q x || b) (any_same p q xs h)

-- a text is the same as another where that is the same as it
same_by : (a b : List ℕ) (s t : Bool) → same_text a b ≡ s → same_text b a ≡ t → s ≡ t
same_by a b true true e f = refl
same_by a b true false e f = absurd (true≢false (sym ((bytes_decides b a).1 (sym ((bytes_decides a b).0 e))) ∙ f))
same_by a b false true e f = absurd (true≢false (sym ((bytes_decides a b).1 (sym ((bytes_decides b a).0 f))) ∙ e))
same_by a b false false e f = refl

-- the test of texts is the same both ways
pub same_turned : (a b : List ℕ) → same_text a b ≡ same_text b a
same_turned a b = same_by a b (same_text a b) (same_text b a) refl refl

-- ---- texts that stand behind others

-- each text is none of those before it
abbrev pub Fresh : List (List ℕ) → List (List ℕ) → Type 0
Fresh earlier [] = Unit {0}
Fresh earlier (x ∷ xs) = (Names.is_one_of x earlier ≡ false) × Fresh (earlier ++ x ∷ []) xs

-- one more text, which is none of those before it
none_more : (x : List ℕ) (xs earlier : List (List ℕ)) → Names.is_one_of x earlier ≡ false → AllByRecursion (λ (y : List ℕ). list_any (same_text y) xs ≡ false) earlier → AllByRecursion (λ (y : List ℕ). list_any (same_text y) (x ∷ xs) ≡ false) earlier
none_more x xs [] h k = tt
none_more x xs (y ∷ ys) h k =
    let both = or_parts (same_text y x) (Names.is_one_of x ys) h in
    (or_from (same_text y x) (list_any (same_text y) xs) both.0 k.0, none_more x xs ys both.1 k.1)

-- no text is one of none
none_at_all : (xs : List (List ℕ)) → AllByRecursion (λ (y : List ℕ). list_any (same_text y) [] ≡ false) xs
none_at_all [] = tt
none_at_all (x ∷ xs) = (refl, none_at_all xs)

-- those before are none of those behind, and those behind stand once
fresh_apart : (earlier xs : List (List ℕ)) → Fresh earlier xs → AllByRecursion (λ (y : List ℕ). list_any (same_text y) xs ≡ false) earlier × (each_once same_text xs ≡ true)
fresh_apart earlier [] h = (none_at_all earlier, refl)
fresh_apart earlier (x ∷ xs) h =
    let rest = fresh_apart (earlier ++ x ∷ []) xs h.1 in
    let parts = each_of_append (λ (y : List ℕ). list_any (same_text y) xs ≡ false) earlier (x ∷ []) rest.0 in
    (none_more x xs earlier h.0 parts.0, and_from (not (list_any (same_text x) xs)) (each_once same_text xs) (not_from_false (list_any (same_text x) xs) parts.1.0) rest.1)

-- so each stands once
pub fresh_once : (xs : List (List ℕ)) → Fresh [] xs → each_once same_text xs ≡ true
fresh_once xs h = (fresh_apart [] xs h).1

-- what differs by a name stands once where the names do
any_none : {A B : Type 0} (same : A → A → Bool) (other : B → B → Bool) (f : B → A) (x : B) (xs : List B) → ((a b : B) → other a b ≡ true → same (f a) (f b) ≡ true) → list_any (same (f x)) (map f xs) ≡ false → list_any (other x) xs ≡ false
any_none same other f x [] h e = refl
any_none {A} {B} same other f x (y ∷ ys) h e =
    let both = or_parts (same (f x) (f y)) (list_any (same (f x)) (map f ys)) e in
    or_from (other x y) (list_any (other x) ys)
    (elim (cases_Bool (other x y)) [ inl is ↦ absurd (true≢false (sym (h x y is) ∙ both.0)) | inr is ↦ is ])
    (any_none same other f x ys h both.1)

-- so all of them do
pub once_named : {A B : Type 0} (same : A → A → Bool) (other : B → B → Bool) (f : B → A) (xs : List B) → ((a b : B) → other a b ≡ true → same (f a) (f b) ≡ true) → each_once same (map f xs) ≡ true → each_once other xs ≡ true
once_named same other f [] h e = refl
once_named {A} {B} same other f (x ∷ xs) h e =
    let both = and_parts (not (list_any (same (f x)) (map f xs))) (each_once same (map f xs)) e in
    and_from (not (list_any (other x) xs)) (each_once other xs)
    (not_from_false (list_any (other x) xs) (any_none same other f x xs h (not-true (list_any (same (f x)) (map f xs)) both.0)))
    (once_named same other f xs h both.1)

-- ---- what the judgement of duplicates says

-- where none stands again, this one does not, and none behind it
found_by : {A : Type 0} (again : List A → A → Bool) (earlier xs : List A) (x : A) (b : Bool) → again earlier x ≡ b → cond b (Some (length earlier + 1)) (Names.first_again again (earlier ++ x ∷ []) xs) ≡ None → (again earlier x ≡ false) × (Names.first_again again (earlier ++ x ∷ []) xs ≡ None)
found_by again earlier xs x true is e = absurd (cc)
found_by again earlier xs x false is e = (is, e)

-- a name is none of those before it
kernels_fresh : (earlier rows : List KernelRow) → Names.first_again Names.kernel_again earlier rows ≡ None → Fresh (map (λ (r : KernelRow). r.name) earlier) (map (λ (r : KernelRow). r.name) rows)
kernels_fresh earlier [] e = tt
kernels_fresh earlier (row ∷ rows) e =
    let name_of : KernelRow → List ℕ = λ (r : KernelRow). r.name in
    let here = found_by Names.kernel_again earlier rows row (Names.kernel_again earlier row) refl e in
    let none = or_parts (Names.is_kernel row.name earlier) (Names.serves_again earlier row.serves) here.0 in (
      any_map (λ other. same_text other row.name) name_of earlier ∙ none.0,
      subst (λ (ns : List (List ℕ)). Fresh ns (map name_of rows)) (map-append name_of earlier (row ∷ [])) (kernels_fresh (earlier ++ row ∷ []) rows here.1),
    )

-- the same of programs
programs_fresh : (earlier rows : List ProgramRow) → Names.first_again Names.program_again earlier rows ≡ None → Fresh (map (λ (r : ProgramRow). r.name) earlier) (map (λ (r : ProgramRow). r.name) rows)
programs_fresh earlier [] e = tt
programs_fresh earlier (row ∷ rows) e =
    let name_of : ProgramRow → List ℕ = λ (r : ProgramRow). r.name in
    let here = found_by Names.program_again earlier rows row (Names.program_again earlier row) refl e in (
      any_map (λ other. same_text other row.name) name_of earlier ∙ here.0,
      subst (λ (ns : List (List ℕ)). Fresh ns (map name_of rows)) (map-append name_of earlier (row ∷ [])) (programs_fresh (earlier ++ row ∷ []) rows here.1),
    )

-- the domains of some kernels
abbrev pub served : List KernelRow → List (List ℕ)
served rows = flat_map (λ (row : KernelRow). row.serves) rows

-- a path that no kernel serves is none of the domains
served_none : (path : List ℕ) (rows : List KernelRow) → Names.is_served path rows ≡ false → Names.is_one_of path (served rows) ≡ false
served_none path rows e = any_flat (λ other. same_text other path) (λ (row : KernelRow). row.serves) rows ∙ e

-- what two domains' tests say of a kernel's paths
serves_parts : (earlier : List KernelRow) (path : List ℕ) (paths : List (List ℕ)) → Names.serves_again earlier (path ∷ paths) ≡ false → (Names.is_served path earlier ≡ false) × (Names.is_one_of path paths ≡ false) × (Names.serves_again earlier paths ≡ false)
serves_parts earlier path paths e =
    let last = or_parts (Names.is_served path earlier || Names.is_one_of path paths) (Names.serves_again earlier paths) e in
    let first = or_parts (Names.is_served path earlier) (Names.is_one_of path paths) last.0 in
    (first.0, first.1, last.1)

-- the domains before are none of a kernel's paths, nor of those behind
none_before : (earlier : List KernelRow) (paths more : List (List ℕ)) → Names.serves_again earlier paths ≡ false → AllByRecursion (λ (y : List ℕ). list_any (same_text y) more ≡ false) (served earlier) → AllByRecursion (λ (y : List ℕ). list_any (same_text y) (paths ++ more) ≡ false) (served earlier)
none_before earlier [] more e h = h
none_before earlier (path ∷ paths) more e h =
    let parts = serves_parts earlier path paths e in
    none_more path (paths ++ more) (served earlier) (served_none path earlier parts.0) (none_before earlier paths more parts.2 h)

-- a kernel's paths stand once, also before those behind
once_before : (earlier : List KernelRow) (paths more : List (List ℕ)) → Names.serves_again earlier paths ≡ false → AllByRecursion (λ (y : List ℕ). list_any (same_text y) more ≡ false) paths → each_once same_text more ≡ true → each_once same_text (paths ++ more) ≡ true
once_before earlier [] more e h k = k
once_before earlier (path ∷ paths) more e h k =
    let parts = serves_parts earlier path paths e in
    let turned : list_any (same_text path) paths ≡ false = any_same (same_text path) (λ other. same_text other path) paths (λ (other : List ℕ). same_turned path other) ∙ parts.1 in
    let none : list_any (same_text path) (paths ++ more) ≡ false = list_any-append (same_text path) paths more ∙ or_from (list_any (same_text path) paths) (list_any (same_text path) more) turned h.0 in
    and_from (not (list_any (same_text path) (paths ++ more))) (each_once same_text (paths ++ more)) (not_from_false (list_any (same_text path) (paths ++ more)) none) (once_before earlier paths more parts.2 h.1 k)

-- all domains stand once
domains_apart : (earlier rows : List KernelRow) → Names.first_again Names.kernel_again earlier rows ≡ None → AllByRecursion (λ (y : List ℕ). list_any (same_text y) (served rows) ≡ false) (served earlier) × (each_once same_text (served rows) ≡ true)
domains_apart earlier [] e = (none_at_all (served earlier), refl)
domains_apart earlier (row ∷ rows) e =
    let here = found_by Names.kernel_again earlier rows row (Names.kernel_again earlier row) refl e in
    let none = or_parts (Names.is_kernel row.name earlier) (Names.serves_again earlier row.serves) here.0 in
    let rest = domains_apart (earlier ++ row ∷ []) rows here.1 in
    let both : served (earlier ++ row ∷ []) ≡ served earlier ++ row.serves = flat_map-append (λ (r : KernelRow). r.serves) earlier (row ∷ []) ∙ ap (λ ps. served earlier ++ ps) (append-nil row.serves) in
    let parts = each_of_append (λ (y : List ℕ). list_any (same_text y) (served rows) ≡ false) (served earlier) row.serves (subst (AllByRecursion (λ (y : List ℕ). list_any (same_text y) (served rows) ≡ false)) both rest.0) in
    (none_before earlier row.serves (served rows) none.1 parts.0, once_before earlier row.serves (served rows) none.1 parts.1 rest.1)

-- no name of a kernel, none of a program and no domain stands twice
pub record IsOnce (rows : Rows) : Type 0 where
  pub kernels : each_once same_text (map (λ (r : KernelRow). r.name) rows.kernels) ≡ true
  pub programs : each_once same_text (map (λ (r : ProgramRow). r.name) rows.programs) ≡ true
  pub domains : each_once same_text (served rows.kernels) ≡ true

-- what it says that nothing is refused as a duplicate
pub once_is : (rows : Rows) → Names.duplicate rows ≡ None → IsOnce rows
once_is rows e =
    let both = neither _ _ e in
    let kernels = mapped_none _ (Names.first_again Names.kernel_again [] rows.kernels) both.0 in
    let programs = mapped_none _ (Names.first_again Names.program_again [] rows.programs) both.1 in
    record {
      kernels = fresh_once _ (kernels_fresh [] rows.kernels kernels);
      programs = fresh_once _ (programs_fresh [] rows.programs programs);
      domains = (domains_apart [] rows.kernels kernels).1;
    }
