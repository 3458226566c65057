-- Files in the table of opens, and lists in which some items pass a test.
use Rattle.std.proofs.Common.{rules, tests, ◌≡◌, ℕ, zero, suc, ◌≤◌, ◌==◌, Bool, true, false, ◌&&◌, ◌||◌, cond, List, [], ◌∷◌, ◌++◌, length, Option, Some, None, option_map, refl, sym, ap, subst, arith, ◌∙◌, true≢false}
use Rattle.std.specs.List.{AllByRecursion, find, list_any}
use Rattle.std.specs.Map.{lookup}
use Rattle.std.proofs.lemmas.Bool.{and_parts, eqb-true, or_right, or_left}
use Rattle.sprite_ids.specs.declared.FileId.{FileId}
use Rattle.sprite_ids.specs.Lists.{less}
use Rattle.sprite_ids.proofs.ListLaws.{some_is}
use Rattle.version_table.specs.declared.Versioned.{Versioned}
use Rattle.version_table.specs.Files.{fresh}
use Rattle.version_table.specs.Versions.{Files, is_file, or_fresh, file_of, with_file, forgotten}
use Rattle.version_table.proofs.FileLaws.{file_put}
use Rattle.server_facts.specs.Asking.{AreFilesOnce, AtMost}

-- ---- tests

pub unless : (a b : Bool) → (a ≡ true → b ≡ true) → b ≡ false → a ≡ false
unless true b f e = sym (f refl) ∙ e
unless false b f e = refl

-- ---- which file it is

pub same_file : (one other : FileId) → ((one.server == other.server) && (one.number == other.number)) ≡ true → one ≡ other
same_file one other e =
    let parts = and_parts (one.server == other.server) (one.number == other.number) e in
    let server = eqb-true one.server other.server parts.0 in
    let number = eqb-true one.number other.number parts.1 in
    λ i. record { server = server i; number = number i }

pub itself : (file : FileId) → ((file.server == file.server) && (file.number == file.number)) ≡ true
itself file = search (rules, tests)

-- either it is the file, or another one
pub by_file : (one other : FileId) (G : Type 0) → (one ≡ other → G) → (is_file one other ≡ false → G) → G
by_file one other G here there = by_name (is_file one other) refl
  where
    by_name : (b : Bool) → is_file one other ≡ b → G
    by_name true e = here (same_file one other e)
    by_name false e = there e

-- ---- a file that another one's change leaves alone

pub turned : (one other : FileId) → is_file one other ≡ false → is_file other one ≡ false
turned one other off = unless (is_file other one) (is_file one other) (λ e. subst (λ (f : FileId). is_file f other ≡ true) (same_file other one e) (itself other)) off

put_by : (file other : FileId) (versioned : Versioned) (e : FileId × Versioned) (files : Files) (b c : Bool) → is_file file e.0 ≡ b → is_file other e.0 ≡ c → is_file other file ≡ false → lookup (is_file other) (with_file files file versioned) ≡ lookup (is_file other) files
    → lookup (is_file other) (cond b ((e.0, versioned) ∷ files) (e ∷ with_file files file versioned)) ≡ cond c (Some e.1) (lookup (is_file other) files)
put_by file other versioned e files true true t u off h =
    absurd (let same : is_file other file ≡ true = subst (λ (f : FileId). is_file other f ≡ true) (sym (same_file file e.0 t)) u in true≢false (sym same ∙ off))
put_by file other versioned e files true false t u off h = ap (λ b. cond b (Some versioned) (lookup (is_file other) files)) u
put_by file other versioned e files false c t u off h = ap (λ b. cond b (Some e.1) (lookup (is_file other) (with_file files file versioned))) u ∙ ap (cond c (Some e.1)) h

put_other : (files : Files) (file other : FileId) (versioned : Versioned) → is_file other file ≡ false → lookup (is_file other) (with_file files file versioned) ≡ lookup (is_file other) files
put_other [] file other versioned off = ap (λ b. cond b (Some versioned) None) off
put_other (e ∷ files) file other versioned off = put_by file other versioned e files (is_file file e.0) (is_file other e.0) refl refl off (put_other files file other versioned off)

pub file_other : (files : Files) (file other : FileId) (versioned : Versioned) → is_file other file ≡ false → file_of (with_file files file versioned) other ≡ file_of files other
file_other files file other versioned off = ap (or_fresh other) (put_other files file other versioned off)

drop_by : (file other : FileId) (e : FileId × Versioned) (files : Files) (b c : Bool) → is_file file e.0 ≡ b → is_file other e.0 ≡ c → is_file other file ≡ false → lookup (is_file other) (forgotten files file) ≡ lookup (is_file other) files
    → lookup (is_file other) (cond b files (e ∷ forgotten files file)) ≡ cond c (Some e.1) (lookup (is_file other) files)
drop_by file other e files true true t u off h =
    absurd (let same : is_file other file ≡ true = subst (λ (f : FileId). is_file other f ≡ true) (sym (same_file file e.0 t)) u in true≢false (sym same ∙ off))
drop_by file other e files true false t u off h = refl
drop_by file other e files false c t u off h = ap (λ b. cond b (Some e.1) (lookup (is_file other) (forgotten files file))) u ∙ ap (cond c (Some e.1)) h

drop_other : (files : Files) (file other : FileId) → is_file other file ≡ false → lookup (is_file other) (forgotten files file) ≡ lookup (is_file other) files
drop_other [] file other off = refl
drop_other (e ∷ files) file other off = drop_by file other e files (is_file file e.0) (is_file other e.0) refl refl off (drop_other files file other off)

pub file_left : (files : Files) (file other : FileId) → is_file other file ≡ false → file_of (forgotten files file) other ≡ file_of files other
file_left files file other off = ap (or_fresh other) (drop_other files file other off)

-- ---- each file once

pub once_put : (files : Files) (file : FileId) (versioned : Versioned) → AreFilesOnce files → AreFilesOnce (with_file files file versioned)
once_put [] file versioned h = (refl, tt)
once_put (e ∷ files) file versioned h = by_name (is_file file e.0) refl (once_put files file versioned h.1)
  where
    by_name : (b : Bool) → is_file file e.0 ≡ b → AreFilesOnce (with_file files file versioned) → AreFilesOnce (cond b ((e.0, versioned) ∷ files) (e ∷ with_file files file versioned))
    by_name true t later = (h.0, h.1)
    by_name false t later = (put_other files file e.0 versioned (turned file e.0 t) ∙ h.0, later)

pub once_left : (files : Files) (file : FileId) → AreFilesOnce files → AreFilesOnce (forgotten files file)
once_left [] file h = tt
once_left (e ∷ files) file h = by_name (is_file file e.0) refl (once_left files file h.1)
  where
    by_name : (b : Bool) → is_file file e.0 ≡ b → AreFilesOnce (forgotten files file) → AreFilesOnce (cond b files (e ∷ forgotten files file))
    by_name true t later = h.1
    by_name false t later = (drop_other files file e.0 (turned file e.0 t) ∙ h.0, later)

none_left : (files : Files) (file : FileId) → AreFilesOnce files → lookup (is_file file) (forgotten files file) ≡ None
none_left [] file h = refl
none_left (e ∷ files) file h = by_name (is_file file e.0) refl (none_left files file h.1)
  where
    by_name : (b : Bool) → is_file file e.0 ≡ b → lookup (is_file file) (forgotten files file) ≡ None → lookup (is_file file) (cond b files (e ∷ forgotten files file)) ≡ None
    by_name true t later = subst (λ (f : FileId). lookup (is_file f) files ≡ None) (sym (same_file file e.0 t)) h.0
    by_name false t later = ap (λ b. cond b (Some e.1) (lookup (is_file file) (forgotten files file))) t ∙ later

-- a file that is forgotten is one that nobody opened so far
pub file_gone : (files : Files) (file : FileId) → AreFilesOnce files → file_of (forgotten files file) file ≡ fresh file
file_gone files file h = ap (or_fresh file) (none_left files file h)

-- a part of what is kept of each file stays, where it stays of the one that changes
pub part_put : {F : Type 0} (part : Versioned → F) (files : Files) (file other : FileId) (versioned : Versioned) → part versioned ≡ part (file_of files file) → part (file_of (with_file files file versioned) other) ≡ part (file_of files other)
part_put part files file other versioned same = by_name (is_file other file) refl
  where
    by_name : (b : Bool) → is_file other file ≡ b → part (file_of (with_file files file versioned) other) ≡ part (file_of files other)
    by_name true e = subst (λ (f : FileId). part (file_of (with_file files file versioned) f) ≡ part (file_of files f)) (sym (same_file other file e)) (ap part (file_put files file versioned) ∙ same)
    by_name false e = ap part (file_other files file other versioned e)

-- ---- items that pass a test

any_by : {X : Type 0} (b : Bool) (p : X → Bool) (xs : List X) (y : X) → list_any p (xs ++ y ∷ []) ≡ (list_any p xs || p y) → (b || list_any p (xs ++ y ∷ [])) ≡ ((b || list_any p xs) || p y)
any_by true p xs y h = refl
any_by false p xs y h = h

or_false : (b : Bool) → (b || false) ≡ b
or_false true = refl
or_false false = refl

pub any_push : {X : Type 0} (p : X → Bool) (xs : List X) (y : X) → list_any p (xs ++ y ∷ []) ≡ (list_any p xs || p y)
any_push p [] y = or_false (p y)
any_push p (x ∷ xs) y = any_by (p x) p xs y (any_push p xs y)

pub any_left : {X : Type 0} (p : X → Bool) (xs : List X) (y : X) → list_any p xs ≡ true → list_any p (xs ++ y ∷ []) ≡ true
any_left p xs y e = any_push p xs y ∙ or_left (list_any p xs) (p y) e

pub any_last : {X : Type 0} (p : X → Bool) (xs : List X) (y : X) → p y ≡ true → list_any p (xs ++ y ∷ []) ≡ true
any_last p xs y e = any_push p xs y ∙ or_right (list_any p xs) (p y) e

pub any_none : {X : Type 0} (p : X → Bool) (xs : List X) (y : X) → p y ≡ false → list_any p (xs ++ y ∷ []) ≡ list_any p xs
any_none p xs y e = any_push p xs y ∙ (ap (λ b. list_any p xs || b) e ∙ or_false (list_any p xs))

less_by : {X : Type 0} (b : Bool) (x : X) (p : X → Bool) (xs : List X) (y : X) → less p (xs ++ y ∷ []) ≡ less p xs ++ y ∷ [] → cond b (xs ++ y ∷ []) (x ∷ less p (xs ++ y ∷ [])) ≡ cond b xs (x ∷ less p xs) ++ y ∷ []
less_by true x p xs y h = refl
less_by false x p xs y h = ap (λ l. x ∷ l) h

-- an item that doesn't pass stays the last one
less_other : {X : Type 0} (p : X → Bool) (xs : List X) (y : X) → p y ≡ false → less p (xs ++ y ∷ []) ≡ less p xs ++ y ∷ []
less_other p [] y e = ap (λ b. cond b [] (y ∷ [])) e
less_other p (x ∷ xs) y e = less_by (p x) x p xs y (less_other p xs y e)

pub most_other : {X : Type 0} (n : ℕ) (p : X → Bool) (xs : List X) (y : X) → p y ≡ false → AtMost n p xs → AtMost n p (xs ++ y ∷ [])
most_other zero p xs y e h = any_none p xs y e ∙ h
most_other (suc n) p xs y e h = subst (AtMost n p) (sym (less_other p xs y e)) (most_other n p (less p xs) y e h)

first_by : {X : Type 0} (b : Bool) (x : X) (p : X → Bool) (xs : List X) → (b || list_any p xs) ≡ false → p x ≡ b → (p x ≡ false) × (list_any p xs ≡ false)
first_by true x p xs e t = absurd (cc)
first_by false x p xs e t = (t, e)

-- the first item that passes goes
pub first_goes : {X : Type 0} (p : X → Bool) (xs : List X) (y : X) → list_any p xs ≡ false → list_any p (less p (xs ++ y ∷ [])) ≡ false
first_goes p [] y e = by_test (p y) refl
  where
    by_test : (b : Bool) → p y ≡ b → list_any p (cond b [] (y ∷ [])) ≡ false
    by_test true t = refl
    by_test false t = ap (λ b. b || false) t
first_goes p (x ∷ xs) y e =
    let parts = first_by (p x) x p xs e refl in
    ap (λ b. list_any p (cond b (xs ++ y ∷ []) (x ∷ less p (xs ++ y ∷ [])))) parts.0
    ∙ (ap (λ b. b || list_any p (less p (xs ++ y ∷ []))) parts.0 ∙ first_goes p xs y parts.1)

-- what doesn't stand in a list doesn't stand in a part of it
pub less_none : {X : Type 0} (p q : X → Bool) (xs : List X) → list_any p xs ≡ false → list_any p (less q xs) ≡ false
less_none p q [] e = refl
less_none p q (x ∷ xs) e =
    let parts = first_by (p x) x p xs e refl in
    elim (q x) as (λ b. list_any p (cond b xs (x ∷ less q xs)) ≡ false) [ true ↦ parts.1 | false ↦ ap (λ b. b || list_any p (less q xs)) parts.0 ∙ less_none p q xs parts.1 ]

kept_by : {X : Type 0} (b : Bool) (p q : X → Bool) (x : X) (xs : List X) → q x ≡ b → (q x ≡ true → p x ≡ false) → list_any p (less q xs) ≡ list_any p xs → list_any p (cond b xs (x ∷ less q xs)) ≡ (p x || list_any p xs)
kept_by true p q x xs t apart h = sym (ap (λ b. b || list_any p xs) (apart t))
kept_by false p q x xs t apart h = ap (λ b. p x || b) h

-- another test finds what it found
pub less_apart : {X : Type 0} (p q : X → Bool) (xs : List X) → ((x : X) → q x ≡ true → p x ≡ false) → list_any p (less q xs) ≡ list_any p xs
less_apart p q [] apart = refl
less_apart p q (x ∷ xs) apart = kept_by (q x) p q x xs refl (apart x) (less_apart p q xs apart)

-- less q (less p xs) is less p (less q xs), where no item passes both: so "at most so many" stays
swap_by : {X : Type 0} (b c : Bool) (p q : X → Bool) (x : X) (xs : List X) → p x ≡ b → q x ≡ c → (q x ≡ true → p x ≡ false) → less p (less q xs) ≡ less q (less p xs) → less p (cond c xs (x ∷ less q xs)) ≡ less q (cond b xs (x ∷ less p xs))
swap_by true true p q x xs t u apart h = absurd (true≢false (sym t ∙ apart u))
swap_by true false p q x xs t u apart h = ap (λ b. cond b (less q xs) (x ∷ less p (less q xs))) t
swap_by false true p q x xs t u apart h = sym (ap (λ c. cond c (less p xs) (x ∷ less q (less p xs))) u)
swap_by false false p q x xs t u apart h = ap (λ b. cond b (less q xs) (x ∷ less p (less q xs))) t ∙ (ap (λ l. x ∷ l) h ∙ sym (ap (λ c. cond c (less p xs) (x ∷ less q (less p xs))) u))

less_swap : {X : Type 0} (p q : X → Bool) (xs : List X) → ((x : X) → q x ≡ true → p x ≡ false) → less p (less q xs) ≡ less q (less p xs)
less_swap p q [] apart = refl
less_swap p q (x ∷ xs) apart = swap_by (p x) (q x) p q x xs refl refl (apart x) (less_swap p q xs apart)

pub most_apart : {X : Type 0} (n : ℕ) (p q : X → Bool) (xs : List X) → ((x : X) → q x ≡ true → p x ≡ false) → AtMost n p xs → AtMost n p (less q xs)
most_apart zero p q xs apart h = less_none p q xs h
most_apart (suc n) p q xs apart h = subst (AtMost n p) (sym (less_swap p q xs apart)) (most_apart n p q (less p xs) apart h)

most_none : {X : Type 0} (n : ℕ) (p : X → Bool) → AtMost n p []
most_none zero p = refl
most_none (suc n) p = most_none n p

most_skip : {X : Type 0} (n : ℕ) (p : X → Bool) (x : X) (xs : List X) → p x ≡ false → AtMost n p xs → AtMost n p (x ∷ xs)
most_skip zero p x xs e h = ap (λ b. b || list_any p xs) e ∙ h
most_skip (suc n) p x xs e h = subst (λ b. AtMost n p (cond b xs (x ∷ less p xs))) (sym e) (most_skip n p x (less p xs) e h)

-- no list has more of them than items
pub most_all : {X : Type 0} (xs : List X) (n : ℕ) (p : X → Bool) → length xs ≤ n → AtMost n p xs
most_all [] n p h = most_none n p
most_all (x ∷ xs) zero p h = absurd (omega arith)
most_all (x ∷ xs) (suc n) p h = by_test (p x) refl (most_all xs n p (omega arith)) (most_all xs (suc n) p (omega arith))
  where
    by_test : (b : Bool) → p x ≡ b → AtMost n p xs → AtMost (suc n) p xs → AtMost (suc n) p (x ∷ xs)
    by_test true e here later = subst (λ b. AtMost n p (cond b xs (x ∷ less p xs))) (sym e) here
    by_test false e here later = most_skip (suc n) p x xs e later

none_by : {X Y : Type 0} (b : Bool) (p : X → Bool) (f : X → Y) (x : X) (xs : List X) → (option_map f (find p xs) ≡ None → list_any p xs ≡ false) → option_map f (cond b (Some x) (find p xs)) ≡ None → (b || list_any p xs) ≡ false
none_by true p f x xs h e = absurd (cc)
none_by false p f x xs h e = h e

-- where none is found, none passes
pub none_found : {X Y : Type 0} (p : X → Bool) (f : X → Y) (xs : List X) → option_map f (find p xs) ≡ None → list_any p xs ≡ false
none_found p f [] e = refl
none_found p f (x ∷ xs) e = none_by (p x) p f x xs (none_found p f xs) e

-- ---- an item is taken out

some_by : {X : Type 0} (b : Bool) (p : X → Bool) (x y : X) (xs : List X) (rest : Option X) → p y ≡ true → (rest ≡ Some y → list_any p xs ≡ true) → cond b (Some x) rest ≡ Some y → (p x || list_any p xs) ≡ true
some_by true p x y xs rest passes later e = or_left (p x) (list_any p xs) (subst (λ z. p z ≡ true) (sym (some_is x y e)) passes)
some_by false p x y xs rest passes later e = or_right (p x) (list_any p xs) (later e)

-- what is found is there
pub found_any : {X : Type 0} (p q : X → Bool) (xs : List X) (y : X) → find q xs ≡ Some y → p y ≡ true → list_any p xs ≡ true
found_any p q [] y e passes = absurd (cc)
found_any p q (x ∷ xs) y e passes = some_by (q x) p x y xs (find q xs) passes (λ later. found_any p q xs y later passes) e

-- what is so of each is so of the one that is found
pub found_each : {X : Type 0} (F : X → Type 0) (q : X → Bool) (xs : List X) (y : X) → find q xs ≡ Some y → AllByRecursion F xs → F y
found_each F q [] y e h = absurd (cc)
found_each F q (x ∷ xs) y e h = by_test (q x) (found_each F q xs y) e
  where
    by_test : (b : Bool) → (find q xs ≡ Some y → AllByRecursion F xs → F y) → cond b (Some x) (find q xs) ≡ Some y → F y
    by_test true later e = subst F (some_is x y e) h.0
    by_test false later e = later e h.1

other_by : {X : Type 0} (b : Bool) (p q : X → Bool) (x y : X) (xs : List X) (rest : Option X) → p y ≡ false → (rest ≡ Some y → list_any p (less q xs) ≡ list_any p xs) → cond b (Some x) rest ≡ Some y → list_any p (cond b xs (x ∷ less q xs)) ≡ (p x || list_any p xs)
other_by true p q x y xs rest off later e = sym (ap (λ b. b || list_any p xs) (subst (λ z. p z ≡ false) (sym (some_is x y e)) off))
other_by false p q x y xs rest off later e = ap (λ b. p x || b) (later e)

-- where the one that is taken out doesn't pass, others still do
pub removed_other : {X : Type 0} (p q : X → Bool) (xs : List X) (y : X) → find q xs ≡ Some y → p y ≡ false → list_any p (less q xs) ≡ list_any p xs
removed_other p q [] y e off = refl
removed_other p q (x ∷ xs) y e off = other_by (q x) p q x y xs (find q xs) off (λ later. removed_other p q xs y later off) e

-- with one that passes in front, no other one does; with another one in front, one at most behind it does
one_by : {X : Type 0} (b : Bool) (p : X → Bool) (x : X) (xs : List X) → list_any p (cond b xs (x ∷ less p xs)) ≡ false → p x ≡ b → (b ≡ true → list_any p xs ≡ false) × (b ≡ false → list_any p (less p xs) ≡ false)
one_by true p x xs h t = (λ e. h, λ e. absurd (cc))
one_by false p x xs h t = (λ e. absurd (cc), λ e. sym (ap (λ b. b || list_any p (less p xs)) t) ∙ h)

-- where it is the one that passes, none is left
pub removed_one : {X : Type 0} (p q : X → Bool) (xs : List X) (y : X) → find q xs ≡ Some y → p y ≡ true → AtMost 1 p xs → list_any p (less q xs) ≡ false
removed_one p q [] y e passes h = refl
removed_one p q (x ∷ xs) y e passes h = by_tests (q x) (p x) refl refl e (removed_one p q xs y)
  where
    by_tests : (b c : Bool) → q x ≡ b → p x ≡ c → cond b (Some x) (find q xs) ≡ Some y → (find q xs ≡ Some y → p y ≡ true → AtMost 1 p xs → list_any p (less q xs) ≡ false) → list_any p (cond b xs (x ∷ less q xs)) ≡ false
    by_tests true true t u e later = (one_by (p x) p x xs h refl).0 u
    by_tests true false t u e later = absurd (true≢false (sym (subst (λ z. p z ≡ true) (sym (some_is x y e)) passes) ∙ u))
    by_tests false true t u e later = absurd (true≢false (sym (found_any p q xs y e passes) ∙ (one_by (p x) p x xs h refl).0 u))
    by_tests false false t u e later = ap (λ b. b || list_any p (less q xs)) u ∙ later e passes ((one_by (p x) p x xs h refl).1 u)

-- one at most passes of fewer
pub most_less : {X : Type 0} (p q : X → Bool) (xs : List X) → AtMost 1 p xs → AtMost 1 p (less q xs)
most_less p q [] h = h
most_less p q (x ∷ xs) h = by_tests (q x) (p x) refl (most_less p q xs)
  where
    by_tests : (b c : Bool) → p x ≡ c → (AtMost 1 p xs → AtMost 1 p (less q xs)) → AtMost 1 p (cond b xs (x ∷ less q xs))
    by_tests true true u later = less_none p p xs ((one_by (p x) p x xs h refl).0 u)
    by_tests true false u later = (one_by (p x) p x xs h refl).1 u
    by_tests false true u later = subst (λ c. list_any p (cond c (less q xs) (x ∷ less p (less q xs))) ≡ false) (sym u) (less_none p q xs ((one_by (p x) p x xs h refl).0 u))
    by_tests false false u later = subst (λ c. list_any p (cond c (less q xs) (x ∷ less p (less q xs))) ≡ false) (sym u) (ap (λ b. b || list_any p (less p (less q xs))) u ∙ later ((one_by (p x) p x xs h refl).1 u))

-- ---- what is found

find_by : {X Y : Type 0} (b : Bool) (x y : X) (f : X → Y) (more rest : Option X) → option_map f more ≡ option_map f rest → option_map f (cond b (Some x) more) ≡ option_map f (cond b (Some x) rest)
find_by true x y f more rest h = refl
find_by false x y f more rest h = h

-- one more that doesn't pass is never found
pub find_other : {X Y : Type 0} (p : X → Bool) (f : X → Y) (xs : List X) (y : X) → p y ≡ false → option_map f (find p (xs ++ y ∷ [])) ≡ option_map f (find p xs)
find_other p f [] y off = ap (λ b. option_map f (cond b (Some y) None)) off
find_other p f (x ∷ xs) y off = find_by (p x) x y f (find p (xs ++ y ∷ [])) (find p xs) (find_other p f xs y off)

-- and one that passes is found where none did
pub find_last : {X Y : Type 0} (p : X → Bool) (f : X → Y) (xs : List X) (y : X) → list_any p xs ≡ false → p y ≡ true → option_map f (find p (xs ++ y ∷ [])) ≡ Some (f y)
find_last p f [] y none here = ap (λ b. option_map f (cond b (Some y) None)) here
find_last p f (x ∷ xs) y none here =
    let parts = first_by (p x) x p xs none refl in
    ap (λ b. option_map f (cond b (Some x) (find p (xs ++ y ∷ [])))) parts.0 ∙ find_last p f xs y parts.1 here

apart_by : {X Y : Type 0} (b c : Bool) (p q : X → Bool) (f : X → Y) (x : X) (xs : List X) → q x ≡ b → p x ≡ c → (q x ≡ true → p x ≡ false) → option_map f (find p (less q xs)) ≡ option_map f (find p xs) → option_map f (find p (cond b xs (x ∷ less q xs))) ≡ option_map f (cond c (Some x) (find p xs))
apart_by true true p q f x xs t u apart h = absurd (true≢false (sym u ∙ apart t))
apart_by true false p q f x xs t u apart h = refl
apart_by false true p q f x xs t u apart h = ap (λ b. option_map f (cond b (Some x) (find p (less q xs)))) u
apart_by false false p q f x xs t u apart h = ap (λ b. option_map f (cond b (Some x) (find p (less q xs)))) u ∙ h

-- taking another one out leaves what is found
pub find_apart : {X Y : Type 0} (p q : X → Bool) (f : X → Y) (xs : List X) → ((x : X) → q x ≡ true → p x ≡ false) → option_map f (find p (less q xs)) ≡ option_map f (find p xs)
find_apart p q f [] apart = refl
find_apart p q f (x ∷ xs) apart = apart_by (q x) (p x) p q f x xs refl refl (apart x) (find_apart p q f xs apart)

none_by_test : {X Y : Type 0} (b : Bool) (f : X → Y) (x : X) (rest : Option X) → b ≡ false → option_map f rest ≡ None → option_map f (cond b (Some x) rest) ≡ None
none_by_test true f x rest e h = absurd (cc)
none_by_test false f x rest e h = h

-- where none passes, none is found
pub find_none : {X Y : Type 0} (p : X → Bool) (f : X → Y) (xs : List X) → list_any p xs ≡ false → option_map f (find p xs) ≡ None
find_none p f [] none = refl
find_none p f (x ∷ xs) none =
    let parts = first_by (p x) x p xs none refl in
    none_by_test (p x) f x (find p xs) parts.0 (find_none p f xs parts.1)
