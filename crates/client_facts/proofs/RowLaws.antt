-- What all operations pass, when one is taken out and one comes.
use Rattle.std.proofs.Common.{◌≡◌, ℕ, ◌==◌, Bool, true, false, cond, List, [], ◌∷◌, ◌++◌, Option, Some, None, option_map, refl, sym, ap, ◌∙◌, subst, append-nil}
use Rattle.std.proofs.lemmas.Bool.{and_parts, and_from}
use Rattle.std.specs.List.{find, list_all}
use Rattle.sprite_ids.specs.Lists.{less}
use Rattle.sprite_ids.proofs.ListLaws.{some_is}
use Rattle.kernel_steps.specs.Rows.{is_under}
use Rattle.client_file_tables.specs.declared.pending.Pending.{Pending}
use Rattle.client_file_tables.specs.Rows.{first_of, same_pid}
use Rattle.client_facts.specs.GoingOn.{few_fds, has_few_fds}
use Rattle.client_facts.proofs.CostLaws.{few_of, row_of}

-- all of two lists pass together
pub all_append : {X : Type 0} (p : X → Bool) (xs ys : List X) → list_all p xs ≡ true → list_all p ys ≡ true → list_all p (xs ++ ys) ≡ true
all_append p [] ys h k = k
all_append p (x ∷ xs) ys h k = let parts = and_parts (p x) (list_all p xs) h in and_from (p x) (list_all p (xs ++ ys)) parts.0 (all_append p xs ys parts.1 k)

less_by : {X : Type 0} (p : X → Bool) (x : X) (xs ys : List X) (b : Bool) → list_all p (x ∷ xs) ≡ true → list_all p ys ≡ true → list_all p (cond b xs (x ∷ ys)) ≡ true
less_by p x xs ys true h k = (and_parts (p x) (list_all p xs) h).1
less_by p x xs ys false h k = and_from (p x) (list_all p ys) (and_parts (p x) (list_all p xs) h).0 k

-- and those that are left of them
pub all_less : {X : Type 0} (p q : X → Bool) (xs : List X) → list_all p xs ≡ true → list_all p (less q xs) ≡ true
all_less p q [] h = refl
all_less p q (x ∷ xs) h = less_by p x xs (less q xs) (q x) h (all_less p q xs (and_parts (p x) (list_all p xs) h).1)

found_by : (row : ℕ × Pending) (operation : Pending) (o : Option (ℕ × Pending)) (b : Bool) → few_fds row.1 ≡ true → (option_map (λ (r : ℕ × Pending). r.1) o ≡ Some operation → few_fds operation ≡ true) → option_map (λ (r : ℕ × Pending). r.1) (cond b (Some row) o) ≡ Some operation → few_fds operation ≡ true
found_by row operation o true here later e = ap few_fds (sym (some_is row.1 operation e)) ∙ here
found_by row operation o false here later e = later e

-- and the one that is found
pub found_few : (pid : ℕ) (rows : List (ℕ × Pending)) (operation : Pending) → list_all has_few_fds rows ≡ true → first_of pid rows ≡ Some operation → few_fds operation ≡ true
found_few pid [] operation h e = absurd (cc)
found_few pid (row ∷ rows) operation h e =
    let parts = and_parts (has_few_fds row) (list_all has_few_fds rows) h in
    found_by row operation (find (is_under same_pid pid) rows) (row.0 == pid) parts.0 (found_few pid rows operation parts.1) e

-- and one more that may come
pub all_kept : (pid : ℕ) (o : Option Pending) (rows : List (ℕ × Pending)) → list_all has_few_fds rows ≡ true → few_of o ≡ true → list_all has_few_fds (rows ++ row_of pid o) ≡ true
all_kept pid None rows h few = subst (λ (all : List (ℕ × Pending)). list_all has_few_fds all ≡ true) (sym (append-nil rows)) h
all_kept pid (Some operation) rows h few = all_append has_few_fds rows ((pid, operation) ∷ []) h (and_from (few_fds operation) true few refl)
