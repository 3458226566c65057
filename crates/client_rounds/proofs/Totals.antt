-- Sums over rows.
use Rattle.std.proofs.Common.{arith, ◌≡◌, ℕ, suc, ◌+◌, ◌≤◌, ◌==◌, Bool, true, false, cond, List, [], ◌∷◌, ◌++◌, length, Option, Some, None, option_map, refl, sym, ap, ap₂, ◌∙◌}
use Rattle.std.proofs.lemmas.Bool.{eq-eqb, eqb-true}
use Rattle.std.specs.BTreeMap.{is_at}
use Rattle.std.specs.List.{find}
use Rattle.std.specs.Map.{lookup, remove_entry, set_value}
use Rattle.std.specs.Ordering.{nat_cmp}
use Rattle.sprite_ids.specs.Lists.{less, one_if, total}
use Rattle.sprite_ids.proofs.ListLaws.{some_is}
use Rattle.kernel_steps.specs.Rows.{first_under, is_under}
use Rattle.client_facts.proofs.PlaceLaws.{at_is}

pub total_append : {X : Type 0} (f : X → ℕ) (xs ys : List X) → total f (xs ++ ys) ≡ total f xs + total f ys
total_append f [] ys = omega arith
total_append f (x ∷ xs) ys = (let rest = total_append f xs ys in omega arith)

pub total_push : {X : Type 0} (f : X → ℕ) (xs : List X) (x : X) → total f (xs ++ x ∷ []) ≡ total f xs + f x
total_push f [] x = omega arith
total_push f (y ∷ ys) x = (let rest = total_push f ys x in omega arith)

-- one less that was found
found_by : {X : Type 0} (f : X → ℕ) (p : X → Bool) (y x : X) (ys : List X) (o : Option X) (b : Bool) → (o ≡ Some x → total f (less p ys) + f x ≡ total f ys) → cond b (Some y) o ≡ Some x → total f (cond b ys (y ∷ less p ys)) + f x ≡ f y + total f ys
found_by f p y x ys o true later e = (let same = ap f (some_is y x e) in omega arith)
found_by f p y x ys o false later e = (let rest = later e in omega arith)

pub total_found : {X : Type 0} (f : X → ℕ) (p : X → Bool) (xs : List X) (x : X) → find p xs ≡ Some x → total f (less p xs) + f x ≡ total f xs
total_found f p [] x e = absurd (cc)
total_found f p (y ∷ ys) x e = found_by f p y x ys (find p ys) (p y) (total_found f p ys x) e

none_by : {X : Type 0} (p : X → Bool) (y : X) (ys : List X) (o : Option X) (b : Bool) → (o ≡ None → less p ys ≡ ys) → cond b (Some y) o ≡ None → cond b ys (y ∷ less p ys) ≡ y ∷ ys
none_by p y ys o true later e = absurd (cc)
none_by p y ys o false later e = ap (λ zs. y ∷ zs) (later e)

-- and none
pub less_none : {X : Type 0} (p : X → Bool) (xs : List X) → find p xs ≡ None → less p xs ≡ xs
less_none p [] e = refl
less_none p (y ∷ ys) e = none_by p y ys (find p ys) (p y) (less_none p ys) e

pub total_less : {X : Type 0} (f : X → ℕ) (p : X → Bool) (xs : List X) → total f (less p xs) ≤ total f xs
total_less f p [] = omega arith
total_less f p (x ∷ xs) = by_test (p x) (total_less f p xs)
  where
    by_test : (b : Bool) → total f (less p xs) ≤ total f xs → total f (cond b xs (x ∷ less p xs)) ≤ f x + total f xs
    by_test true h = omega arith
    by_test false h = omega arith

-- Rows of processes

first_by : {V : Type 0} (f : ℕ × V → ℕ) (pid key : ℕ) (value v : V) (rows : List (ℕ × V)) (o : Option (ℕ × V)) (b : Bool) → (key == pid) ≡ b → (option_map (λ (row : ℕ × V). row.1) o ≡ Some v → total f (less (is_under (λ other pid. other == pid) pid) rows) + f (pid, v) ≡ total f rows)
    → option_map (λ (row : ℕ × V). row.1) (cond b (Some (key, value)) o) ≡ Some v → total f (cond b rows ((key, value) ∷ less (is_under (λ other pid. other == pid) pid) rows)) + f (pid, v) ≡ f (key, value) + total f rows
first_by {V} f pid key value v rows o true e later found = (let same = ap₂ (λ (k : ℕ) (w : V). f (k, w)) (eqb-true key pid e) (some_is value v found) in omega arith)
first_by {V} f pid key value v rows o false e later found = (let rest = later found in omega arith)

-- the first row of a process that was found is taken out
pub total_first : {V : Type 0} (f : ℕ × V → ℕ) (pid : ℕ) (rows : List (ℕ × V)) (v : V) → first_under (λ other pid. other == pid) pid rows ≡ Some v → total f (less (is_under (λ other pid. other == pid) pid) rows) + f (pid, v) ≡ total f rows
total_first f pid [] v found = absurd (cc)
total_first f pid ((key, value) ∷ rows) v found = first_by f pid key value v rows (find (is_under (λ other pid. other == pid) pid) rows) (key == pid) refl (total_first f pid rows v) found

-- Rows that are set and taken out

set_by : {V : Type 0} (g : ℕ → ℕ) (key : ℕ) (value w : V) (rows more : List (ℕ × V)) (b : Bool) → total (λ (row : ℕ × V). g row.0) more ≡ total (λ (row : ℕ × V). g row.0) rows → total (λ (row : ℕ × V). g row.0) (cond b ((key, w) ∷ rows) ((key, value) ∷ more)) ≡ g key + total (λ (row : ℕ × V). g row.0) rows
set_by {V} g key value w rows more true h = refl
set_by {V} g key value w rows more false h = ap (λ (n : ℕ). g key + n) h

pub total_set : {V : Type 0} (g : ℕ → ℕ) (p : ℕ → Bool) (rows : List (ℕ × V)) (w : V) → total (λ (row : ℕ × V). g row.0) (set_value p rows w) ≡ total (λ (row : ℕ × V). g row.0) rows
total_set g p [] w = refl
total_set g p ((key, value) ∷ rows) w = set_by g key value w rows (set_value p rows w) (p key) (total_set g p rows w)

removed_by : {V : Type 0} (g : ℕ → ℕ) (pid key : ℕ) (value v : V) (rows more : List (ℕ × V)) (o : Option V) (b : Bool) → is_at (nat_cmp pid) key ≡ b → (o ≡ Some v → total (λ (row : ℕ × V). g row.0) more + g pid ≡ total (λ (row : ℕ × V). g row.0) rows)
    → cond b (Some value) o ≡ Some v → total (λ (row : ℕ × V). g row.0) (cond b rows ((key, value) ∷ more)) + g pid ≡ g key + total (λ (row : ℕ × V). g row.0) rows
removed_by {V} g pid key value v rows more o true e later found = (let same = ap g (eqb-true key pid (sym (at_is pid key) ∙ e)) in omega arith)
removed_by {V} g pid key value v rows more o false e later found = (let rest = later found in omega arith)

pub total_removed : {V : Type 0} (g : ℕ → ℕ) (pid : ℕ) (rows : List (ℕ × V)) (v : V) → lookup (is_at (nat_cmp pid)) rows ≡ Some v → total (λ (row : ℕ × V). g row.0) (remove_entry (is_at (nat_cmp pid)) rows) + g pid ≡ total (λ (row : ℕ × V). g row.0) rows
total_removed g pid [] v found = absurd (cc)
total_removed g pid ((key, value) ∷ rows) v found = removed_by g pid key value v rows (remove_entry (is_at (nat_cmp pid)) rows) (lookup (is_at (nat_cmp pid)) rows) (is_at (nat_cmp pid) key) refl (total_removed g pid rows v) found

kept_by : {V : Type 0} (p : ℕ → Bool) (key : ℕ) (value : V) (rows : List (ℕ × V)) (o : Option V) (b : Bool) → (o ≡ None → remove_entry p rows ≡ rows) → cond b (Some value) o ≡ None → cond b rows ((key, value) ∷ remove_entry p rows) ≡ (key, value) ∷ rows
kept_by {V} p key value rows o true later e = absurd (cc)
kept_by {V} p key value rows o false later e = ap (λ (more : List (ℕ × V)). (key, value) ∷ more) (later e)

pub removed_none : {V : Type 0} (p : ℕ → Bool) (rows : List (ℕ × V)) → lookup p rows ≡ None → remove_entry p rows ≡ rows
removed_none p [] e = refl
removed_none p ((key, value) ∷ rows) e = kept_by p key value rows (lookup p rows) (p key) (removed_none p rows) e

-- Processes that are counted

-- the processes of rows of which a test holds
abbrev pub pids_in : {X : Type 0} → (X → Bool) → (X → ℕ) → List X → List ℕ
pids_in test pid [] = []
pids_in test pid (row ∷ rows) = cond (test row) (pid row ∷ pids_in test pid rows) (pids_in test pid rows)

abbrev pub is_pid_of : ℕ → ℕ → ℕ
is_pid_of q other = one_if (other == q)

counted_by : (q pid n : ℕ) (rest : List ℕ) (b : Bool) → n ≡ total (is_pid_of q) rest → cond b (one_if (pid == q)) 0 + n ≡ total (is_pid_of q) (cond b (pid ∷ rest) rest)
counted_by q pid n rest true h = omega arith
counted_by q pid n rest false h = omega arith

pub counted_pids : {X : Type 0} (test : X → Bool) (pid : X → ℕ) (q : ℕ) (rows : List X) → total (λ (row : X). cond (test row) (one_if (pid row == q)) 0) rows ≡ total (is_pid_of q) (pids_in test pid rows)
counted_pids test pid q [] = refl
counted_pids test pid q (row ∷ rows) = counted_by q (pid row) (total (λ row. cond (test row) (one_if (pid row == q)) 0) rows) (pids_in test pid rows) (test row) (counted_pids test pid q rows)

length_by : (pid n : ℕ) (rest : List ℕ) (b : Bool) → n ≡ length rest → one_if b + n ≡ length (cond b (pid ∷ rest) rest)
length_by pid n rest true h = omega arith
length_by pid n rest false h = omega arith

pub length_pids : {X : Type 0} (test : X → Bool) (pid : X → ℕ) (rows : List X) → total (λ (row : X). one_if (test row)) rows ≡ length (pids_in test pid rows)
length_pids test pid [] = refl
length_pids test pid (row ∷ rows) = length_by (pid row) (total (λ row. one_if (test row)) rows) (pids_in test pid rows) (test row) (length_pids test pid rows)

there_by : (x y : ℕ) (ys : List ℕ) (b : Bool) → (y == x) ≡ b → 1 ≤ one_if b + total (is_pid_of x) ys → (1 ≤ total (is_pid_of x) ys → suc (length (less (λ z. z == x) ys)) ≡ length ys) → suc (length (cond b ys (y ∷ less (λ z. z == x) ys))) ≡ suc (length ys)
there_by x y ys true e h later = refl
there_by x y ys false e h later = ap suc (later (omega arith))

-- one that is counted can be taken out
one_shorter : (x : ℕ) (ys : List ℕ) → 1 ≤ total (is_pid_of x) ys → suc (length (less (λ y. y == x) ys)) ≡ length ys
one_shorter x [] h = absurd (omega arith)
one_shorter x (y ∷ ys) h = there_by x y ys (y == x) refl h (one_shorter x ys)

less_count_by : (q x y : ℕ) (ys more : List ℕ) (b : Bool) → (y == x) ≡ b → total (is_pid_of q) ys ≤ total (is_pid_of q) more + one_if (x == q) → one_if (y == q) + total (is_pid_of q) ys ≤ total (is_pid_of q) (cond b ys (y ∷ more)) + one_if (x == q)
less_count_by q x y ys more true e h = (let same = ap (λ (z : ℕ). one_if (z == q)) (eqb-true y x e) in omega arith)
less_count_by q x y ys more false e h = omega arith

less_count : (q x : ℕ) (ys : List ℕ) → total (is_pid_of q) ys ≤ total (is_pid_of q) (less (λ y. y == x) ys) + one_if (x == q)
less_count q x [] = omega arith
less_count q x (y ∷ ys) = less_count_by q x y ys (less (λ z. z == x) ys) (y == x) refl (less_count q x ys)

self_counted : (x : ℕ) → one_if (x == x) ≡ 1
self_counted x = ap one_if (eq-eqb x x refl)

-- where each is counted no more often than among the others there are no more of them
pub no_longer : (xs ys : List ℕ) → ((q : ℕ) → total (is_pid_of q) xs ≤ total (is_pid_of q) ys) → length xs ≤ length ys
no_longer [] ys h = omega arith
no_longer (x ∷ xs) ys h =
    let self = self_counted x in
    let found = h x in
    let shorter : suc (length (less (λ y. y == x) ys)) ≡ length ys = one_shorter x ys (omega arith) in
    let rest = no_longer xs (less (λ y. y == x) ys) (λ q. (let here = h q in let less_one = less_count q x ys in omega arith)) in
    omega arith
