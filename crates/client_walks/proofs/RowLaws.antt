-- Rows of processes: what is so of each, when one is set, put in or taken out.
use Rattle.std.proofs.Common.{◌≡◌, ◌++◌, ℕ, ◌==◌, Bool, true, false, ◌||◌, not, cond, List, [], ◌∷◌, Option, Some, None, option_map, is_some, refl, sym, ap, ◌∙◌, subst, zero, suc, slice_get}
use Rattle.std.proofs.lemmas.Bool.{and_parts, eqb-true, not-true, and_from}
use Rattle.std.specs.BTreeMap.{insert_entry, is_at}
use Rattle.std.specs.List.{AllByRecursion, find, list_all, list_any}
use Rattle.std.specs.Map.{lookup, remove_entry, set_value}
use Rattle.std.specs.Ordering.{match_ordering, nat_cmp}
use Rattle.std.specs.declared.cmp.Ordering.{Ordering}
use Rattle.std.specs.declared.cmp.Ordering.TheVariants.{Less, Equal, Greater}
use Rattle.sprite_ids.specs.Lists.{EachOnce, less}
use Rattle.sprite_ids.proofs.OnceLaws.{or_false}
use Rattle.kernel_steps.specs.Rows.{first_under, is_under}
use Rattle.client_homes.specs.declared.client.Leaving.{Leaving}
use Rattle.client_homes.specs.declared.process.Proc.{Proc}
use Rattle.client_homes.specs.Procs.{is_pid}
use Rattle.client_facts.specs.FileFacts.{same_process}
use Rattle.client_facts.proofs.BootLaws.{put_none, apart_by}
use Rattle.client_facts.proofs.PlaceLaws.{at_is, listed_here, remove_none, removed_none, same_any}
use Rattle.stream_table.proofs.OwnerLaws.{eq_turned}

-- whether the process is among those that are here
abbrev pub is_in : ℕ → List (ℕ × Proc) → Bool
is_in pid rows = is_some (lookup (is_at (nat_cmp pid)) rows)

-- whether a process that leaves isn't
abbrev pub is_out : List (ℕ × Proc) → ℕ × Leaving → Bool
is_out procs row = not (is_in row.0 procs)

-- Set

each_set_by : (B : ℕ → Type 0) (e : ℕ × Proc) (w : Proc) (es more : List (ℕ × Proc)) (b : Bool) → AllByRecursion (λ (row : ℕ × Proc). B row.0) (e ∷ es) → AllByRecursion (λ (row : ℕ × Proc). B row.0) more → AllByRecursion (λ (row : ℕ × Proc). B row.0) (cond b ((e.0, w) ∷ es) (e ∷ more))
each_set_by B e w es more true h k = h
each_set_by B e w es more false h k = (h.0, k)

pub each_set : (B : ℕ → Type 0) (p : ℕ → Bool) (rows : List (ℕ × Proc)) (w : Proc) → AllByRecursion (λ (row : ℕ × Proc). B row.0) rows → AllByRecursion (λ (row : ℕ × Proc). B row.0) (set_value p rows w)
each_set B p [] w h = tt
each_set B p (e ∷ es) w h = each_set_by B e w es (set_value p es w) (p e.0) h (each_set B p es w h.1)

pub in_set : (pid : ℕ) (p : ℕ → Bool) (rows : List (ℕ × Proc)) (w : Proc) → is_in pid (set_value p rows w) ≡ is_in pid rows
in_set pid p rows w = listed_here pid (set_value p rows w) ∙ same_any (λ key. key == pid) p rows w ∙ sym (listed_here pid rows)

-- Put in

each_put_by : (B : ℕ → Type 0) (k : ℕ) (v : Proc) (e : ℕ × Proc) (es more : List (ℕ × Proc)) (o : Ordering) → B k → AllByRecursion (λ (row : ℕ × Proc). B row.0) (e ∷ es) → AllByRecursion (λ (row : ℕ × Proc). B row.0) more → AllByRecursion (λ (row : ℕ × Proc). B row.0) (match_ordering o ((k, v) ∷ e ∷ es) ((e.0, v) ∷ es) (e ∷ more))
each_put_by B k v e es more Less new h rest = (new, h)
each_put_by B k v e es more Equal new h rest = h
each_put_by B k v e es more Greater new h rest = (h.0, rest)

pub each_put : (B : ℕ → Type 0) (k : ℕ) (v : Proc) (rows : List (ℕ × Proc)) → B k → AllByRecursion (λ (row : ℕ × Proc). B row.0) rows → AllByRecursion (λ (row : ℕ × Proc). B row.0) (insert_entry nat_cmp rows k v)
each_put B k v [] new h = (new, tt)
each_put B k v (e ∷ es) new h = each_put_by B k v e es (insert_entry nat_cmp es k v) (nat_cmp k e.0) new h (each_put B k v es new h.1)

-- Taken out

each_removed_by : (B : ℕ → Type 0) (e : ℕ × Proc) (es more : List (ℕ × Proc)) (b : Bool) → AllByRecursion (λ (row : ℕ × Proc). B row.0) (e ∷ es) → AllByRecursion (λ (row : ℕ × Proc). B row.0) more → AllByRecursion (λ (row : ℕ × Proc). B row.0) (cond b es (e ∷ more))
each_removed_by B e es more true h k = h.1
each_removed_by B e es more false h k = (h.0, k)

pub each_removed : (B : ℕ → Type 0) (p : ℕ → Bool) (rows : List (ℕ × Proc)) → AllByRecursion (λ (row : ℕ × Proc). B row.0) rows → AllByRecursion (λ (row : ℕ × Proc). B row.0) (remove_entry p rows)
each_removed B p [] h = tt
each_removed B p (e ∷ es) h = each_removed_by B e es (remove_entry p es) (p e.0) h (each_removed B p es h.1)

pub in_removed : (pid : ℕ) (p : ℕ → Bool) (rows : List (ℕ × Proc)) → is_in pid rows ≡ false → is_in pid (remove_entry p rows) ≡ false
in_removed pid p rows h = listed_here pid (remove_entry p rows) ∙ remove_none (λ key. key == pid) p rows (sym (listed_here pid rows) ∙ h)

-- it isn't there then
pub none_removed : (pid : ℕ) (rows : List (ℕ × Proc)) → EachOnce same_process rows → is_in pid (remove_entry (is_at (nat_cmp pid)) rows) ≡ false
none_removed pid rows h = listed_here pid (remove_entry (is_at (nat_cmp pid)) rows) ∙ removed_none pid rows h

-- where none is found, nothing is taken out
removed_same_by : (e : ℕ × Proc) (es more : List (ℕ × Proc)) (o : Option Proc) (b : Bool) → (o ≡ None → more ≡ es) → cond b (Some e.1) o ≡ None → cond b es (e ∷ more) ≡ e ∷ es
removed_same_by e es more o true later h = absurd (cc)
removed_same_by e es more o false later h = ap (λ (rows : List (ℕ × Proc)). e ∷ rows) (later h)

pub removed_same : (p : ℕ → Bool) (rows : List (ℕ × Proc)) → lookup p rows ≡ None → remove_entry p rows ≡ rows
removed_same p [] h = refl
removed_same p (e ∷ es) h = removed_same_by e es (remove_entry p es) (lookup p es) (p e.0) (removed_same p es) h

less_same_by : (e : ℕ × Leaving) (es more : List (ℕ × Leaving)) (o : Option (ℕ × Leaving)) (b : Bool) → (option_map (λ (row : ℕ × Leaving). row.1) o ≡ None → more ≡ es) → option_map (λ (row : ℕ × Leaving). row.1) (cond b (Some e) o) ≡ None → cond b es (e ∷ more) ≡ e ∷ es
less_same_by e es more o true later h = absurd (cc)
less_same_by e es more o false later h = ap (λ (rows : List (ℕ × Leaving)). e ∷ rows) (later h)

pub less_same : (pid : ℕ) (rows : List (ℕ × Leaving)) → first_under is_pid pid rows ≡ None → less (is_under is_pid pid) rows ≡ rows
less_same pid [] h = refl
less_same pid (e ∷ es) h = less_same_by e es (less (is_under is_pid pid) es) (find (is_under is_pid pid) es) (e.0 == pid) (less_same pid es) h

pub each_less : {X : Type 0} (F : X → Type 0) (p : X → Bool) (xs : List X) → AllByRecursion F xs → AllByRecursion F (less p xs)
each_less F p [] h = tt
each_less F p (x ∷ xs) h = elim (p x) as (λ b. AllByRecursion F (cond b xs (x ∷ less p xs))) [ true ↦ h.1 | false ↦ (h.0, each_less F p xs h.1) ]

-- what is there stays where more comes behind
pub got_before : {X : Type 0} (xs ys : List X) (i : ℕ) (x : X) → slice_get xs i ≡ Some x → slice_get (xs ++ ys) i ≡ Some x
got_before [] ys i x e = absurd (cc)
got_before (y ∷ xs) ys zero x e = e
got_before (y ∷ xs) ys (suc i) x e = got_before xs ys i x e

-- Found

found_here_by : (B : ℕ → Type 0) (pid : ℕ) (e : ℕ × Proc) (o : Option Proc) (proc : Proc) (b : Bool) → (e.0 == pid) ≡ b → B e.0 → (o ≡ Some proc → B pid) → cond b (Some e.1) o ≡ Some proc → B pid
found_here_by B pid e o proc true k here later h = subst B (eqb-true e.0 pid k) here
found_here_by B pid e o proc false k here later h = later h

pub found_here : (B : ℕ → Type 0) (pid : ℕ) (rows : List (ℕ × Proc)) (proc : Proc) → AllByRecursion (λ (row : ℕ × Proc). B row.0) rows → lookup (is_at (nat_cmp pid)) rows ≡ Some proc → B pid
found_here B pid [] proc h e = absurd (cc)
found_here B pid (row ∷ rows) proc h e = found_here_by B pid row (lookup (is_at (nat_cmp pid)) rows) proc (is_at (nat_cmp pid) row.0) (sym (at_is pid row.0)) h.0 (found_here B pid rows proc h.1) e

found_leaving_by : (B : ℕ → Type 0) (pid : ℕ) (e : ℕ × Leaving) (o : Option (ℕ × Leaving)) (found : Leaving) (b : Bool) → (e.0 == pid) ≡ b → B e.0 → (option_map (λ (row : ℕ × Leaving). row.1) o ≡ Some found → B pid) → option_map (λ (row : ℕ × Leaving). row.1) (cond b (Some e) o) ≡ Some found → B pid
found_leaving_by B pid e o found true k here later h = subst B (eqb-true e.0 pid k) here
found_leaving_by B pid e o found false k here later h = later h

pub found_leaving : (B : ℕ → Type 0) (pid : ℕ) (rows : List (ℕ × Leaving)) (found : Leaving) → AllByRecursion (λ (row : ℕ × Leaving). B row.0) rows → first_under is_pid pid rows ≡ Some found → B pid
found_leaving B pid [] found h e = absurd (cc)
found_leaving B pid (row ∷ rows) found h e = found_leaving_by B pid row (find (is_under is_pid pid) rows) found (row.0 == pid) refl h.0 (found_leaving B pid rows found h.1) e

-- Apart

pub each_out : (procs : List (ℕ × Proc)) (rows : List (ℕ × Leaving)) → list_all (is_out procs) rows ≡ true → AllByRecursion (λ (row : ℕ × Leaving). is_in row.0 procs ≡ false) rows
each_out procs [] h = tt
each_out procs (row ∷ rows) h = let parts = and_parts (is_out procs row) (list_all (is_out procs) rows) h in (not-true (is_in row.0 procs) parts.0, each_out procs rows parts.1)

pub apart_fewer : (procs more : List (ℕ × Proc)) (rows : List (ℕ × Leaving)) → ((pid : ℕ) → is_in pid procs ≡ false → is_in pid more ≡ false) → list_all (is_out procs) rows ≡ true → list_all (is_out more) rows ≡ true
apart_fewer procs more [] fewer h = refl
apart_fewer procs more (row ∷ rows) fewer h =
    let parts = and_parts (is_out procs row) (list_all (is_out procs) rows) h in
    and_from (is_out more row) (list_all (is_out more) rows) (ap not (fewer row.0 (not-true (is_in row.0 procs) parts.0))) (apart_fewer procs more rows fewer parts.1)

pub apart_put : (k : ℕ) (v : Proc) (procs : List (ℕ × Proc)) (rows : List (ℕ × Leaving)) → list_any (is_under is_pid k) rows ≡ false → list_all (is_out procs) rows ≡ true → list_all (is_out (insert_entry nat_cmp procs k v)) rows ≡ true
apart_put k v procs [] none h = refl
apart_put k v procs (row ∷ rows) none h =
    let more = insert_entry nat_cmp procs k v in
    let apart = or_false (row.0 == k) (list_any (is_under is_pid k) rows) none in
    let parts = and_parts (is_out procs row) (list_all (is_out procs) rows) h in
    let before = sym (listed_here row.0 procs) ∙ not-true (is_in row.0 procs) parts.0 in
    let away : is_in row.0 more ≡ false = listed_here row.0 more ∙ put_none row.0 k v procs (eq_turned k row.0 ∙ apart.0) before in
    and_from (is_out more row) (list_all (is_out more) rows) (ap not away) (apart_put k v procs rows apart.1 parts.1)

-- who is here doesn't leave
pub none_leaves : (pid : ℕ) (procs : List (ℕ × Proc)) (rows : List (ℕ × Leaving)) → is_in pid procs ≡ true → list_all (is_out procs) rows ≡ true → list_any (is_under is_pid pid) rows ≡ false
none_leaves pid procs [] here h = refl
none_leaves pid procs (row ∷ rows) here h =
    let parts = and_parts (is_out procs row) (list_all (is_out procs) rows) h in
    ap (λ b. b || list_any (is_under is_pid pid) rows) (apart_by row.0 pid (row.0 == pid) refl (λ e. absurd (let same = sym (ap (λ (key : ℕ). not (is_in key procs)) e) ∙ parts.0 in let not_here = ap not here in cc))) ∙ none_leaves pid procs rows here parts.1
