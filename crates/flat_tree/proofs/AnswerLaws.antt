-- What the server of a domain answers is what the one-kernel Unix does.
use Rattle.std.proofs.Common.{◌≡◌, ◌==◌, ℕ, Bool, true, false, ◌&&◌, cond, nat_lt, List, [], ◌∷◌, ◌++◌, length, Option, Some, None, Result, Ok, Err, inl, inr, refl, sym, ap, ap₂, subst, ◌∙◌, arith, length-append, append-nil}
use Rattle.std.specs.Option.{is_some, option_map}
use Rattle.std.proofs.lemmas.Bool.{cases_Bool, cond-false, true≢false}
use Rattle.sprite_ids.specs.declared.Errno.{Errno}
use Rattle.sprite_ids.specs.declared.Errno.TheVariants as errno
use Rattle.sprite_ids.proofs.ListLaws.{some_is}
use Rattle.sprite_paths.specs.Path.{IsPrefix}
use Rattle.unix_calls.specs.declared.state.Node.{Node as UnixNode}
use Rattle.unix_calls.specs.declared.state.Node.TheVariants.{Directory}
use Rattle.unix_calls.specs.declared.state.Named.{Named as NamedNode}
use Rattle.unix_calls.specs.State.{Unix}
use Rattle.unix_calls.specs.Domains.{begins_domain}
use Rattle.unix_calls.specs.Tree.{above, first_of, walk_from, is_full, names_in as unix_names_in, node_at, same_path, walk}
use Rattle.unix_calls.specs.NameCalls.{a_directory, chdir_refusal, listing, missing, new_refusal, no_directory, refusal_if, rmdir_refusal, unlink_refusal}
use Rattle.server_names.specs.declared.NameEnd.{NameEnd}
use Rattle.server_names.specs.declared.NameEnd.TheVariants.{Errno as Refused, Redirect, NoMemory}
use Rattle.server_names.specs.declared.Node.{Node}
use Rattle.server_names.specs.Names.{IsSound, Tree, count, count_answer, count_found, done, entry_in, found, freed, goes_on, make_answer, named, removable_found, remove_answer, roomy, walked}
use Rattle.server_names.proofs.FoundLaws.{goes_parts, named_is, path_is, path_itself}
use Rattle.tree_laws.proofs.GoneLaws.{named_told}
use Rattle.tree_laws.specs.Trees.{AreNames, IsOwn, Parts, Ties, plain}
use Rattle.tree_laws.specs.Laws.{AnswersAs, GivesAs}
use Rattle.tree_laws.proofs.FindLaws.{counts_as_one, finds_as_one, found_by}
use Rattle.tree_laws.proofs.MakeLaws.{makes_as_one}
use Rattle.tree_laws.proofs.RemoveLaws.{removes_as_one, removes_by}
use Rattle.tree_laws.proofs.WalkLaws.{WalksAs, walks_as}
use Rattle.flat_tree.specs.Listings.{AreAscending}
use Rattle.flat_tree.specs.Requests.{AsOne, Counts, Done, Finds, Given, Is, Lists, ListsTo, Makes, Many, Removes, Text, given_by, is_done, remove_at, remove_refusal, row, stands, Trees, unless}
use Rattle.flat_tree.specs.Runs.{AreOneTree}
use Rattle.flat_tree.proofs.EndsLaws.{Ends, LeadsOn, count_ends, ends_on, entry_leads, freed_ends, named_ends, removable_ends, room_ends, walk_ends}
use Rattle.flat_tree.proofs.ListLaws.{lists_as_one}
use Rattle.flat_tree.proofs.RootLaws.{IsThere, make_by, root_there, some_part}
use Rattle.flat_tree.proofs.WithinLaws.{AtRoot, Below, Within, within}

-- ---- an answer in its three parts

pub given_as : {A : Type 0} (what : A → Given) (roots : List Parts) (root path : Parts) (r : Result A NameEnd) (refusal : Option Errno) (value : Given) → AnswersAs r refusal → ((x : A) → r ≡ Ok x → what x ≡ value) → Ends roots root path r
    → AsOne roots root path (given_by what r) (unless refusal value)
given_as what roots root path (Ok x) refusal value answers gives ends = ap (λ o. unless o value) answers ∙ ap Ok (sym (gives x refl))
given_as what roots root path (Err (Refused why)) refusal value answers gives ends = ap (λ o. unless o value) answers
given_as what roots root path (Err (Redirect to)) refusal value answers gives ends = ends
given_as what roots root path (Err NoMemory) refusal value answers gives ends = ends

pub done_as : {A : Type 0} (roots : List Parts) (root path : Parts) (r : Result A NameEnd) (refusal : Option Errno) → AnswersAs r refusal → Ends roots root path r → AsOne roots root path (is_done r) (unless refusal Done)
done_as roots root path r refusal answers ends = given_as (λ value. Done) roots root path r refusal Done answers (λ x e. refl) ends

-- what is given where a law says so
gives_is : {A : Type 0} (r : Result A NameEnd) (wanted : Option A) (x : A) → GivesAs r wanted → r ≡ Ok x → wanted ≡ Some x
gives_is r wanted x h e = subst (λ s. GivesAs s wanted) e h

-- ---- what a path names

stands_plain : (ties : Ties) (o : Option UnixNode) (node : Node) → option_map (plain ties) o ≡ Some node → node ≡ plain ties (stands o)
stands_plain ties None node h = absurd (cc)
stands_plain ties (Some x) node h = cc

-- a walk that goes on ends in the domain
pub own_of : (ties : Ties) (roots : List Parts) (root : Parts) (nodes : List NamedNode) (tree : Tree) (d : Parts) → AreNames ties roots root nodes tree → IsPrefix root d → walked tree [] d ≡ Ok tt → IsOwn roots root d
own_of ties roots root nodes tree d are below ok =
    (subst (λ r. WalksAs roots root d r (walk_from nodes [] (d ++ [] ∷ []))) ok (walks_as ties roots root nodes tree are d [] below)).1

-- and there a remote link leads on
pub leads_of : (ties : Ties) (roots : List Parts) (root : Parts) (nodes : List NamedNode) (tree : Tree) (d : Parts) (part : List ℕ) → AreNames ties roots root nodes tree → IsPrefix root d → walked tree [] d ≡ Ok tt → LeadsOn roots root (d ++ part ∷ []) (entry_in tree d part)
leads_of ties roots root nodes tree d part are below ok = entry_leads ties roots root nodes tree d part are below (own_of ties roots root nodes tree d are below ok)

pub found_ends : (ties : Ties) (u : Unix) (root : Parts) (tree : Tree) (d : Parts) (part : List ℕ) → AreNames ties u.roots root u.nodes tree → IsPrefix root d → Ends u.roots root (d ++ part ∷ []) (found tree (d ++ part ∷ []))
found_ends ties u root tree d part are below =
    subst (Ends u.roots root (d ++ part ∷ [])) (sym (found_by tree d part))
    (ends_on u.roots root (d ++ part ∷ []) (walked tree [] d) (named (entry_in tree d part)) (walk_ends ties u.roots root u.nodes tree are d part below)
    (λ ok. named_ends u.roots root (d ++ part ∷ []) (entry_in tree d part) (leads_of ties u.roots root u.nodes tree d part are below ok)))

finds_below : (ties : Ties) (u : Unix) (root : Parts) (tree : Tree) (d : Parts) (part : List ℕ) → AreNames ties u.roots root u.nodes tree → IsPrefix root d → AsOne u.roots root (d ++ part ∷ []) (given_by Is (found tree (d ++ part ∷ []))) (row ties u (Finds (d ++ part ∷ [])))
finds_below ties u root tree d part are below =
    let path = d ++ part ∷ [] in
    let there = node_at u.nodes path in
    let one = finds_as_one ties u root tree d part are below in
    given_as Is u.roots root path (found tree path) (first_of (walk u.nodes path) (missing there)) (Is (plain ties (stands there))) one.answers
    (λ x e. ap Is (stands_plain ties there x (gives_is (found tree path) (option_map (plain ties) there) x one.gives e))) (found_ends ties u root tree d part are below)

finds_root : (ties : Ties) (u : Unix) (root : Parts) (tree : Tree) → IsThere root u.nodes tree → AsOne u.roots root root (given_by Is (found tree root)) (row ties u (Finds root))
finds_root ties u root tree there =
    subst (λ r. AsOne u.roots root root (given_by Is r) (row ties u (Finds root))) (sym there.found_is)
    (ap₂ (λ w o. unless (first_of w (missing o)) (Is (plain ties (stands o)))) there.way there.node)

pub finds : (ties : Ties) (u : Unix) (root : Parts) (tree : Tree) (path : Parts) → AreNames ties u.roots root u.nodes tree → IsPrefix root path → AsOne u.roots root path (given_by Is (found tree path)) (row ties u (Finds path))
finds ties u root tree path are below = by (within root path below)
  where
    by : Within root path → AsOne u.roots root path (given_by Is (found tree path)) (row ties u (Finds path))
    by (AtRoot e) = subst (λ (k : Parts). AsOne u.roots root k (given_by Is (found tree k)) (row ties u (Finds k))) (sym e) (finds_root ties u root tree (root_there ties u.roots root u.nodes tree are))
    by (Below d part under e) = subst (λ (k : Parts). AsOne u.roots root k (given_by Is (found tree k)) (row ties u (Finds k))) (sym e) (finds_below ties u root tree d part are under)

-- ---- how many names a directory has, and which

counted_ends : (ties : Ties) (u : Unix) (root : Parts) (tree : Tree) (d : Parts) (part : List ℕ) → AreNames ties u.roots root u.nodes tree → IsPrefix root d → Ends u.roots root (d ++ part ∷ []) (count_answer tree (d ++ part ∷ []))
counted_ends ties u root tree d part are below =
    let path = d ++ part ∷ [] in
    let whole : count_answer tree path ≡ goes_on (walked tree [] d) (count_found tree path (named (entry_in tree d part))) = ap (count_found tree path) (found_by tree d part) ∙ count_on (walked tree [] d) (named (entry_in tree d part)) in
    subst (Ends u.roots root path) (sym whole)
    (ends_on u.roots root path (walked tree [] d) (count_found tree path (named (entry_in tree d part))) (walk_ends ties u.roots root u.nodes tree are d part below)
    (λ ok. count_ends u.roots root path tree (entry_in tree d part) (leads_of ties u.roots root u.nodes tree d part are below ok)))
  where
    count_on : (r : Result (Unit {0}) NameEnd) (next : Result Node NameEnd) → count_found tree (d ++ part ∷ []) (goes_on r next) ≡ goes_on r (count_found tree (d ++ part ∷ []) next)
    count_on (Ok tt) next = refl
    count_on (Err end) next = refl

-- what a count says: the refusals of `chdir`, how many, and where it leads on
record CountsSo (u : Unix) (root : Parts) (tree : Tree) (path : Parts) : Type 0 where
  answers : AnswersAs (count_answer tree path) (chdir_refusal u path)
  gives : GivesAs (count_answer tree path) (Some (length (unix_names_in u.nodes path)))
  ends : Ends u.roots root path (count_answer tree path)

counts_so : (ties : Ties) (u : Unix) (root : Parts) (tree : Tree) (path : Parts) → AreNames ties u.roots root u.nodes tree → IsPrefix root path → CountsSo u root tree path
counts_so ties u root tree path are below = by (within root path below)
  where
    at_root : IsThere root u.nodes tree → CountsSo u root tree root
    at_root there =
        let answer : count_answer tree root ≡ Ok (count tree root) = ap (count_found tree root) there.found_is in
        record {
          answers = subst (λ r. AnswersAs r (chdir_refusal u root)) (sym answer) (ap₂ (λ w o. first_of w (first_of (missing o) (no_directory o))) there.way there.node);
          gives = subst (λ r. GivesAs r (Some (length (unix_names_in u.nodes root)))) (sym answer) (ap Some (sym (are.counts root (record { rest = []; whole = sym (append-nil root) }) (λ other is prefix. prefix))));
          ends = subst (Ends u.roots root root) (sym answer) tt;
        }

    by : Within root path → CountsSo u root tree path
    by (AtRoot e) = subst (CountsSo u root tree) (sym e) (at_root (root_there ties u.roots root u.nodes tree are))
    by (Below d part under e) =
        let one = counts_as_one ties u root tree d part are under in
        subst (CountsSo u root tree) (sym e) (record { answers = one.answers; gives = one.gives; ends = counted_ends ties u root tree d part are under })

pub counts : (ties : Ties) (u : Unix) (root : Parts) (tree : Tree) (path : Parts) → AreNames ties u.roots root u.nodes tree → IsPrefix root path → AsOne u.roots root path (given_by Many (count_answer tree path)) (row ties u (Counts path))
counts ties u root tree path are below =
    let so = counts_so ties u root tree path are below in
    let many = length (unix_names_in u.nodes path) in
    given_as Many u.roots root path (count_answer tree path) (chdir_refusal u path) (Many many) so.answers (λ x e. ap Many (sym (some_is many x (gives_is (count_answer tree path) (Some many) x so.gives e)))) so.ends

ended : {A : Type 0} (r : Result A NameEnd) (end : NameEnd) → done r ≡ Err end → r ≡ Err end
ended (Ok x) end h = absurd (cc)
ended (Err other) end h = cc

pub lists : (ties : Ties) (u : Unix) (root : Parts) (tree : Tree) (path : Parts) (answer : Result Given NameEnd) → AreNames ties u.roots root u.nodes tree → IsSound tree → AreAscending u.nodes → IsPrefix root path → ListsTo tree path answer → AsOne u.roots root path answer (row ties u (Lists path))
lists ties u root tree path answer are sound up below = by answer
  where
    so : CountsSo u root tree path
    so = counts_so ties u root tree path are below

    by : (answer : Result Given NameEnd) → ListsTo tree path answer → AsOne u.roots root path answer (row ties u (Lists path))
    by (Ok (Text text)) h =
        let none : chdir_refusal u path ≡ None = subst (λ r. AnswersAs r (chdir_refusal u path)) h.1.0 so.answers in
        ap₂ (λ o t. unless o (Text t)) none (sym (lists_as_one ties u root tree path h.0 text are sound up below h.1.0 h.1.1))
    by (Ok (Is node)) h = absurd h
    by (Ok (Many many)) h = absurd h
    by (Ok Done) h = absurd h
    by (Err (Refused why)) h = ap (λ o. unless o (Text (listing u path))) (subst (λ r. AnswersAs r (chdir_refusal u path)) (ended (count_answer tree path) (Refused why) h) so.answers)
    by (Err (Redirect to)) h = subst (Ends u.roots root path) (ended (count_answer tree path) (Redirect to) h) so.ends
    by (Err NoMemory) h = subst (Ends u.roots root path) (ended (count_answer tree path) NoMemory h) so.ends

-- ---- a name more

makes_below : (ties : Ties) (u : Unix) (root : Parts) (tree : Tree) (d : Parts) (part : List ℕ) → AreNames ties u.roots root u.nodes tree → IsPrefix root d → AsOne u.roots root (d ++ part ∷ []) (is_done (make_answer tree (d ++ part ∷ []))) (unless (new_refusal u (d ++ part ∷ [])) Done)
makes_below ties u root tree d part are below =
    let path = d ++ part ∷ [] in
    done_as u.roots root path (make_answer tree path) (new_refusal u path) (makes_as_one ties u root tree d part are below)
    (subst (Ends u.roots root path) (sym (make_by tree d part))
    (ends_on u.roots root path (walked tree [] d) (goes_on (freed (entry_in tree d part)) (roomy tree d)) (walk_ends ties u.roots root u.nodes tree are d part below)
    (λ ok. freed_ends u.roots root path (entry_in tree d part) (roomy tree d) (leads_of ties u.roots root u.nodes tree d part are below ok) (room_ends u.roots root path tree d))))

pub makes : (ties : Ties) (u : Unix) (root : Parts) (tree : Tree) (path : Parts) (node : UnixNode) → AreNames ties u.roots root u.nodes tree → IsPrefix root path → AsOne u.roots root path (is_done (make_answer tree path)) (row ties u (Makes path node))
makes ties u root tree path node are below = by (within root path below)
  where
    at_root : IsThere root u.nodes tree → AsOne u.roots root root (is_done (make_answer tree root)) (unless (new_refusal u root) Done)
    at_root there =
        subst (λ r. AsOne u.roots root root (is_done r) (unless (new_refusal u root) Done)) (sym there.made_is)
        (ap₂ (λ w o. unless (first_of w (first_of (refusal_if (is_some o) errno.Exists) (refusal_if (is_full u.nodes (above root)) errno.TooMany))) Done) there.way there.node)

    by : Within root path → AsOne u.roots root path (is_done (make_answer tree path)) (unless (new_refusal u path) Done)
    by (AtRoot e) = subst (λ (k : Parts). AsOne u.roots root k (is_done (make_answer tree k)) (unless (new_refusal u k) Done)) (sym e) (at_root (root_there ties u.roots root u.nodes tree are))
    by (Below d part under e) = subst (λ (k : Parts). AsOne u.roots root k (is_done (make_answer tree k)) (unless (new_refusal u k) Done)) (sym e) (makes_below ties u root tree d part are under)

-- ---- a name less

-- a path below a domain's root isn't its root
pub below_apart : (root d : Parts) (part : List ℕ) → IsPrefix root d → same_path (d ++ part ∷ []) root ≡ false
below_apart root d part below =
    elim (cases_Bool (same_path (d ++ part ∷ []) root)) [
      | inl same ↦
          absurd (
          let a : length (d ++ part ∷ []) ≡ length root = ap length (path_is (d ++ part ∷ []) root same) in
          let b = length-append d (part ∷ []) in
          let c : length d ≡ length (root ++ below.rest) = ap length below.whole in
          let e = length-append root below.rest in
          omega (arith, a, b, c, e))
      | inr off ↦ off
    ]

removed_ends : (ties : Ties) (u : Unix) (root : Parts) (tree : Tree) (d : Parts) (part : List ℕ) (directory : Bool) → AreNames ties u.roots root u.nodes tree → IsPrefix root d → Ends u.roots root (d ++ part ∷ []) (remove_answer tree (d ++ part ∷ []) directory)
removed_ends ties u root tree d part directory are below =
    let path = d ++ part ∷ [] in
    subst (Ends u.roots root path) (sym (removes_by tree d part directory))
    (ends_on u.roots root path (walked tree [] d) (removable_found tree path directory (named (entry_in tree d part))) (walk_ends ties u.roots root u.nodes tree are d part below)
    (λ ok. removable_ends u.roots root path tree directory (entry_in tree d part) (leads_of ties u.roots root u.nodes tree d part are below ok)))

-- where another domain hangs there the walk is sent on to it
linked_away : (ties : Ties) (u : Unix) (root : Parts) (tree : Tree) (d : Parts) (part : List ℕ) (wanted : Result Given Errno) → AreNames ties u.roots root u.nodes tree → IsPrefix root d → begins_domain u.roots (d ++ part ∷ []) ≡ true → walk u.nodes (d ++ part ∷ []) ≡ None → node_at u.nodes (d ++ part ∷ []) ≡ Some Directory
    → AsOne u.roots root (d ++ part ∷ []) (is_done (remove_answer tree (d ++ part ∷ []) true)) wanted
linked_away ties u root tree d part wanted are below begins way there =
    subst (λ r. AsOne u.roots root (d ++ part ∷ []) (is_done r) wanted) (sym (cond-false (length (d ++ part ∷ []) == 0) _ _ (some_part d part)))
    (by (found tree (d ++ part ∷ [])) refl (finds_as_one ties u root tree d part are below).answers (found_ends ties u root tree d part are below))
  where
    by : (r : Result Node NameEnd) → found tree (d ++ part ∷ []) ≡ r → AnswersAs r (first_of (walk u.nodes (d ++ part ∷ [])) (missing (node_at u.nodes (d ++ part ∷ [])))) → Ends u.roots root (d ++ part ∷ []) r → AsOne u.roots root (d ++ part ∷ []) (is_done (removable_found tree (d ++ part ∷ []) true r)) wanted
    by (Ok node) is answers ends =
        let parts = goes_parts (walked tree [] d) (named (entry_in tree d part)) node (sym (found_by tree d part) ∙ is) in
        let own = own_of ties u.roots root u.nodes tree d are below parts.0 in
        let plain_there = named_told ties u.roots (d ++ part ∷ []) node (node_at u.nodes (d ++ part ∷ [])) (sym (are.names d part below own) ∙ named_is (entry_in tree d part) node parts.1) in
        absurd (true≢false (sym begins ∙ plain_there.1.1))
    by (Err (Refused why)) is answers ends = absurd (let some : ◌≡◌ {A = Option Errno} None (Some why) = sym (ap₂ (λ w o. first_of w (missing o)) way there) ∙ answers in cc)
    by (Err (Redirect to)) is answers ends = ends
    by (Err NoMemory) is answers ends = ends

pub removes : (ties : Ties) (u : Unix) (root : Parts) (trees : Trees) (path : Parts) (directory : Bool) → AreOneTree ties u trees → begins_domain u.roots root ≡ true → IsPrefix root path → AsOne u.roots root path (is_done (remove_at root (trees root) path directory)) (row ties u (Removes path directory))
removes ties u root trees path directory one begins below = by (within root path below) directory
  where
    tree : Tree
    tree = trees root

    are : AreNames ties u.roots root u.nodes (trees root)
    are = one.names root begins

    at_root : (directory : Bool) → IsThere root u.nodes tree → AsOne u.roots root root (is_done (remove_at root tree root directory)) (unless (remove_refusal u root directory) Done)
    at_root true there =
        subst (λ b. AsOne u.roots root root (is_done (cond b (Err (Refused errno.Busy)) (remove_answer tree root true))) (unless (rmdir_refusal u root) Done)) (sym (path_itself root))
        (ap (λ b. unless (first_of (refusal_if b errno.Busy) (first_of (walk u.nodes root) (first_of (missing (node_at u.nodes root)) (first_of (no_directory (node_at u.nodes root)) (refusal_if (nat_lt 0 (length (unix_names_in u.nodes root))) errno.NotEmpty))))) Done) begins)
    at_root false there =
        subst (λ r. AsOne u.roots root root (is_done r) (unless (unlink_refusal u root) Done)) (sym there.removed_is)
        (ap₂ (λ w o. unless (first_of w (first_of (missing o) (a_directory o))) Done) there.way there.node)

    lower : (d : Parts) (part : List ℕ) → IsPrefix root d → (directory : Bool) → AsOne u.roots root (d ++ part ∷ []) (is_done (remove_answer tree (d ++ part ∷ []) directory)) (unless (remove_refusal u (d ++ part ∷ []) directory) Done)
    lower d part under false = done_as u.roots root (d ++ part ∷ []) (remove_answer tree (d ++ part ∷ []) false) (unlink_refusal u (d ++ part ∷ [])) (removes_as_one ties u root tree d part are under).other (removed_ends ties u root tree d part false are under)
    lower d part under true =
        elim (cases_Bool (begins_domain u.roots (d ++ part ∷ []))) [
          | inl other ↦
              let there = root_there ties u.roots (d ++ part ∷ []) u.nodes (trees (d ++ part ∷ [])) (one.names (d ++ part ∷ []) other) in
              linked_away ties u root tree d part (unless (rmdir_refusal u (d ++ part ∷ [])) Done) are under other there.way there.node
          | inr none ↦
              done_as u.roots root (d ++ part ∷ []) (remove_answer tree (d ++ part ∷ []) true) (rmdir_refusal u (d ++ part ∷ [])) ((removes_as_one ties u root tree d part are under).directory none) (removed_ends ties u root tree d part true are under)
        ]

    flag : (a b : Bool) → b ≡ false → (a && b) ≡ false
    flag true b h = h
    flag false b h = refl

    by : Within root path → (directory : Bool) → AsOne u.roots root path (is_done (remove_at root tree path directory)) (unless (remove_refusal u path directory) Done)
    by (AtRoot e) directory = subst (λ (k : Parts). AsOne u.roots root k (is_done (remove_at root tree k directory)) (unless (remove_refusal u k directory) Done)) (sym e) (at_root directory (root_there ties u.roots root u.nodes tree are))
    by (Below d part under e) directory =
        subst (λ (k : Parts). AsOne u.roots root k (is_done (remove_at root tree k directory)) (unless (remove_refusal u k directory) Done)) (sym e)
        (subst (λ b. AsOne u.roots root (d ++ part ∷ []) (is_done (cond b (Err (Refused errno.Busy)) (remove_answer tree (d ++ part ∷ []) directory))) (unless (remove_refusal u (d ++ part ∷ []) directory) Done)) (sym (flag directory (same_path (d ++ part ∷ []) root) (below_apart root d part under)))
        (lower d part under directory))
