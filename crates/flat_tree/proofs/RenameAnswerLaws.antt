-- What the server of a domain answers to a rename is what the one-kernel Unix does.
use Rattle.std.proofs.Common.{◌≡◌, ℕ, Bool, true, false, ◌&&◌, cond, not, List, [], ◌∷◌, ◌++◌, length, Option, Some, None, Result, Ok, Err, inl, inr, refl, sym, ap, ap₂, subst, ◌∙◌}
use Rattle.std.specs.Option.{is_some, option_map}
use Rattle.std.proofs.lemmas.Bool.{cases_Bool, eq-eqb}
use Rattle.sprite_ids.specs.declared.Errno.{Errno}
use Rattle.sprite_ids.specs.declared.Errno.TheVariants as errno
use Rattle.sprite_paths.specs.Path.{IsPrefix, is_prefix}
use Rattle.unix_calls.specs.declared.state.Node.{Node as UnixNode}
use Rattle.unix_calls.specs.declared.state.Node.TheVariants.{Directory, FileNode, DeviceNode}
use Rattle.unix_calls.specs.State.{Unix}
use Rattle.unix_calls.specs.Domains.{begins_domain, domain_of}
use Rattle.unix_calls.specs.Tree.{above, first_of, is_full, names_in as unix_names_in, node_at, same_path, walk}
use Rattle.unix_calls.specs.NameCalls.{a_directory, missing, refusal_if}
use Rattle.server_names.specs.declared.NameEnd.{NameEnd}
use Rattle.server_names.specs.declared.NameEnd.TheVariants.{Errno as Refused, Redirect, NoMemory}
use Rattle.server_names.specs.declared.Node.{Node}
use Rattle.server_names.specs.declared.Node.TheVariants.{Dir, File, Device}
use Rattle.server_names.specs.Names.{Tree, count, done, entry_in, found, freed, goes_on, is_at, parent, renamable, rename_answer, rename_target, renamed_found, roomy, walked}
use Rattle.tree_laws.specs.Trees.{AreNames, Parts, Ties, plain}
use Rattle.tree_laws.specs.Laws.{AnswersAs, GivesAs}
use Rattle.tree_laws.proofs.FindLaws.{finds_as_one}
use Rattle.tree_laws.proofs.MakeLaws.{free_by}
use Rattle.tree_laws.proofs.WalkLaws.{above_is, then_by, walks_as}
use Rattle.tree_laws.proofs.RenameLaws.{room_apart, done_as as target_done}
use Rattle.tree_laws.proofs.WellLaws.{first_none}
use Rattle.flat_tree.specs.Requests.{AsOne, Done, IsLonger, Renames, apart_found, are_apart, is_done, rename_at, row, unless}
use Rattle.flat_tree.proofs.AnswerLaws.{done_as, found_ends, leads_of}
use Rattle.flat_tree.proofs.ApartLaws.{Together, apart_domains, of_root, one_domain, prefix_is, prefix_tests, together}
use Rattle.flat_tree.proofs.EndsLaws.{Ends, ends_on, freed_ends, room_ends, walk_ends}
use Rattle.flat_tree.proofs.RootLaws.{IsThere, root_there, target_by}
use Rattle.flat_tree.proofs.WithinLaws.{AtRoot, Below, Within, within}

-- ---- what stands at the old path

pub record FindsSo (ties : Ties) (u : Unix) (root : Parts) (tree : Tree) (path : Parts) : Type 0 where
  pub answers : AnswersAs (found tree path) (first_of (walk u.nodes path) (missing (node_at u.nodes path)))
  pub gives : GivesAs (found tree path) (option_map (plain ties) (node_at u.nodes path))
  pub ends : Ends u.roots root path (found tree path)

pub finds_so : (ties : Ties) (u : Unix) (root : Parts) (tree : Tree) (path : Parts) → AreNames ties u.roots root u.nodes tree → IsPrefix root path → FindsSo ties u root tree path
finds_so ties u root tree path are below = by (within root path below)
  where
    at_root : IsThere root u.nodes tree → FindsSo ties u root tree root
    at_root there =
        record {
          answers = subst (λ r. AnswersAs r (first_of (walk u.nodes root) (missing (node_at u.nodes root)))) (sym there.found_is) (ap₂ (λ w o. first_of w (missing o)) there.way there.node);
          gives = subst (λ r. GivesAs r (option_map (plain ties) (node_at u.nodes root))) (sym there.found_is) (ap (option_map (plain ties)) there.node);
          ends = subst (Ends u.roots root root) (sym there.found_is) tt;
        }

    by : Within root path → FindsSo ties u root tree path
    by (AtRoot e) = subst (FindsSo ties u root tree) (sym e) (at_root (root_there ties u.roots root u.nodes tree are))
    by (Below d part under e) =
        let one = finds_as_one ties u root tree d part are under in
        subst (FindsSo ties u root tree) (sym e) (record { answers = one.answers; gives = one.gives; ends = found_ends ties u root tree d part are under })

-- ---- the new path

-- why no name can be made there for another one
abbrev pub target_refusal : Unix → Parts → Parts → Option Errno
target_refusal u old new =
    first_of (walk u.nodes new) (first_of (refusal_if (is_some (node_at u.nodes new)) errno.Exists)
    (refusal_if (not (same_path (above old) (above new)) && is_full u.nodes (above new)) errno.TooMany))

room_free : (roots : List Parts) (root path : Parts) (same : Bool) (tree : Tree) (d : Parts) → Ends roots root path (cond same (Ok tt) (roomy tree d))
room_free roots root path true tree d = tt
room_free roots root path false tree d = room_ends roots root path tree d

record TargetsSo (u : Unix) (root : Parts) (tree : Tree) (old new : Parts) : Type 0 where
  answers : AnswersAs (rename_target tree old new) (target_refusal u old new)
  ends : Ends u.roots root new (rename_target tree old new)

targets_so : (ties : Ties) (u : Unix) (root : Parts) (tree : Tree) (old new : Parts) → AreNames ties u.roots root u.nodes tree → IsPrefix root new → TargetsSo u root tree old new
targets_so ties u root tree old new are below = by (within root new below)
  where
    at_root : IsThere root u.nodes tree → TargetsSo u root tree old root
    at_root there =
        record {
          answers = subst (λ r. AnswersAs r (target_refusal u old root)) (sym (there.target_is old)) (ap₂ (λ w o. first_of w (first_of (refusal_if (is_some o) errno.Exists) (refusal_if (not (same_path (above old) (above root)) && is_full u.nodes (above root)) errno.TooMany))) there.way there.node);
          ends = subst (Ends u.roots root root) (sym (there.target_is old)) tt;
        }

    lower : (d : Parts) (part : List ℕ) → IsPrefix root d → TargetsSo u root tree old (d ++ part ∷ [])
    lower d part under =
        let path = d ++ part ∷ [] in
        let same = is_at (parent old) d in
        let rest = cond same (Ok tt) (roomy tree d) in
        let room = refusal_if (not same && is_full u.nodes d) errno.TooMany in
        record {
          answers =
              subst (λ (k : Parts). AnswersAs (rename_target tree old path) (first_of (walk u.nodes path) (first_of (refusal_if (is_some (node_at u.nodes path)) errno.Exists) (refusal_if (not (same_path (above old) k) && is_full u.nodes k) errno.TooMany)))) (sym (above_is d part))
              (subst (λ r. AnswersAs r (first_of (walk u.nodes path) (first_of (refusal_if (is_some (node_at u.nodes path)) errno.Exists) room))) (sym (target_by tree old d part))
              (then_by u.roots root d (walked tree [] d) (walk u.nodes path) (goes_on (freed (entry_in tree d part)) rest) (first_of (refusal_if (is_some (node_at u.nodes path)) errno.Exists) room) (walks_as ties u.roots root u.nodes tree are d part under)
              (λ own. subst (λ e. AnswersAs (goes_on (freed e) rest) (first_of (refusal_if (is_some (node_at u.nodes path)) errno.Exists) room)) (sym (are.names d part under own))
              (free_by ties u.roots path (node_at u.nodes path) rest room (room_apart same (count tree d) (length (unix_names_in u.nodes d)) (are.counts d under own))))));
          ends =
              subst (Ends u.roots root path) (sym (target_by tree old d part))
              (ends_on u.roots root path (walked tree [] d) (goes_on (freed (entry_in tree d part)) rest) (walk_ends ties u.roots root u.nodes tree are d part under)
              (λ ok. freed_ends u.roots root path (entry_in tree d part) rest (leads_of ties u.roots root u.nodes tree d part are under ok) (room_free u.roots root path same tree d)));
        }

    by : Within root new → TargetsSo u root tree old new
    by (AtRoot e) = subst (TargetsSo u root tree old) (sym e) (at_root (root_there ties u.roots root u.nodes tree are))
    by (Below d part under e) = subst (TargetsSo u root tree old) (sym e) (lower d part under)

-- ---- both

pub first_kept : (w m more : Option Errno) (why : Errno) → first_of w m ≡ Some why → first_of w (first_of m more) ≡ Some why
first_kept None m more why h = ap (λ o. first_of o more) h
first_kept (Some other) m more why h = h

-- a file or device has the new name where it can be made
renames_by : (ties : Ties) (r : Result Node NameEnd) (w : Option Errno) (o : Option UnixNode) (target : Result (Unit {0}) NameEnd) (rest : Option Errno) → AnswersAs r (first_of w (missing o)) → GivesAs r (option_map (plain ties) o) → AnswersAs target rest
    → AnswersAs (done (renamed_found r target)) (first_of w (first_of (missing o) (first_of (a_directory o) rest)))
renames_by ties (Err (Refused why)) w o target rest answers gives next = first_kept w (missing o) (first_of (a_directory o) rest) why answers
renames_by ties (Err (Redirect to)) w o target rest answers gives next = tt
renames_by ties (Err NoMemory) w o target rest answers gives next = tt
renames_by ties (Ok node) w None target rest answers gives next = absurd (cc)
renames_by ties (Ok node) w (Some x) target rest answers gives next =
    subst (λ v. AnswersAs (done (renamed_found (Ok node) target)) (first_of v (first_of (a_directory (Some x)) rest))) (sym (first_none w None answers).0)
    (subst (λ n. AnswersAs (done (goes_on (renamable n) (goes_on target (Ok n)))) (first_of (a_directory (Some x)) rest)) (some_node (plain ties x) node gives) (kind x))
  where
    some_node : (a b : Node) → Some a ≡ Some b → a ≡ b
    some_node a b h = cc

    kind : (x : UnixNode) → AnswersAs (done (goes_on (renamable (plain ties x)) (goes_on target (Ok (plain ties x))))) (first_of (a_directory (Some x)) rest)
    kind Directory = refl
    kind (FileNode name) = target_done target (File (ties.file name)) rest next
    kind (DeviceNode place) = target_done target (Device (ties.device place)) rest next

renamed_ends : (roots : List Parts) (root path : Parts) (r : Result Node NameEnd) (target : Result (Unit {0}) NameEnd) → Ends roots root path r → Ends roots root path target → Ends roots root path (done (renamed_found r target))
renamed_ends roots root path (Err (Refused why)) target one two = tt
renamed_ends roots root path (Err (Redirect to)) target one two = one
renamed_ends roots root path (Err NoMemory) target one two = one
renamed_ends roots root path (Ok Dir) target one two = tt
renamed_ends roots root path (Ok (File file)) target one two = by target two
  where
    by : (t : Result (Unit {0}) NameEnd) → Ends roots root path t → Ends roots root path (done (goes_on {A = Node} t (Ok (File file))))
    by (Ok tt) h = tt
    by (Err (Refused why)) h = tt
    by (Err (Redirect to)) h = h
    by (Err NoMemory) h = h
renamed_ends roots root path (Ok (Device device)) target one two = by target two
  where
    by : (t : Result (Unit {0}) NameEnd) → Ends roots root path t → Ends roots root path (done (goes_on {A = Node} t (Ok (Device device))))
    by (Ok tt) h = tt
    by (Err (Refused why)) h = tt
    by (Err (Redirect to)) h = h
    by (Err NoMemory) h = h

-- a domain on the way of one of two paths of one domain is on that of the other
longer_both : (roots : List Parts) (root old new to : Parts) → Together old new roots → IsLonger roots root new to → IsLonger roots root old to
longer_both roots root old new to both h =
    let same = of_root (λ (k : Parts). is_prefix k old ≡ is_prefix k new) roots to h.begins both in
    record { begins = h.begins; below = h.below; longer = h.longer; on_way = prefix_is to old (same ∙ prefix_tests to new h.on_way) }

ends_both : {A : Type 0} (roots : List Parts) (root old new : Parts) (r : Result A NameEnd) → Together old new roots → Ends roots root new r → Ends roots root old r
ends_both roots root old new (Ok x) both h = tt
ends_both roots root old new (Err (Refused why)) both h = tt
ends_both roots root old new (Err (Redirect to)) both h = longer_both roots root old new to both h
ends_both roots root old new (Err NoMemory) both h = h

-- the old and the new path are of one domain
pub new_below : (roots : List Parts) (root old new : Parts) → begins_domain roots root ≡ true → Together old new roots → IsPrefix root old → IsPrefix root new
new_below roots root old new begins both below =
    prefix_is root new (sym (of_root (λ (k : Parts). is_prefix k old ≡ is_prefix k new) roots root begins both) ∙ prefix_tests root old below)

apart_ends : (roots : List Parts) (root path : Parts) (r : Result Node NameEnd) → Ends roots root path r → AsOne roots root path (is_done (apart_found r)) (Err errno.XDev)
apart_ends roots root path (Ok node) h = refl
apart_ends roots root path (Err (Refused why)) h = refl
apart_ends roots root path (Err (Redirect to)) h = h
apart_ends roots root path (Err NoMemory) h = h

pub renames : (ties : Ties) (u : Unix) (root : Parts) (tree : Tree) (old new : Parts) → AreNames ties u.roots root u.nodes tree → begins_domain u.roots [] ≡ true → begins_domain u.roots root ≡ true → IsPrefix root old
    → AsOne u.roots root old (is_done (rename_at u.roots tree old new)) (row ties u (Renames old new))
renames ties u root tree old new are whole begins below =
    elim (cases_Bool (are_apart u.roots old new)) [
      | inl apart ↦
          subst (λ b. AsOne u.roots root old (is_done (cond b (apart_found (found tree old)) (rename_answer tree old new))) (row ties u (Renames old new))) (sym apart)
          (subst (λ b. AsOne u.roots root old (is_done (apart_found (found tree old))) (unless (first_of (refusal_if (not b) errno.XDev) rest) Done)) (sym (apart_domains u.roots old new whole apart))
          (apart_ends u.roots root old (found tree old) so.ends))
      | inr one ↦
          let both = together old new u.roots one in
          let target = targets_so ties u root tree old new are (new_below u.roots root old new begins both below) in
          subst (λ b. AsOne u.roots root old (is_done (cond b (apart_found (found tree old)) (rename_answer tree old new))) (row ties u (Renames old new))) (sym one)
          (subst (λ b. AsOne u.roots root old (is_done (rename_answer tree old new)) (unless (first_of (refusal_if (not b) errno.XDev) rest) Done)) (sym (eq-eqb (domain_of u.roots old) (domain_of u.roots new) (one_domain old new u.roots both)))
          (done_as u.roots root old (rename_answer tree old new) rest
          (renames_by ties (found tree old) (walk u.nodes old) (node_at u.nodes old) (rename_target tree old new) (target_refusal u old new) so.answers so.gives target.answers)
          (renamed_ends u.roots root old (found tree old) (rename_target tree old new) so.ends (ends_both u.roots root old new (rename_target tree old new) both target.ends))))
    ]
  where
    so : FindsSo ties u root tree old
    so = finds_so ties u root tree old are below

    rest : Option Errno
    rest = first_of (walk u.nodes old) (first_of (missing (node_at u.nodes old)) (first_of (a_directory (node_at u.nodes old)) (target_refusal u old new)))
