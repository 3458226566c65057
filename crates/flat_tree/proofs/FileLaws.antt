-- As a cluster begins: the files of its lines, each in the domain in which it lies.
use Rattle.std.proofs.Common.{◌≡◌, ◌+◌, ◌≤◌, ℕ, Bool, true, false, ◌&&◌, ◌||◌, not, cond, nat_lt, List, [], ◌∷◌, ◌++◌, length, slice_get, Option, Some, None, Result, Ok, Err, inl, inr, refl, sym, ap, ap₂, subst, ◌∙◌, arith, length-append, append_assoc, suc, zero}
use Rattle.std.specs.Option.{is_some}
use Rattle.std.specs.List.{AllByRecursion}
use Rattle.std.proofs.lemmas.Bool.{cases_Bool, ltb-true, ltb-false, true≢false}
use Rattle.sprite_ids.specs.declared.Errno.{Errno}
use Rattle.sprite_ids.specs.declared.Errno.TheVariants as errno
use Rattle.sprite_paths.specs.Path.{IsPrefix, is_prefix}
use Rattle.unix_calls.specs.declared.FileLine.{FileLine}
use Rattle.unix_calls.specs.declared.state.FileName.TheVariants.{Boot}
use Rattle.unix_calls.specs.declared.state.Node.{Node as UnixNode}
use Rattle.unix_calls.specs.declared.state.Node.TheVariants.{Directory, FileNode}
use Rattle.unix_calls.specs.declared.state.Named.{Named as NamedNode}
use Rattle.unix_calls.specs.State.{Unix}
use Rattle.unix_calls.specs.Boot.{Filed, boot_of, bytes_at, filed, with_directories, with_directory, with_file_line, with_parts, with_roots}
use Rattle.unix_calls.specs.Domains.{HasUpTo, IsLongest, begins_domain, domain_of, roots_of}
use Rattle.unix_calls.specs.NameCalls.{new_refusal, refusal_if}
use Rattle.unix_calls.specs.Tree.{above, first_of, is_full, node_at, same_path, walk, with_name}
use Rattle.unix_calls.proofs.DomainLaws.{domain_is_longest}
use Rattle.server_names.specs.declared.NameEnd.{NameEnd}
use Rattle.server_names.specs.declared.Node.TheVariants.{Dir, File}
use Rattle.server_names.specs.declared.Entry.TheVariants.{Node as Named}
use Rattle.server_names.specs.Names.{IsSound, Tree, and_then, booted, entry_made, made, make_answer, on_way, with_way}
use Rattle.server_names.proofs.FoundLaws.{path_is, path_itself}
use Rattle.tree_laws.specs.Trees.{AreNames, IsOwn, Parts, Ties, plain, told}
use Rattle.tree_laws.proofs.WalkLaws.{above_is}
use Rattle.server_kernel.specs.Boot.{is_longest, links_of}
use Rattle.flat_tree.specs.Opening.{lies_in, linked, with_file, with_files}
use Rattle.flat_tree.specs.Requests.{AsOne, Done, Trees, unless, with_tree, is_done}
use Rattle.flat_tree.specs.Runs.{AreOneTree, OpenedAsOne}
use Rattle.flat_tree.proofs.AnswerLaws.{makes}
use Rattle.flat_tree.proofs.ApartLaws.{prefix_is, prefix_tests, prefix_through, shorter, of_root}
use Rattle.flat_tree.proofs.BesideLaws.{prefix_both}
use Rattle.flat_tree.proofs.DoneLaws.{made_one}
use Rattle.flat_tree.proofs.LookLaws.{New, Old, Passes, boots, first_half, no_boot, passes, roots_order}
use Rattle.flat_tree.proofs.StartLaws.{all_of, one_of, starts, starts_sound}
use Rattle.tree_laws.proofs.FindLaws.{further}
use Rattle.tree_laws.proofs.WellLaws.{ends}
use Rattle.sprite_ids.proofs.ListLaws.{some_is}

-- the state with these names
abbrev pub at_nodes : List NamedNode → Unix → Unix
at_nodes nodes u = record u { nodes = nodes }

-- the same trees under another name
pub one_like : (ties : Ties) (u : Unix) (trees others : Trees) → AreOneTree ties u trees → ((k : Parts) → begins_domain u.roots k ≡ true → trees k ≡ others k) → AreOneTree ties u others
one_like ties u trees others one same =
    record {
      names = λ k is. subst (AreNames ties u.roots k u.nodes) (same k is) (one.names k is);
      sound = λ k is. subst IsSound (same k is) (one.sound k is);
      ascending = one.ascending;
      whole = one.whole;
    }

-- ---- a directory on the way to a file

own_up : (roots : List Parts) (root here path : Parts) → IsOwn roots root path → IsPrefix here path → IsOwn roots root here
own_up roots root here path own pre other is front = own other is (prefix_through other here path front pre)

none_refused : (w : Option Errno) (b : Bool) (full : Option Errno) → unless (first_of w (first_of (refusal_if b errno.Exists) full)) Done ≡ Ok Done → b ≡ false
none_refused (Some why) b full h = absurd (cc)
none_refused None true full h = absurd (cc)
none_refused None false full h = refl

told_stands : (ties : Ties) (roots : List Parts) (path : Parts) (o : Option UnixNode) → is_some (told ties roots path o) ≡ is_some o
told_stands ties roots path None = refl
told_stands ties roots path (Some node) = refl

-- the one-kernel Unix has no name where one is made
free_there : (ties : Ties) (u : Unix) (root : Parts) (tree : Tree) (path : Parts) (node : UnixNode) → AreNames ties u.roots root u.nodes tree → IsPrefix root path → make_answer tree path ≡ Ok tt → is_some (node_at u.nodes path) ≡ false
free_there ties u root tree path node are below ok =
    none_refused (walk u.nodes path) (is_some (node_at u.nodes path)) (refusal_if (is_full u.nodes (above path)) errno.TooMany)
    (subst (λ r. AsOne u.roots root path (is_done r) (unless (new_refusal u path) Done)) ok (makes ties u root tree path node are below))

pass_one : (ties : Ties) (u : Unix) (root : Parts) (trees : Trees) (nodes : List NamedNode) (here : Parts) (part : List ℕ) (path : Parts) (t : Tree) → AreOneTree ties (at_nodes nodes u) trees → begins_domain u.roots root ≡ true
    → IsOwn u.roots root path → IsPrefix root path → IsPrefix (here ++ part ∷ []) path → Passes (trees root) here part t → AreOneTree ties (at_nodes (with_directory (here ++ part ∷ []) nodes) u) (with_tree root t trees)
pass_one ties u root trees nodes here part path t one begins own below pre passing = by (nat_lt (length root) (length (here ++ part ∷ []))) refl passing
  where
    are : AreNames ties u.roots root nodes (trees root)
    are = one.names root begins

    above_root : nat_lt (length root) (length (here ++ part ∷ [])) ≡ false → IsPrefix (here ++ part ∷ []) root
    above_root few = shorter (here ++ part ∷ []) root path pre below (ltb-false (length root) (length (here ++ part ∷ [])) few)

    below_root : nat_lt (length root) (length (here ++ part ∷ [])) ≡ true → IsPrefix root here
    below_root more =
        let m = ltb-true (length root) (length (here ++ part ∷ [])) more in
        let n = length-append here (part ∷ []) in
        shorter root here path below (record { rest = part ∷ pre.rest; whole = pre.whole ∙ append_assoc here (part ∷ []) pre.rest }) (omega (arith, m, n))

    same : (k : Parts) → trees k ≡ with_tree root (trees root) trees k
    same k = at_root (same_path k root) refl
      where
        at_root : (b : Bool) → same_path k root ≡ b → trees k ≡ cond b (trees root) (trees k)
        at_root true e = ap trees (path_is k root e)
        at_root false e = refl

    stays : is_some (node_at nodes (here ++ part ∷ [])) ≡ true → trees root ≡ t → AreOneTree ties (at_nodes (with_directory (here ++ part ∷ []) nodes) u) (with_tree root t trees)
    stays some is =
        subst (λ b. AreOneTree ties (at_nodes (cond b nodes (with_name (record { path = here ++ part ∷ []; node = Directory }) nodes)) u) (with_tree root t trees)) (sym some)
        (subst (λ (k : Tree). AreOneTree ties (at_nodes nodes u) (with_tree root k trees)) is (one_like ties (at_nodes nodes u) trees (with_tree root (trees root) trees) one (λ k begun. same k)))

    by : (b : Bool) → nat_lt (length root) (length (here ++ part ∷ [])) ≡ b → Passes (trees root) here part t → AreOneTree ties (at_nodes (with_directory (here ++ part ∷ []) nodes) u) (with_tree root t trees)
    by false few (New ok is none) = absurd (let two : Some (Named Dir) ≡ None = sym (are.way here part (above_root few)).0 ∙ none in cc)
    by false few (Old is some) = stays (ap (λ o. is_some o) (are.way here part (above_root few)).1) is
    by true more (New ok is none) =
        let up = below_root more in
        let under : IsPrefix root (here ++ part ∷ []) = further root here part up in
        let absent = free_there ties (at_nodes nodes u) root (trees root) (here ++ part ∷ []) Directory are under ok in
        subst (λ b. AreOneTree ties (at_nodes (cond b nodes (with_name (record { path = here ++ part ∷ []; node = Directory }) nodes)) u) (with_tree root t trees)) (sym absent)
        (subst (λ (k : Tree). AreOneTree ties (at_nodes (with_name (record { path = here ++ part ∷ []; node = Directory }) nodes) u) (with_tree root k trees)) is
        (made_one ties (at_nodes nodes u) root trees (here ++ part ∷ []) Directory one begins under ok))
    by true more (Old is some) =
        let up = below_root more in
        let mine = own_up u.roots root here path own (record { rest = part ∷ pre.rest; whole = pre.whole ∙ append_assoc here (part ∷ []) pre.rest }) in
        stays (sym (told_stands ties u.roots (here ++ part ∷ []) (node_at nodes (here ++ part ∷ []))) ∙ ap (λ o. is_some o) (sym (are.names here part up mine)) ∙ some) is

-- the names put there twice
twice : (root : Parts) (a b : Tree) (trees : Trees) (k : Parts) → with_tree root b (with_tree root a trees) k ≡ with_tree root b trees k
twice root a b trees k = by (same_path k root)
  where
    by : (c : Bool) → cond c b (cond c a (trees k)) ≡ cond c b (trees k)
    by true = refl
    by false = refl

here_is : (root : Parts) (t : Tree) (trees : Trees) → with_tree root t trees root ≡ t
here_is root t trees = ap (λ b. cond b t (trees root)) (path_itself root)

way_one : (ties : Ties) (u : Unix) (root path : Parts) → begins_domain u.roots root ≡ true → IsOwn u.roots root path → IsPrefix root path
    → (rest here : Parts) (trees : Trees) (nodes : List NamedNode) (next : Tree) → AreOneTree ties (at_nodes nodes u) trees → IsPrefix (here ++ rest) path → with_way (trees root) here rest ≡ Ok next → AreOneTree ties (at_nodes (with_parts here rest nodes) u) (with_tree root next trees)
way_one ties u root path begins own below [] here trees nodes next one pre ok =
    one_like ties (at_nodes nodes u) trees (with_tree root next trees) one (λ k begun. same k (same_path k root) refl)
  where
    is : trees root ≡ next
    is = cc

    same : (k : Parts) (b : Bool) → same_path k root ≡ b → trees k ≡ cond b next (trees k)
    same k true e = ap trees (path_is k root e) ∙ is
    same k false e = refl
way_one ties u root path begins own below (part ∷ rest) here trees nodes next one pre ok =
    let half = first_half (on_way (trees root) (entry_made (trees root) (here ++ part ∷ []) (Named Dir))) (λ t. with_way t (here ++ part ∷ []) rest) next ok in
    let whole : IsPrefix ((here ++ part ∷ []) ++ rest) path = subst (λ (k : Parts). IsPrefix k path) (sym (append_assoc here (part ∷ []) rest)) pre in
    let first : IsPrefix (here ++ part ∷ []) path = prefix_through (here ++ part ∷ []) ((here ++ part ∷ []) ++ rest) path (record { rest = rest; whole = refl }) whole in
    let passed = pass_one ties u root trees nodes here part path half.0 one begins own below first (passes (trees root) here part half.0 half.1.0) in
    let on = way_one ties u root path begins own below rest (here ++ part ∷ []) (with_tree root half.0 trees) (with_directory (here ++ part ∷ []) nodes) next passed whole (ap (λ (t : Tree). with_way t (here ++ part ∷ []) rest) (here_is root half.0 trees) ∙ half.1.1) in
    one_like ties (at_nodes (with_parts here (part ∷ rest) nodes) u) (with_tree root next (with_tree root half.0 trees)) (with_tree root next trees) on (λ k begun. twice root half.0 next trees k)

-- ---- a file

file_at : (ties : Ties) (u : Unix) (root : Parts) (trees : Trees) (nodes : List NamedNode) (front : Parts) (last : List ℕ) (node : UnixNode) (next : Tree) → AreOneTree ties (at_nodes nodes u) trees → begins_domain u.roots root ≡ true → IsOwn u.roots root (front ++ last ∷ []) → IsPrefix root (front ++ last ∷ [])
    → booted (trees root) (front ++ last ∷ []) (Named (plain ties node)) ≡ Ok next → AreOneTree ties (at_nodes (with_name (record { path = front ++ last ∷ []; node = node }) (with_parts [] front nodes)) u) (with_tree root next trees)
file_at ties u root trees nodes front last node next one begins own below ok =
    let path = front ++ last ∷ [] in
    let b = boots (trees root) front last (Named (plain ties node)) next ok in
    let way = way_one ties u root path begins own below front [] trees nodes b.between one (record { rest = last ∷ []; whole = refl }) b.way in
    let between = with_tree root b.between trees in
    let is = here_is root b.between trees in
    let made_is = made_one ties (at_nodes (with_parts [] front nodes) u) root between path node way begins below (ap (λ (t : Tree). make_answer t path) is ∙ b.ok) in
    let new : made (between root) path (plain ties node) ≡ next = ap (λ (t : Tree). made t path (plain ties node)) is ∙ b.is in
    let nodes_then = with_name (record { path = path; node = node }) (with_parts [] front nodes) in
    one_like ties (at_nodes nodes_then u) (with_tree root next between) (with_tree root next trees)
    (subst (λ (t : Tree). AreOneTree ties (at_nodes nodes_then u) (with_tree root t between)) new made_is)
    (λ k begun. twice root b.between next trees k)

file_one : (ties : Ties) (u : Unix) (root : Parts) (trees : Trees) (nodes : List NamedNode) (path : Parts) (node : UnixNode) (next : Tree) → AreOneTree ties (at_nodes nodes u) trees → begins_domain u.roots root ≡ true → IsOwn u.roots root path → IsPrefix root path
    → booted (trees root) path (Named (plain ties node)) ≡ Ok next → AreOneTree ties (at_nodes (with_name (record { path = path; node = node }) (with_directories (above path) nodes)) u) (with_tree root next trees)
file_one ties u root trees nodes [] node next one begins own below ok = absurd (no_boot (trees root) (Named (plain ties node)) next ok)
file_one ties u root trees nodes (first ∷ more) node next one begins own below ok =
    let end = ends first more in
    let path = end.front ++ end.last ∷ [] in
    subst (λ (k : Parts). AreOneTree ties (at_nodes (with_name (record { path = k; node = node }) (with_directories (above k) nodes)) u) (with_tree root next trees)) (sym end.whole)
    (subst (λ (d : Parts). AreOneTree ties (at_nodes (with_name (record { path = path; node = node }) (with_parts [] d nodes)) u) (with_tree root next trees)) (sym (above_is end.front end.last))
    (file_at ties u root trees nodes end.front end.last node next one begins (subst (IsOwn u.roots root) end.whole own) (subst (IsPrefix root) end.whole below) (ap (λ (k : Parts). booted (trees root) k (Named (plain ties node))) (sym end.whole) ∙ ok)))

-- ---- in which domain a path lies

record Lies (roots : List Parts) (path : Parts) : Type 0 where
  root : Parts
  begins : begins_domain roots root ≡ true
  below : IsPrefix root path
  own : IsOwn roots root path
  here : lies_in roots root path ≡ true
  others : (k : Parts) → begins_domain roots k ≡ true → same_path k root ≡ false → lies_in roots k path ≡ false

begins_got : (roots : List Parts) (place : ℕ) (root : Parts) → slice_get roots place ≡ Some root → begins_domain roots root ≡ true
begins_got [] place root h = absurd (cc)
begins_got (r ∷ roots) zero root h =
    let e = some_is r root h in ap (λ (k : Parts). same_path root k || begins_domain roots root) e ∙ ap (λ b. b || begins_domain roots root) (path_itself root)
begins_got (r ∷ roots) (suc place) root h = ap (λ b. same_path root r || b) (begins_got roots place root h) ∙ either (same_path root r)
  where
    either : (a : Bool) → (a || true) ≡ true
    either true = refl
    either false = refl

up_to : (roots : List Parts) (path : Parts) (n : ℕ) (k : Parts) → AllByRecursion (HasUpTo n path) roots → begins_domain roots k ≡ true → IsPrefix k path → length k ≤ n
up_to roots path n k all begins = of_root (HasUpTo n path) roots k begins all

lies_parts : (roots : List Parts) (k path : Parts) → lies_in roots k path ≡ true → IsPrefix k path × (is_longest roots k path ≡ true)
lies_parts roots k path h = by (is_prefix k path) refl h
  where
    by : (b : Bool) → is_prefix k path ≡ b → (b && is_longest roots k path) ≡ true → IsPrefix k path × (is_longest roots k path ≡ true)
    by true is h = (prefix_is k path is, h)
    by false is h = absurd (true≢false (sym h))

longest_has : (roots : List Parts) (k path other : Parts) → is_longest roots k path ≡ true → begins_domain roots other ≡ true → IsPrefix other path → IsPrefix other k
longest_has roots k path other all begins pre =
    prefix_is other k (by (is_prefix other path) (prefix_tests other path pre) (one_of (λ (o : Parts). not (is_prefix o path) || is_prefix o k) roots other all begins))
  where
    by : (b : Bool) → b ≡ true → (not b || is_prefix other k) ≡ true → is_prefix other k ≡ true
    by true e h = h
    by false e h = absurd (true≢false (sym e))

lies : (roots : List Parts) (path : Parts) → begins_domain roots [] ≡ true → Lies roots path
lies roots path whole = by (domain_is_longest roots path whole)
  where
    by : IsLongest roots path (domain_of roots path) → Lies roots path
    by long =
        let begins = begins_got roots (domain_of roots path) long.root long.there in
        let own : IsOwn roots long.root path = λ other is pre. shorter other long.root path pre long.prefix (up_to roots path (length long.root) other long.others is pre) in
        let all : is_longest roots long.root path ≡ true = all_of (λ (other : Parts). not (is_prefix other path) || is_prefix other long.root) roots (λ other is. test other (is_prefix other path) refl (own other is)) in
        record {
          root = long.root;
          begins = begins;
          below = long.prefix;
          own = own;
          here = ap₂ (λ a b. a && b) (prefix_tests long.root path long.prefix) all;
          others = λ k is apart. elim (cases_Bool (lies_in roots k path)) [
            | inl lying ↦
                let two = lies_parts roots k path lying in
                absurd (true≢false (sym (subst (λ (l : Parts). same_path k l ≡ true) (prefix_both k long.root (own k is two.0) (longest_has roots k path long.root two.1 begins long.prefix)) (path_itself k)) ∙ apart))
            | inr off ↦ off
          ];
        }
      where
        test : (other : Parts) (b : Bool) → is_prefix other path ≡ b → (IsPrefix other path → IsPrefix other long.root) → (not b || is_prefix other long.root) ≡ true
        test other true is h = prefix_tests other long.root (h (prefix_is other path is))
        test other false is h = refl

-- ---- all lines

lines_one : (ties : Ties) (u : Unix) → begins_domain u.roots [] ≡ true → (all : List FileLine) (lines : List FileLine) (place : ℕ) (f : Filed) (trees final : Trees) → AreOneTree ties (at_nodes f.nodes u) trees
    → ((k : Parts) → begins_domain u.roots k ≡ true → with_files ties u.roots k place lines (trees k) ≡ Ok (final k)) → AreOneTree ties (at_nodes (filed all place lines f).nodes u) final
lines_one ties u whole all [] place f trees final one ok = one_like ties (at_nodes f.nodes u) trees final one (λ k begun. let h = ok k begun in cc)
lines_one ties u whole all (line ∷ lines) place f trees final one ok = by line.append refl (λ g others now later. lines_one ties u whole all lines (place + 1) g others final now later)
  where
    skipped : (k : Parts) (t : Tree) → line.append ≡ true → with_file ties u.roots k place line t ≡ Ok t
    skipped k t is = ap (λ b. cond b (Ok t) (cond (lies_in u.roots k line.path) (booted t line.path (Named (File (ties.file (Boot place))))) (Ok t))) is

    rest_of : (k : Parts) (t : Tree) → begins_domain u.roots k ≡ true → with_file ties u.roots k place line (trees k) ≡ Ok t → with_files ties u.roots k (place + 1) lines t ≡ Ok (final k)
    rest_of k t begun is = sym (ap (λ r. and_then r (λ next. with_files ties u.roots k (place + 1) lines next)) is) ∙ ok k begun

    there : Lies u.roots line.path
    there = lies u.roots line.path whole

    made_by : (k : Parts) (t : Tree) (b : Bool) → line.append ≡ false → lies_in u.roots k line.path ≡ b → with_file ties u.roots k place line t ≡ cond b (booted t line.path (Named (File (ties.file (Boot place))))) (Ok t)
    made_by k t b is lying = ap₂ (λ a c. cond a (Ok t) (cond c (booted t line.path (Named (File (ties.file (Boot place))))) (Ok t))) is lying

    by : (b : Bool) → line.append ≡ b
        → ((g : Filed) (others : Trees) → AreOneTree ties (at_nodes g.nodes u) others → ((k : Parts) → begins_domain u.roots k ≡ true → with_files ties u.roots k (place + 1) lines (others k) ≡ Ok (final k)) → AreOneTree ties (at_nodes (filed all (place + 1) lines g).nodes u) final)
        → AreOneTree ties (at_nodes (filed all (place + 1) lines (cond b f (with_file_line place line.path (bytes_at all line.path) f))).nodes u) final
    by true is more = more f trees one (λ k begun. rest_of k (trees k) begun (skipped k (trees k) is))
    by false is more =
        let root = there.root in
        let half = first_half (with_file ties u.roots root place line (trees root)) (λ t. with_files ties u.roots root (place + 1) lines t) (final root) (ok root there.begins) in
        let booted_is : booted (trees root) line.path (Named (File (ties.file (Boot place)))) ≡ Ok half.0 = sym (made_by root (trees root) true is there.here) ∙ half.1.0 in
        more (with_file_line place line.path (bytes_at all line.path) f) (with_tree root half.0 trees)
        (file_one ties u root trees f.nodes line.path (FileNode (Boot place)) half.0 one there.begins there.own there.below booted_is)
        (λ k begun. each k begun half.0 half.1.1 (same_path k root) refl)
      where
        each : (k : Parts) → begins_domain u.roots k ≡ true → (t : Tree) → with_files ties u.roots there.root (place + 1) lines t ≡ Ok (final there.root) → (b : Bool) → same_path k there.root ≡ b → with_files ties u.roots k (place + 1) lines (cond b t (trees k)) ≡ Ok (final k)
        each k begun t after true same = subst (λ (l : Parts). with_files ties u.roots l (place + 1) lines t ≡ Ok (final l)) (sym (path_is k there.root same)) after
        each k begun t after false apart = rest_of k (trees k) begun (made_by k (trees k) false is (there.others k begun apart))

-- ---- the start

abbrev or_bare : Result Tree NameEnd → Tree
or_bare (Ok tree) = tree
or_bare (Err end) = []

bare_is : (r : Result Tree NameEnd) (t : Tree) → r ≡ Ok t → r ≡ Ok (or_bare r)
bare_is (Ok tree) t h = refl
bare_is (Err end) t h = absurd (cc)

pub opened_as_one : OpenedAsOne
opened_as_one ties c trees whole opened =
    let roots = roots_of c.kernels in
    let first : Trees = λ root. or_bare (linked root (links_of roots root)) in
    let half = λ (root : Parts) (begins : begins_domain roots root ≡ true). first_half (linked root (links_of roots root)) (λ tree. with_files ties roots root 0 c.files tree) (trees root) (opened root begins) in
    let linked_is : (root : Parts) → begins_domain roots root ≡ true → linked root (links_of roots root) ≡ Ok (first root) = λ root begins. bare_is (linked root (links_of roots root)) (half root begins).0 (half root begins).1.0 in
    let order = roots_order roots [] (record { once = tt; up = tt }) in
    let one : AreOneTree ties (at_nodes (with_roots roots []) (boot_of c)) first = record {
      names = λ root begins. starts ties roots root (first root) begins (linked_is root begins);
      sound = λ root begins. starts_sound roots root (first root) (linked_is root begins);
      ascending = order.up;
      whole = whole;
    } in
    lines_one ties (boot_of c) whole c.files c.files 0 (record { nodes = with_roots roots []; files = [] }) first trees one
    (λ root begins. sym (ap (λ r. and_then r (λ tree. with_files ties roots root 0 c.files tree)) (linked_is root begins)) ∙ opened root begins)
