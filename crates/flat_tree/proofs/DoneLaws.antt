-- The names of all domains behind a request that was done, in one of them.
use Rattle.std.proofs.Common.{◌≡◌, ◌≢◌, ◌==◌, ℕ, Bool, true, false, ◌&&◌, cond, List, [], ◌∷◌, ◌++◌, length, Some, None, Result, Ok, Err, inl, inr, refl, sym, ap, ap₂, subst, ◌∙◌, arith, append-nil, append_assoc}
use Rattle.std.specs.Option.{is_some}
use Rattle.std.proofs.lemmas.Bool.{cases_Bool, eqb-true, true≢false}
use Rattle.sprite_ids.specs.declared.Errno.TheVariants as errno
use Rattle.sprite_paths.specs.Path.{IsPrefix}
use Rattle.unix_calls.specs.declared.state.Node.{Node as UnixNode}
use Rattle.unix_calls.specs.declared.state.Node.TheVariants.{Directory, FileNode, DeviceNode}
use Rattle.unix_calls.specs.declared.state.Named.{Named as NamedNode}
use Rattle.unix_calls.specs.State.{Unix}
use Rattle.unix_calls.specs.Domains.{begins_domain}
use Rattle.unix_calls.specs.NameCalls.{moved_to, named as unix_named, unnamed}
use Rattle.unix_calls.specs.Tree.{looked_up, names_in as unix_names_in, node_at, same_path, with_name, without_name}
use Rattle.server_names.specs.declared.NameEnd.{NameEnd}
use Rattle.server_names.specs.declared.NameEnd.TheVariants.{Errno as Refused, Redirect, NoMemory}
use Rattle.server_names.specs.declared.Node.{Node}
use Rattle.server_names.specs.declared.Node.TheVariants.{Dir}
use Rattle.server_names.specs.declared.Entry.TheVariants.{Node as Named}
use Rattle.server_names.specs.Names.{IsSound, Tree, count, done, entry_in, found, freed, goes_on, is_at, made, make_answer, named, parent, removable, removable_found, remove_answer, removed, renamable, rename_answer, rename_target, renamed, renamed_node, roomy, walked}
use Rattle.server_names.proofs.FoundLaws.{freed_none, goes_parts, named_is, path_is, path_itself, removable_ok, renamed_parts, ok_is}
use Rattle.server_names.proofs.SoundLaws.{sound_made, sound_removed, sound_renamed}
use Rattle.tree_laws.specs.Trees.{AreNames, IsOwn, Parts, Ties, plain, told, AreNamedOnce}
use Rattle.tree_laws.proofs.FindLaws.{found_by, further}
use Rattle.tree_laws.proofs.GoneLaws.{named_told, none_either, removed_is_same, without_look}
use Rattle.tree_laws.proofs.MakeLaws.{made_is_same, node_is, told_none}
use Rattle.tree_laws.proofs.RemoveLaws.{removes_by}
use Rattle.tree_laws.proofs.RenameLaws.{renamed_is_same, named_plain}
use Rattle.tree_laws.proofs.WalkLaws.{own_on}
use Rattle.flat_tree.specs.Requests.{Trees, remove_at, rename_at, renamed_as, with_tree, are_apart, apart_found}
use Rattle.flat_tree.specs.Runs.{AreOneTree}
use Rattle.flat_tree.proofs.AnswerLaws.{below_apart, own_of}
use Rattle.flat_tree.proofs.ApartLaws.{together}
use Rattle.flat_tree.proofs.AscendLaws.{ascends_less, ascends_made}
use Rattle.flat_tree.proofs.BesideLaws.{beside_gone, beside_made}
use Rattle.flat_tree.proofs.ListingLaws.{nodes_times, once_if, times}
use Rattle.flat_tree.proofs.RenameAnswerLaws.{new_below}
use Rattle.flat_tree.proofs.RootLaws.{IsThere, make_by, root_there, target_by}
use Rattle.flat_tree.proofs.WithinLaws.{AtRoot, Below, Within, within}
use Rattle.sprite_ids.proofs.ListLaws.{some_is}

-- ---- one domain and the others

-- a fact of each domain, where one has other names
pub each_tree : (P : Parts → Tree → Type 0) (roots : List Parts) (root : Parts) (tree : Tree) (trees : Trees) → P root tree → ((other : Parts) → begins_domain roots other ≡ true → root ≢ other → P other (trees other)) → (other : Parts) → begins_domain roots other ≡ true → P other (with_tree root tree trees other)
each_tree P roots root tree trees mine others other begins =
    elim (cases_Bool (same_path other root)) [
      | inl same ↦ subst (λ b. P other (cond b tree (trees other))) (sym same) (subst (λ (k : Parts). P k tree) (sym (path_is other root same)) mine)
      | inr apart ↦
          subst (λ b. P other (cond b tree (trees other))) (sym apart)
          (others other begins (λ e. true≢false (sym (subst (λ (k : Parts). same_path k root ≡ true) e (path_itself root)) ∙ apart)))
    ]

-- ---- a name more

pub made_one : (ties : Ties) (u : Unix) (root : Parts) (trees : Trees) (path : Parts) (node : UnixNode) → AreOneTree ties u trees → begins_domain u.roots root ≡ true → IsPrefix root path → make_answer (trees root) path ≡ Ok tt
    → AreOneTree ties (unix_named path node u) (with_tree root (made (trees root) path (plain ties node)) trees)
made_one ties u root trees path node one begins below ok = by (within root path below)
  where
    are : AreNames ties u.roots root u.nodes (trees root)
    are = one.names root begins

    lower : (d : Parts) (part : List ℕ) → IsPrefix root d → make_answer (trees root) (d ++ part ∷ []) ≡ Ok tt → AreOneTree ties (unix_named (d ++ part ∷ []) node u) (with_tree root (made (trees root) (d ++ part ∷ []) (plain ties node)) trees)
    lower d part under ok =
        let walk = goes_parts (walked (trees root) [] d) (goes_on (freed (entry_in (trees root) d part)) (roomy (trees root) d)) tt (sym (make_by (trees root) d part) ∙ ok) in
        let free = freed_none (entry_in (trees root) d part) (goes_parts (freed (entry_in (trees root) d part)) (roomy (trees root) d) tt walk.1).0 in
        let own = own_of ties u.roots root u.nodes (trees root) d are under walk.0 in
        let absent : looked_up u.nodes (d ++ part ∷ []) ≡ None = sym (node_is u.nodes d part) ∙ told_none ties u.roots (d ++ part ∷ []) (node_at u.nodes (d ++ part ∷ [])) (sym (are.names d part under own) ∙ free) in
        let tree = made (trees root) (d ++ part ∷ []) (plain ties node) in
        record {
          names = each_tree (λ k t. AreNames ties u.roots k (with_name (record { path = d ++ part ∷ []; node = node }) u.nodes) t) u.roots root tree trees
              (made_is_same ties u root (trees root) d part node are under ok)
              (λ other too apart. beside_made ties u.roots root other u.nodes (trees other) d part node (one.names other too) begins too apart under own absent);
          sound = each_tree (λ k t. IsSound t) u.roots root tree trees (sound_made (trees root) (d ++ part ∷ []) (Named (plain ties node)) ok (one.sound root begins)) (λ other too apart. one.sound other too);
          ascending = ascends_made (record { path = d ++ part ∷ []; node = node }) u.nodes absent one.ascending;
          whole = one.whole;
        }

    by : Within root path → AreOneTree ties (unix_named path node u) (with_tree root (made (trees root) path (plain ties node)) trees)
    by (AtRoot e) = absurd (let two : ◌≡◌ {A = Result (Unit {0}) NameEnd} (Err (Refused errno.Exists)) (Ok tt) = sym (root_there ties u.roots root u.nodes (trees root) are).made_is ∙ ap (make_answer (trees root)) (sym e) ∙ ok in cc)
    by (Below d part under e) =
        subst (λ (k : Parts). AreOneTree ties (unix_named k node u) (with_tree root (made (trees root) k (plain ties node)) trees)) (sym e) (lower d part under (ap (make_answer (trees root)) (sym e) ∙ ok))

-- ---- a name less

-- a directory that is taken away has no names
none_counted : (tree : Tree) (path : Parts) (directory : Bool) (node : Node) → removable tree path directory Dir ≡ Ok node → count tree path ≡ 0
none_counted tree path true node h = by (count tree path == 0) refl h
  where
    by : (b : Bool) → (count tree path == 0) ≡ b → (◌≡◌ {A = Result Node NameEnd} (cond b (Ok Dir) (Err (Refused errno.NotEmpty))) (Ok node)) → count tree path ≡ 0
    by true e h = eqb-true (count tree path) 0 e
    by false e h = absurd (cc)
none_counted tree path false node h = absurd (cc)

-- a directory that has something below it has names
some_name : (nodes : List NamedNode) (d : Parts) (p : List ℕ) (node : UnixNode) (many : ℕ) → AreNamedOnce nodes → node_at nodes (d ++ p ∷ []) ≡ Some node → length (unix_names_in nodes d) ≡ 0 → ⊥
some_name nodes d p node many once there none =
    let one : times p (unix_names_in nodes d) ≡ 1 = nodes_times p d nodes once ∙ ap (λ o. once_if (is_some o)) (sym (node_is nodes d p) ∙ there) in
    by (unix_names_in nodes d) none one
  where
    by : (names : List (List ℕ)) → length names ≡ 0 → times p names ≡ 1 → ⊥
    by [] none one = omega (arith, one)
    by (name ∷ names) none one = omega (arith, none)

-- no domain hangs at or below what can be taken away
clear_of : (ties : Ties) (u : Unix) (root : Parts) (trees : Trees) (d : Parts) (part : List ℕ) (x : UnixNode) → AreOneTree ties u trees → begins_domain u.roots root ≡ true → IsPrefix root d → IsOwn u.roots root d → node_at u.nodes (d ++ part ∷ []) ≡ Some x → begins_domain u.roots (d ++ part ∷ []) ≡ false
    → (x ≡ Directory → count (trees root) (d ++ part ∷ []) ≡ 0) → (k : Parts) → begins_domain u.roots k ≡ true → IsPrefix (d ++ part ∷ []) k → ⊥
clear_of ties u root trees d part x one begins under own there none empty k is pre = by pre.rest pre.whole
  where
    path : Parts
    path = d ++ part ∷ []

    by : (rest : Parts) → k ≡ (d ++ part ∷ []) ++ rest → ⊥
    by [] e = true≢false (sym is ∙ ap (begins_domain u.roots) (e ∙ append-nil (d ++ part ∷ [])) ∙ none)
    by (y ∷ rest) e =
        let other = one.names k is in
        let up = other.way d part (record { rest = y ∷ rest; whole = e }) in
        let down = other.way (d ++ part ∷ []) y (record { rest = rest; whole = e ∙ sym (append_assoc (d ++ part ∷ []) (y ∷ []) rest) }) in
        let dir : x ≡ Directory = some_is x Directory (sym there ∙ up.1) in
        let counts = (one.names root begins).counts (d ++ part ∷ []) (further root d part under) (own_on u.roots root d part own none) in
        some_name u.nodes (d ++ part ∷ []) y Directory 0 other.once down.1 (sym counts ∙ empty dir)

plain_dir : (ties : Ties) (x : UnixNode) (n : Node) → x ≡ Directory → plain ties x ≡ n → n ≡ Dir
plain_dir ties Directory n e h = sym h
plain_dir ties (FileNode name) n e h = absurd (cc)
plain_dir ties (DeviceNode place) n e h = absurd (cc)

pub removed_one : (ties : Ties) (u : Unix) (root : Parts) (trees : Trees) (path : Parts) (directory : Bool) (node : Node) → AreOneTree ties u trees → begins_domain u.roots root ≡ true → IsPrefix root path → remove_at root (trees root) path directory ≡ Ok node
    → AreOneTree ties (unnamed path u) (with_tree root (removed (trees root) path) trees)
removed_one ties u root trees path directory node one begins below ok = by (within root path below)
  where
    are : AreNames ties u.roots root u.nodes (trees root)
    are = one.names root begins

    lower : (d : Parts) (part : List ℕ) → IsPrefix root d → remove_answer (trees root) (d ++ part ∷ []) directory ≡ Ok node → AreOneTree ties (unnamed (d ++ part ∷ []) u) (with_tree root (removed (trees root) (d ++ part ∷ [])) trees)
    lower d part under ok =
        let path = d ++ part ∷ [] in
        let walk = goes_parts (walked (trees root) [] d) (removable_found (trees root) path directory (named (entry_in (trees root) d part))) node (sym (removes_by (trees root) d part directory) ∙ ok) in
        let n = removable_ok (trees root) path directory node (named (entry_in (trees root) d part)) walk.1 in
        let there = named_is (entry_in (trees root) d part) n.0 n.1 in
        let can : removable (trees root) path directory n.0 ≡ Ok node = sym (ap (removable_found (trees root) path directory) n.1) ∙ walk.1 in
        let own = own_of ties u.roots root u.nodes (trees root) d are under walk.0 in
        let tells : told ties u.roots path (node_at u.nodes path) ≡ Some (Named n.0) = sym (are.names d part under own) ∙ there in
        let stands = named_told ties u.roots path n.0 (node_at u.nodes path) tells in
        let looked : looked_up u.nodes path ≡ Some stands.0 = sym (node_is u.nodes d part) ∙ stands.1.0 in
        let is_plain = named_plain ties u.roots path n.0 stands.0 (ap (told ties u.roots path) (sym stands.1.0) ∙ tells) in
        let clear = clear_of ties u root trees d part stands.0 one begins under own stands.1.0 stands.1.1 (λ dir. none_counted (trees root) path directory node (subst (λ m. removable (trees root) path directory m ≡ Ok node) (plain_dir ties stands.0 n.0 dir is_plain) can)) in
        let tree = removed (trees root) path in
        record {
          names = each_tree (λ k t. AreNames ties u.roots k (without_name path u.nodes) t) u.roots root tree trees
              (removed_is_same ties u root (trees root) d part directory node are (one.sound root begins) under ok)
              (λ other too apart. beside_gone ties u.roots root other u.nodes (trees other) d part stands.0 (one.names other too) begins too apart under own looked clear);
          sound = each_tree (λ k t. IsSound t) u.roots root tree trees (sound_removed (trees root) path directory node ok (one.sound root begins)) (λ other too apart. one.sound other too);
          ascending = ascends_less path u.nodes one.ascending;
          whole = one.whole;
        }

    at_root : (directory : Bool) → IsThere root u.nodes (trees root) → remove_at root (trees root) root directory ≡ Ok node → ⊥
    at_root true there ok = let two : ◌≡◌ {A = Result Node NameEnd} (Err (Refused errno.Busy)) (Ok node) = sym (ap (λ b. cond b (Err (Refused errno.Busy)) (remove_answer (trees root) root true)) (path_itself root)) ∙ ok in cc
    at_root false there ok = let two : ◌≡◌ {A = Result Node NameEnd} (Err (Refused errno.IsDir)) (Ok node) = sym there.removed_is ∙ ok in cc

    flag : (a b : Bool) → b ≡ false → (a && b) ≡ false
    flag true b h = h
    flag false b h = refl

    by : Within root path → AreOneTree ties (unnamed path u) (with_tree root (removed (trees root) path) trees)
    by (AtRoot e) = absurd (at_root directory (root_there ties u.roots root u.nodes (trees root) are) (ap (λ (k : Parts). remove_at root (trees root) k directory) (sym e) ∙ ok))
    by (Below d part under e) =
        subst (λ (k : Parts). AreOneTree ties (unnamed k u) (with_tree root (removed (trees root) k) trees)) (sym e)
        (lower d part under (sym (ap (λ b. cond b (Err (Refused errno.Busy)) (remove_answer (trees root) (d ++ part ∷ []) directory)) (flag directory (same_path (d ++ part ∷ []) root) (below_apart root d part under))) ∙ ap (λ (k : Parts). remove_at root (trees root) k directory) (sym e) ∙ ok))

-- ---- another name

is_ok : (r : Result Node NameEnd) → done r ≡ Ok tt → (node : Node) × (r ≡ Ok node)
is_ok (Ok node) h = (node, refl)
is_ok (Err end) h = absurd (cc)

not_dir : (ties : Ties) (x : UnixNode) (node : Node) → plain ties x ≡ node → renamable node ≡ Ok tt → x ≡ Directory → ⊥
not_dir ties Directory node h may e = let two : renamable Dir ≡ Ok tt = ap renamable h ∙ may in cc
not_dir ties (FileNode name) node h may e = cc
not_dir ties (DeviceNode place) node h may e = cc

moved_one : (ties : Ties) (u : Unix) (root : Parts) (trees : Trees) (from : Parts) (x : List ℕ) (at : Parts) (part : List ℕ) (node : Node) → AreOneTree ties u trees → begins_domain u.roots root ≡ true → IsPrefix root from → IsPrefix root at → renamed_node (trees root) (from ++ x ∷ []) (at ++ part ∷ []) ≡ Ok node
    → AreOneTree ties (moved_to (from ++ x ∷ []) (at ++ part ∷ []) (node_at u.nodes (from ++ x ∷ [])) u) (with_tree root (renamed (trees root) (from ++ x ∷ []) (at ++ part ∷ []) node) trees)
moved_one ties u root trees from x at part node one begins below under ok =
    let old = from ++ x ∷ [] in
    let new = at ++ part ∷ [] in
    let are = one.names root begins in
    let answer = renamed_parts (found (trees root) old) (rename_target (trees root) old new) node ok in
    let way = goes_parts (walked (trees root) [] from) (named (entry_in (trees root) from x)) node (sym (found_by (trees root) from x) ∙ answer.0) in
    let there = named_is (entry_in (trees root) from x) node way.1 in
    let target = goes_parts (walked (trees root) [] at) (goes_on (freed (entry_in (trees root) at part)) (cond (is_at (parent old) at) (Ok tt) (roomy (trees root) at))) tt (sym (target_by (trees root) old at part) ∙ answer.1.1) in
    let free = freed_none (entry_in (trees root) at part) (goes_parts (freed (entry_in (trees root) at part)) (cond (is_at (parent old) at) (Ok tt) (roomy (trees root) at)) tt target.1).0 in
    let own = own_of ties u.roots root u.nodes (trees root) from are below way.0 in
    let own_at = own_of ties u.roots root u.nodes (trees root) at are under target.0 in
    let tells : told ties u.roots old (node_at u.nodes old) ≡ Some (Named node) = sym (are.names from x below own) ∙ there in
    let stands = named_told ties u.roots old node (node_at u.nodes old) tells in
    let kind = stands.0 in
    let looked : looked_up u.nodes old ≡ Some kind = sym (node_is u.nodes from x) ∙ stands.1.0 in
    let is_plain = named_plain ties u.roots old node kind (ap (told ties u.roots old) (sym stands.1.0) ∙ tells) in
    let clear = clear_of ties u root trees from x kind one begins below own stands.1.0 stands.1.1 (λ dir. absurd (not_dir ties kind node is_plain answer.1.0 dir)) in
    let absent : looked_up u.nodes new ≡ None = sym (node_is u.nodes at part) ∙ told_none ties u.roots new (node_at u.nodes new) (sym (are.names at part under own_at) ∙ free) in
    let fresh : looked_up (without_name old u.nodes) new ≡ None = without_look old new u.nodes ∙ ap (cond (same_path old new) None) absent ∙ none_either (same_path old new) in
    let tree = renamed (trees root) old new node in
    let n : NamedNode = record { path = new; node = kind } in
    let mine : AreNames ties u.roots root (with_name n (without_name old u.nodes)) tree = subst (λ o. AreNames ties u.roots root (moved_to old new o u).nodes tree) stands.1.0 (renamed_is_same ties u root (trees root) from x at part node are (one.sound root begins) below under ok) in
    subst (λ o. AreOneTree ties (moved_to old new o u) (with_tree root tree trees)) (sym stands.1.0)
    (record {
      names = each_tree (λ k t. AreNames ties u.roots k (with_name n (without_name old u.nodes)) t) u.roots root tree trees mine
          (λ other too apart. beside_made ties u.roots root other (without_name old u.nodes) (trees other) at part kind
          (beside_gone ties u.roots root other u.nodes (trees other) from x kind (one.names other too) begins too apart below own looked clear) begins too apart under own_at fresh);
      sound = each_tree (λ k t. IsSound t) u.roots root tree trees (sound_renamed (trees root) old new node ok (one.sound root begins)) (λ other too apart. one.sound other too);
      ascending = ascends_made n (without_name old u.nodes) fresh (ascends_less old u.nodes one.ascending);
      whole = one.whole;
    })

-- neither name is a domain's root
pub renamed_one : (ties : Ties) (u : Unix) (root : Parts) (trees : Trees) (old new : Parts) → AreOneTree ties u trees → begins_domain u.roots root ≡ true → IsPrefix root old → rename_at u.roots (trees root) old new ≡ Ok tt
    → AreOneTree ties (moved_to old new (node_at u.nodes old) u) (with_tree root (renamed_as (trees root) old new (found (trees root) old)) trees)
renamed_one ties u root trees old new one begins below ok = by (are_apart u.roots old new) refl ok
  where
    Led : Type 0
    Led = AreOneTree ties (moved_to old new (node_at u.nodes old) u) (with_tree root (renamed_as (trees root) old new (found (trees root) old)) trees)

    are : AreNames ties u.roots root u.nodes (trees root)
    are = one.names root begins

    refused : (r : Result Node NameEnd) → apart_found r ≡ Ok tt → ⊥
    refused (Ok node) h = cc
    refused (Err (Refused why)) h = cc
    refused (Err (Redirect to)) h = cc
    refused (Err NoMemory) h = cc

    target : (node : Node) → renamed_node (trees root) old new ≡ Ok node → (d : Parts) (part : List ℕ) → IsPrefix root d → old ≡ d ++ part ∷ [] → Within root new → Led
    target node is d part under e (AtRoot f) =
        absurd (
        let parts = renamed_parts (found (trees root) old) (rename_target (trees root) old new) node is in
        let two : ◌≡◌ {A = Result (Unit {0}) NameEnd} (Err (Refused errno.Exists)) (Ok tt) = sym ((root_there ties u.roots root u.nodes (trees root) are).target_is old) ∙ ap (rename_target (trees root) old) (sym f) ∙ parts.1.1 in
        cc)
    target node is d part under e (Below at last over f) =
        let parts = renamed_parts (found (trees root) old) (rename_target (trees root) old new) node is in
        let whole : renamed_node (trees root) (d ++ part ∷ []) (at ++ last ∷ []) ≡ Ok node = ap₂ (renamed_node (trees root)) (sym e) (sym f) ∙ is in
        subst (λ r. AreOneTree ties (moved_to old new (node_at u.nodes old) u) (with_tree root (renamed_as (trees root) old new r) trees)) (sym parts.0)
        (subst (λ (k : Parts). AreOneTree ties (moved_to k new (node_at u.nodes k) u) (with_tree root (renamed (trees root) k new node) trees)) (sym e)
        (subst (λ (k : Parts). AreOneTree ties (moved_to (d ++ part ∷ []) k (node_at u.nodes (d ++ part ∷ [])) u) (with_tree root (renamed (trees root) (d ++ part ∷ []) k node) trees)) (sym f)
        (moved_one ties u root trees d part at last node one begins under over whole)))

    source : (node : Node) → renamed_node (trees root) old new ≡ Ok node → IsPrefix root new → Within root old → Led
    source node is next (AtRoot e) =
        absurd (
        let parts = renamed_parts (found (trees root) old) (rename_target (trees root) old new) node is in
        let dir : ◌≡◌ {A = Result Node NameEnd} (Ok Dir) (Ok node) = sym (root_there ties u.roots root u.nodes (trees root) are).found_is ∙ ap (found (trees root)) (sym e) ∙ parts.0 in
        let two : renamable Dir ≡ Ok tt = ap renamable (ok_is Dir node dir) ∙ parts.1.0 in
        cc)
    source node is next (Below d part under e) = target node is d part under e (within root new next)

    by : (b : Bool) → are_apart u.roots old new ≡ b → cond b (apart_found (found (trees root) old)) (rename_answer (trees root) old new) ≡ Ok tt → Led
    by true apart h = absurd (refused (found (trees root) old) h)
    by false apart h =
        let node = is_ok (renamed_node (trees root) old new) h in
        source node.0 node.1 (new_below u.roots root old new begins (together old new u.roots apart) below) (within root old below)
