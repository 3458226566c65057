-- A name that is renamed at its domain's server, against the one-kernel Unix.
use Rattle.std.proofs.Common.{◌≡◌, ◌==◌, ℕ, suc, Bool, true, false, ◌&&◌, cond, not, nat_lt, nat_le, List, [], ◌∷◌, ◌++◌, length, Option, Some, None, Result, Ok, Err, inl, inr, refl, sym, ap, ap₂, subst, ◌∙◌, arith, length-append}
use Rattle.std.specs.Option.{is_some}
use Rattle.std.specs.Map.{lookup, remove_entry}
use Rattle.indexmap.specs.IndexMap.{insert_entry}
use Rattle.std.proofs.lemmas.Bool.{cases_Bool, cond-false, ne_eqb}
use Rattle.sprite_ids.specs.declared.Errno.{Errno}
use Rattle.sprite_ids.specs.declared.Errno.TheVariants as errno
use Rattle.sprite_paths.specs.Path.{IsPrefix}
use Rattle.unix_calls.specs.declared.state.Node.{Node as UnixNode}
use Rattle.unix_calls.specs.declared.state.Node.TheVariants.{Directory, FileNode, DeviceNode}
use Rattle.unix_calls.specs.declared.state.Named.{Named as NamedNode}
use Rattle.unix_calls.specs.Domains.{begins_domain}
use Rattle.unix_calls.specs.Tree.{above, and_name, first_of, is_full, looked_up, name_below, names_in as unix_names_in, node_at, same_path, walk, walk_from, with_name, without_name}
use Rattle.unix_calls.specs.NameCalls.{a_directory, missing, moved_to, refusal_if}
use Rattle.server_names.specs.declared.NameEnd.{NameEnd}
use Rattle.server_names.specs.declared.NameEnd.TheVariants.{Errno as Refused, Redirect, NoMemory}
use Rattle.server_names.specs.declared.Node.{Node}
use Rattle.server_names.specs.declared.Node.TheVariants.{File, Device}
use Rattle.server_names.specs.declared.Entry.{Entry}
use Rattle.server_names.specs.declared.Entry.TheVariants.{Node as Named, Link}
use Rattle.server_names.specs.Names.{AreOnce, IsSound, Listed, Tree, count, entries_in, entry_in, found, freed, goes_on, is_at, is_part, last_of, named, or_empty, parent, rename_answer, rename_target, renamed, renamed_found, renamed_node, done, roomy, unlisted, walked}
use Rattle.server_names.proofs.FoundLaws.{directory_in, freed_none, given_here, given_other, goes_parts, path_is, named_is, none_on, part_turned, renamed_parts}
use Rattle.tree_laws.specs.Trees.{AreNamedOnce, AreNames, IsOwn, Parts, Ties, plain, told}
use Rattle.tree_laws.specs.Laws.{AnswersAs}
use Rattle.tree_laws.specs.Renames.{RenamedIsSame, RenamesAsOne}
use Rattle.tree_laws.proofs.FindLaws.{found_by}
use Rattle.tree_laws.proofs.MakeLaws.{entry_more, free_by, look_append, names_more, node_is, once_more, room_by, same_more, told_none, unix_look}
use Rattle.tree_laws.proofs.WalkLaws.{WalksAs, above_is, last_is, then_by, walks_as}
use Rattle.tree_laws.proofs.GoneLaws.{IsLess, named_told, names_less, none_either, once_without, same_less, set_entries, there_of, without_look}

-- ---- the answer

done_on : (r : Result (Unit {0}) NameEnd) (next : Result Node NameEnd) (target : Result (Unit {0}) NameEnd) → done (renamed_found (goes_on r next) target) ≡ goes_on r (done (renamed_found next target))
done_on (Ok tt) next target = refl
done_on (Err end) next target = refl

pub done_as : (target : Result (Unit {0}) NameEnd) (node : Node) (rest : Option Errno) → AnswersAs target rest → AnswersAs (done (goes_on target (Ok node))) rest
done_as (Ok tt) node rest h = h
done_as (Err (Refused e)) node rest h = h
done_as (Err (Redirect path)) node rest h = h
done_as (Err NoMemory) node rest h = h

renamed_by : (ties : Ties) (roots : List Parts) (path : Parts) (node : Option UnixNode) (target : Result (Unit {0}) NameEnd) (rest : Option Errno) → AnswersAs target rest
    → AnswersAs (done (renamed_found (named (told ties roots path node)) target)) (first_of (missing node) (first_of (a_directory node) rest))
renamed_by ties roots path None target rest h = refl
renamed_by ties roots path (Some node) target rest h =
    elim (begins_domain roots path) as (λ b. AnswersAs (done (renamed_found (named (Some (cond b (Link path) (Named (plain ties node))))) target)) (first_of (a_directory (Some node)) rest)) [ true ↦ tt | false ↦ kind node ]
  where
    kind : (n : UnixNode) → AnswersAs (done (renamed_found (Ok (plain ties n)) target)) (first_of (a_directory (Some n)) rest)
    kind Directory = refl
    kind (FileNode name) = done_as target (File (ties.file name)) rest h
    kind (DeviceNode place) = done_as target (Device (ties.device place)) rest h

-- the new name's directory has room, where it isn't the old name's
pub room_apart : (same : Bool) (m n : ℕ) → m ≡ n
    → AnswersAs {A = Unit {0}} (cond same (Ok tt) (cond (nat_lt m 256) (Ok tt) (Err (Refused errno.TooMany)))) (refusal_if (not same && nat_le 256 n) errno.TooMany)
room_apart true m n e = refl
room_apart false m n e = room_by m n e

target_by : (tree : Tree) (from at : Parts) (x part : List ℕ) → rename_target tree (from ++ x ∷ []) (at ++ part ∷ []) ≡ goes_on (walked tree [] at) (goes_on (freed (entry_in tree at part)) (cond (is_at from at) (Ok tt) (roomy tree at)))
target_by tree from at x part =
    let path = at ++ part ∷ [] in
    let some : (length path == 0) ≡ false = ne_eqb (length path) 0 (λ e. let more = length-append at (part ∷ []) in omega arith) in
    cond-false (length path == 0) _ _ some
    ∙ ap₂ (λ (d : Parts) (p : List ℕ). goes_on (walked tree [] d) (goes_on (freed (entry_in tree d p)) (cond (is_at (parent (from ++ x ∷ [])) d) (Ok tt) (roomy tree d)))) (above_is at part) (last_is at part)
    ∙ ap (λ (k : Parts). goes_on (walked tree [] at) (goes_on (freed (entry_in tree at part)) (cond (is_at k at) (Ok tt) (roomy tree at)))) (above_is from x)

renames_among : (ties : Ties) (roots : List Parts) (root : Parts) (nodes : List NamedNode) (tree : Tree) (from : Parts) (x : List ℕ) (at : Parts) (part : List ℕ) → AreNames ties roots root nodes tree → IsPrefix root from → IsPrefix root at
    → AnswersAs (rename_answer tree (from ++ x ∷ []) (at ++ part ∷ []))
    (first_of (walk nodes (from ++ x ∷ [])) (first_of (missing (node_at nodes (from ++ x ∷ []))) (first_of (a_directory (node_at nodes (from ++ x ∷ [])))
    (first_of (walk nodes (at ++ part ∷ [])) (first_of (refusal_if (is_some (node_at nodes (at ++ part ∷ []))) errno.Exists) (refusal_if (not (same_path from at) && is_full nodes at) errno.TooMany))))))
renames_among ties roots root nodes tree from x at part are below under =
    let old = from ++ x ∷ [] in
    let new = at ++ part ∷ [] in
    let room = refusal_if (not (same_path from at) && is_full nodes at) errno.TooMany in
    let rest = first_of (walk nodes new) (first_of (refusal_if (is_some (node_at nodes new)) errno.Exists) room) in
    let target : AnswersAs (rename_target tree old new) rest =
    subst (λ r. AnswersAs r rest) (sym (target_by tree from at x part))
    (then_by roots root at (walked tree [] at) (walk nodes new) (goes_on (freed (entry_in tree at part)) (cond (is_at from at) (Ok tt) (roomy tree at))) (first_of (refusal_if (is_some (node_at nodes new)) errno.Exists) room)
    (walks_as ties roots root nodes tree are at part under)
    (λ own. subst (λ e. AnswersAs (goes_on (freed e) (cond (is_at from at) (Ok tt) (roomy tree at))) (first_of (refusal_if (is_some (node_at nodes new)) errno.Exists) room)) (sym (are.names at part under own))
    (free_by ties roots new (node_at nodes new) (cond (is_at from at) (Ok tt) (roomy tree at)) room (room_apart (is_at from at) (count tree at) (length (unix_names_in nodes at)) (are.counts at under own)))))
    in
    let there = node_at nodes old in
    let other = first_of (missing there) (first_of (a_directory there) rest) in
    subst (λ r. AnswersAs r (first_of (walk nodes old) other)) (sym (ap (λ r. done (renamed_found r (rename_target tree old new))) (found_by tree from x) ∙ done_on (walked tree [] from) (named (entry_in tree from x)) (rename_target tree old new)))
    (then_by roots root from (walked tree [] from) (walk nodes old) (done (renamed_found (named (entry_in tree from x)) (rename_target tree old new))) other (walks_as ties roots root nodes tree are from x below)
    (λ own. subst (λ e. AnswersAs (done (renamed_found (named e) (rename_target tree old new))) other) (sym (are.names from x below own)) (renamed_by ties roots old there (rename_target tree old new) rest target)))

pub renames_as_one : RenamesAsOne
renames_as_one ties u root tree from x at part are below under one =
    let old = from ++ x ∷ [] in
    let new = at ++ part ∷ [] in
    let h = renames_among ties u.roots root u.nodes tree from x at part are below under in
    let rest = λ (d : Parts) (k : Parts). first_of (walk u.nodes old) (first_of (missing (node_at u.nodes old)) (first_of (a_directory (node_at u.nodes old))
    (first_of (walk u.nodes new) (first_of (refusal_if (is_some (node_at u.nodes new)) errno.Exists) (refusal_if (not (same_path d k) && is_full u.nodes k) errno.TooMany))))) in
    let whole : AnswersAs (rename_answer tree old new) (rest (above old) (above new)) = subst (λ (d : Parts). AnswersAs (rename_answer tree old new) (rest d (above new))) (sym (above_is from x)) (subst (λ (k : Parts). AnswersAs (rename_answer tree old new) (rest from k)) (sym (above_is at part)) h) in
    subst (λ b. AnswersAs (rename_answer tree old new) (first_of (refusal_if (not b) errno.XDev) (rest (above old) (above new)))) (sym one) whole

-- ---- what it leads to

-- the names tell the same of every path, and as many in each directory
same_nodes : (ties : Ties) (roots : List Parts) (root : Parts) (before after : List NamedNode) (tree : Tree) → ((q : Parts) → node_at before q ≡ node_at after q) → ((d : Parts) → length (unix_names_in before d) ≡ length (unix_names_in after d)) → AreNamedOnce after
    → AreNames ties roots root before tree → AreNames ties roots root after tree
same_nodes ties roots root before after tree look many once are =
    record {
      way = λ d p pre. ((are.way d p pre).0, sym (look (d ++ p ∷ [])) ∙ (are.way d p pre).1);
      names = λ d p under own. are.names d p under own ∙ ap (told ties roots (d ++ p ∷ [])) (look (d ++ p ∷ []));
      counts = λ d under own. are.counts d under own ∙ many d;
      begins = λ q is. sym (look q) ∙ are.begins q is;
      once = once;
    }

-- how many names one more or less gives
abbrev grown : Option (List ℕ) → ℕ → ℕ
grown None n = n
grown (Some name) n = suc n

named_grown : (o : Option (List ℕ)) (names : List (List ℕ)) → length (and_name o names) ≡ grown o (length names)
named_grown None names = refl
named_grown (Some name) names = refl

-- one more and one less, in either order
grown_turned : (a b : Option (List ℕ)) (one two three four five : ℕ) → three ≡ grown a one → three ≡ grown b four → four ≡ grown a five → two ≡ grown b five → one ≡ two
grown_turned None None one two three four five h k l m = sym h ∙ k ∙ l ∙ sym m
grown_turned None (Some b) one two three four five h k l m = sym h ∙ k ∙ ap suc l ∙ sym m
grown_turned (Some a) None one two three four five h k l m = omega (arith, h, k, l, m)
grown_turned (Some a) (Some b) one two three four five h k l m = omega (arith, h, k, l, m)

-- a name that is made before or behind another one's going
turned : (ties : Ties) (roots : List Parts) (root : Parts) (nodes : List NamedNode) (tree : Tree) (old new : Parts) (node : UnixNode) → AreNamedOnce nodes → looked_up nodes old ≡ Some node → looked_up nodes new ≡ None
    → AreNames ties roots root (without_name old (with_name (record { path = new; node = node }) nodes)) tree → AreNames ties roots root (with_name (record { path = new; node = node }) (without_name old nodes)) tree
turned ties roots root nodes tree old new node once there none are =
    let n : NamedNode = record { path = new; node = node } in
    let fresh : looked_up (without_name old nodes) new ≡ None = without_look old new nodes ∙ ap (cond (same_path old new) None) none ∙ none_either (same_path old new) in
    let look : (q : Parts) → looked_up (without_name old (with_name n nodes)) q ≡ looked_up (with_name n (without_name old nodes)) q = λ q.
    without_look old q (with_name n nodes) ∙ ap (cond (same_path old q) None) (unix_look n nodes q none)
    ∙ swap (same_path old q) (same_path new q) (looked_up nodes q) (λ a b. apart q a b)
    ∙ sym (unix_look n (without_name old nodes) q fresh ∙ ap (cond (same_path new q) (Some node)) (without_look old q nodes)) in
    let standing : looked_up (with_name n nodes) old ≡ Some node = unix_look n nodes old none ∙ ap (cond (same_path new old) (Some node)) there ∙ some_either (same_path new old) in
    same_nodes ties roots root (without_name old (with_name n nodes)) (with_name n (without_name old nodes)) tree (by look)
    (λ d. grown_turned (name_below d old) (name_below d new) (length (unix_names_in (without_name old (with_name n nodes)) d)) (length (unix_names_in (with_name n (without_name old nodes)) d)) (length (unix_names_in (with_name n nodes) d)) (length (unix_names_in nodes d)) (length (unix_names_in (without_name old nodes) d))
    (names_less old d node (with_name n nodes) (once_more n nodes none once) standing ∙ named_grown (name_below d old) (unix_names_in (without_name old (with_name n nodes)) d))
    (names_more n nodes d ∙ named_grown (name_below d new) (unix_names_in nodes d))
    (names_less old d node nodes once there ∙ named_grown (name_below d old) (unix_names_in (without_name old nodes) d))
    (names_more n (without_name old nodes) d ∙ named_grown (name_below d new) (unix_names_in (without_name old nodes) d)))
    (once_more n (without_name old nodes) fresh (once_without old nodes once)) are
  where
    by : ((q : Parts) → looked_up (without_name old (with_name (record { path = new; node = node }) nodes)) q ≡ looked_up (with_name (record { path = new; node = node }) (without_name old nodes)) q)
        → (q : Parts) → node_at (without_name old (with_name (record { path = new; node = node }) nodes)) q ≡ node_at (with_name (record { path = new; node = node }) (without_name old nodes)) q
    by look [] = refl
    by look (y ∷ q) = look (y ∷ q)

    some_either : (b : Bool) → ◌≡◌ {A = Option UnixNode} (cond b (Some node) (Some node)) (Some node)
    some_either true = refl
    some_either false = refl

    apart : (q : Parts) → same_path old q ≡ true → same_path new q ≡ true → ⊥
    apart q a b =
        let same : old ≡ new = path_is old q a ∙ sym (path_is new q b) in
        let two : Some node ≡ None = sym there ∙ ap (looked_up nodes) same ∙ none in
        cc

    swap : (a b : Bool) (o : Option UnixNode) → (a ≡ true → b ≡ true → ⊥) → cond a None (cond b (Some node) o) ≡ cond b (Some node) (cond a None o)
    swap true true o off = absurd (off refl refl)
    swap true false o off = refl
    swap false true o off = refl
    swap false false o off = refl

once_pushed : (es : Listed) (part : List ℕ) (entry : Entry) → lookup (is_part part) es ≡ None → AreOnce es → AreOnce (es ++ (part, entry) ∷ [])
once_pushed [] part entry none once = (refl, tt)
once_pushed (e ∷ es) part entry none once =
    let parts = none_on (is_part part) e es none in
    (look_append (is_part e.0) es part entry (part_turned part e.0 parts.0) ∙ once.0, once_pushed es part entry parts.1 once.1)

-- each directory still has each name once
once_listed : (tree : Tree) (at from : Parts) (part : List ℕ) (entry : Entry) → entry_in tree at part ≡ None → ((d : Parts) → AreOnce (entries_in tree d))
    → AreOnce (entries_in (insert_entry is_at tree at (entries_in tree at ++ (part, entry) ∷ [])) from)
once_listed tree at from part entry none once =
    let more = entries_in tree at ++ (part, entry) ∷ [] in
    elim (cases_Bool (is_at from at)) [
      | inl same ↦
          subst (λ (k : Parts). AreOnce (entries_in (insert_entry is_at tree at more) k)) (sym (path_is from at same))
          (subst AreOnce (sym (given_here tree at more)) (once_pushed (entries_in tree at) part entry none (once at)))
      | inr off ↦ subst (λ o. AreOnce (or_empty o)) (sym (given_other (is_at from) tree at more off)) (once from)
    ]

pub named_plain : (ties : Ties) (roots : List Parts) (path : Parts) (node : Node) (x : UnixNode) → told ties roots path (Some x) ≡ Some (Named node) → plain ties x ≡ node
named_plain ties roots path node x h = by (begins_domain roots path) h
  where
    by : (b : Bool) → (◌≡◌ {A = Option Entry} (Some (cond b (Link path) (Named (plain ties x)))) (Some (Named node))) → plain ties x ≡ node
    by true h = absurd (cc)
    by false h = cc

renamed_among : (ties : Ties) (roots : List Parts) (root : Parts) (nodes : List NamedNode) (tree : Tree) (from : Parts) (x : List ℕ) (at : Parts) (part : List ℕ) (node : Node)
    → AreNames ties roots root nodes tree → IsSound tree → IsPrefix root from → IsPrefix root at → renamed_node tree (from ++ x ∷ []) (at ++ part ∷ []) ≡ Ok node
    → (kind : UnixNode) × ((node_at nodes (from ++ x ∷ []) ≡ Some kind) × AreNames ties roots root (with_name (record { path = at ++ part ∷ []; node = kind }) (without_name (from ++ x ∷ []) nodes)) (renamed tree (from ++ x ∷ []) (at ++ part ∷ []) node))
renamed_among ties roots root nodes tree from x at part node are sound below under ok =
    let old = from ++ x ∷ [] in
    let new = at ++ part ∷ [] in
    let answer = renamed_parts (found tree old) (rename_target tree old new) node ok in
    let way = goes_parts (walked tree [] from) (named (entry_in tree from x)) node (sym (found_by tree from x) ∙ answer.0) in
    let there : entry_in tree from x ≡ Some (Named node) = named_is (entry_in tree from x) node way.1 in
    let target = goes_parts (walked tree [] at) (goes_on (freed (entry_in tree at part)) (cond (is_at from at) (Ok tt) (roomy tree at))) tt (sym (target_by tree from at x part) ∙ answer.1.1) in
    let free : entry_in tree at part ≡ None = freed_none (entry_in tree at part) (goes_parts (freed (entry_in tree at part)) (cond (is_at from at) (Ok tt) (roomy tree at)) tt target.1).0 in
    let own : IsOwn roots root from = (subst (λ r. WalksAs roots root from r (walk_from nodes [] old)) way.0 (walks_as ties roots root nodes tree are from x below)).1 in
    let own_at : IsOwn roots root at = (subst (λ r. WalksAs roots root at r (walk_from nodes [] new)) target.0 (walks_as ties roots root nodes tree are at part under)).1 in
    let stands = named_told ties roots old node (node_at nodes old) (sym (are.names from x below own) ∙ there) in
    let kind = stands.0 in
    let plain_is : plain ties kind ≡ node = named_plain ties roots old node kind (ap (told ties roots old) (sym stands.1.0) ∙ sym (are.names from x below own) ∙ there) in
    let entry = Named node in
    let middle = insert_entry is_at tree at (entries_in tree at ++ (part, entry) ∷ []) in
    let first : AreNames ties roots root (with_name (record { path = new; node = kind }) nodes) middle =
    subst (λ (k : Node). AreNames ties roots root (with_name (record { path = new; node = kind }) nodes) (insert_entry is_at tree at (entries_in tree at ++ (part, Named k) ∷ []))) plain_is (same_more ties roots root nodes tree at part kind are under own_at free) in
    let still : entry_in middle from x ≡ Some entry = entry_more tree at part entry from x free ∙ ap (cond (is_at from at && is_part x part) (Some entry)) there ∙ either entry (is_at from at && is_part x part) in
    let v = there_of x entry (lookup (is_at from) middle) still in
    let listed : AreOnce (entries_in middle from) = once_listed tree at from part entry free (λ d. (directory_in tree d sound.directories).once) in
    let next = unlisted middle from x in
    let less : IsLess middle from x next = λ d. set_entries middle from d (remove_entry (is_part x) (entries_in middle from)) v.0 v.1 in
    let second = same_less ties roots root (with_name (record { path = new; node = kind }) nodes) middle next from x node first listed below own still less in
    let looked : looked_up nodes old ≡ Some kind = sym (node_is nodes from x) ∙ stands.1.0 in
    let absent : looked_up nodes new ≡ None = sym (node_is nodes at part) ∙ told_none ties roots new (node_at nodes new) (sym (are.names at part under own_at) ∙ free) in
    let whole : next ≡ renamed tree old new node =
    ap₂ (λ (k : Parts) (p : List ℕ). unlisted middle k p) (sym (above_is from x)) (sym (last_is from x))
    ∙ ap₂ (λ (k : Parts) (p : List ℕ). unlisted (insert_entry is_at tree k (entries_in tree k ++ (p, entry) ∷ [])) (parent old) (last_of old)) (sym (above_is at part)) (sym (last_is at part)) in
    (kind, (stands.1.0, subst (AreNames ties roots root (with_name (record { path = new; node = kind }) (without_name old nodes))) whole (turned ties roots root nodes next old new kind are.once looked absent second)))
  where
    either : (entry : Entry) (b : Bool) → ◌≡◌ {A = Option Entry} (cond b (Some entry) (Some entry)) (Some entry)
    either entry true = refl
    either entry false = refl

pub renamed_is_same : RenamedIsSame
renamed_is_same ties u root tree from x at part node are sound below under ok =
    let old = from ++ x ∷ [] in
    let new = at ++ part ∷ [] in
    let h = renamed_among ties u.roots root u.nodes tree from x at part node are sound below under ok in
    subst (λ o. AreNames ties u.roots root (moved_to old new o u).nodes (renamed tree old new node)) (sym h.1.0) h.1.1
