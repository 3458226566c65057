-- The names of the one-kernel Unix: each path once, and above each name a directory.
use Rattle.std.proofs.Common.{◌≡◌, ◌<◌, ℕ, Bool, true, false, ◌&&◌, ◌==◌, cond, not, nat_lt, List, [], ◌∷◌, ◌++◌, length, Option, Some, None, inl, inr, refl, sym, ap, subst, ◌∙◌, arith, append_assoc, append-nil}
use Rattle.std.specs.Option.{is_some}
use Rattle.std.proofs.lemmas.Bool.{cases_Bool, true≢false, lt-ltb}
use Rattle.sprite_ids.specs.declared.Errno.{Errno}
use Rattle.sprite_ids.specs.declared.Errno.TheVariants as errno
use Rattle.process_machine.specs.declared.call.Call.{Call}
use Rattle.unix_calls.specs.declared.Description.{Description}
use Rattle.unix_calls.specs.declared.Entry.{Entry}
use Rattle.unix_calls.specs.declared.state.Named.{Named as NamedNode}
use Rattle.unix_calls.specs.declared.state.Node.{Node as UnixNode}
use Rattle.unix_calls.specs.declared.state.Node.TheVariants.{Directory, FileNode, DeviceNode}
use Rattle.unix_calls.specs.declared.state.Process.{Process}
use Rattle.unix_calls.specs.State.{Unix, with_process}
use Rattle.unix_calls.specs.Domains.{begins_domain, domain_of}
use Rattle.unix_calls.specs.Tree.{above, and_name, first_of, is_full, looked_up, name_below, names_in, node_at, same_path, walk, walk_from, walk_stop, with_name, without_name}
use Rattle.unix_calls.specs.NameCalls.{a_directory, missing, moved_to, new_refusal, no_directory, refusal_if}
use Rattle.unix_calls.specs.Opening.{cut}
use Rattle.server_names.proofs.FoundLaws.{path_is, path_itself}
use Rattle.unix_frames.proofs.ChangeLaws.{Change, Itself, Freed, Doubled, EndedSo, Ticked, Born, WaitedFor, KilledSo, MadeDirectory, RemovedDirectory, Unlinked, Renamed, OpenedFile, OpenedDevice, CreatedFile, MadeDevice, MovedTo, Wrote, Handled}
use Rattle.unix_frames.proofs.StepLaws.{Step, Calls, Asks, Fetches, Dies, entered}
use Rattle.unix_frames.proofs.EntryLaws.{none_there, no_fact}
use Rattle.tree_laws.specs.Trees.{Parts}
use Rattle.tree_laws.specs.Wellnamed.{AreNamedWell, EntriesNameWell}
use Rattle.tree_laws.proofs.WalkLaws.{above_is, walk_cons}
use Rattle.tree_laws.proofs.MakeLaws.{below_is, node_is, once_more, unix_look}
use Rattle.tree_laws.proofs.GoneLaws.{none_either, once_without, without_look}

-- ---- refusals that aren't there

pub first_none : (a b : Option Errno) → first_of a b ≡ None → (a ≡ None) × (b ≡ None)
first_none None b h = (refl, h)
first_none (Some e) b h = absurd (cc)

-- ---- paths

-- a path is the root's, or has a last part
pub record Ending (path : Parts) : Type 0 where
  pub front : Parts
  pub last : List ℕ
  pub whole : path ≡ front ++ last ∷ []

pub ends : (part : List ℕ) (path : Parts) → Ending (part ∷ path)
ends part [] = record { front = []; last = part; whole = refl }
ends part (next ∷ path) = let rest = ends next path in record { front = part ∷ rest.front; last = rest.last; whole = ap (λ (l : Parts). part ∷ l) rest.whole }

stop_none : (o : Option UnixNode) → walk_stop o ≡ None → o ≡ Some Directory
stop_none None h = absurd (cc)
stop_none (Some Directory) h = refl
stop_none (Some (FileNode name)) h = absurd (cc)
stop_none (Some (DeviceNode place)) h = absurd (cc)

-- a walk ends in a directory
walks_to : (nodes : List NamedNode) (here rest : Parts) (last : List ℕ) → node_at nodes here ≡ Some Directory → walk_from nodes here (rest ++ last ∷ []) ≡ None → node_at nodes (here ++ rest) ≡ Some Directory
walks_to nodes here [] last there h = ap (node_at nodes) (append-nil here) ∙ there
walks_to nodes here (part ∷ rest) last there h =
    let path = here ++ part ∷ [] in
    let parts = first_none (walk_stop (node_at nodes path)) (walk_from nodes path (rest ++ last ∷ [])) (sym (walk_cons nodes here part rest last) ∙ h) in
    sym (ap (node_at nodes) (append_assoc here (part ∷ []) rest)) ∙ walks_to nodes path rest last (stop_none (node_at nodes path) parts.0) parts.1

-- ---- one name more

-- what stood there still does
pub still_there : (n : NamedNode) (nodes : List NamedNode) (q : Parts) (node : UnixNode) → looked_up nodes n.path ≡ None → node_at nodes q ≡ Some node → node_at (with_name n nodes) q ≡ Some node
still_there n nodes [] node none h = h
still_there n nodes (x ∷ q) node none h =
    elim (cases_Bool (same_path n.path (x ∷ q))) [
      | inl same ↦ absurd (let two : Some node ≡ None = sym h ∙ ap (looked_up nodes) (sym (path_is n.path (x ∷ q) same)) ∙ none in cc)
      | inr apart ↦ unix_look n nodes (x ∷ q) none ∙ ap (λ b. cond b (Some n.node) (looked_up nodes (x ∷ q))) apart ∙ h
    ]

pub named_well : (nodes : List NamedNode) (front : Parts) (last : List ℕ) (node : UnixNode) → node_at nodes (front ++ last ∷ []) ≡ None → node_at nodes front ≡ Some Directory → AreNamedWell nodes → AreNamedWell (with_name (record { path = front ++ last ∷ []; node = node }) nodes)
named_well nodes front last node none there h =
    let path = front ++ last ∷ [] in
    let n : NamedNode = record { path = path; node = node } in
    let absent : looked_up nodes path ≡ None = sym (node_is nodes front last) ∙ none in
    record {
      once = once_more n nodes absent h.once;
      hang = λ d p some.
          elim (cases_Bool (same_path path (d ++ p ∷ []))) [
            | inl same ↦
                let e = path_is path (d ++ p ∷ []) same in
                let up : front ≡ d = sym (above_is front last) ∙ ap above e ∙ above_is d p in
                still_there n nodes d Directory absent (ap (node_at nodes) (sym up) ∙ there)
            | inr apart ↦
                let old : node_at (with_name n nodes) (d ++ p ∷ []) ≡ node_at nodes (d ++ p ∷ []) =
                node_is (with_name n nodes) d p ∙ unix_look n nodes (d ++ p ∷ []) absent ∙ ap (λ b. cond b (Some node) (looked_up nodes (d ++ p ∷ []))) apart ∙ sym (node_is nodes d p) in
                still_there n nodes d Directory absent (h.hang d p (sym (ap (λ o. is_some o) old) ∙ some))
          ];
    }

-- where a walk goes and nothing stands
made_well : (nodes : List NamedNode) (path : Parts) (node : UnixNode) → walk nodes path ≡ None → node_at nodes path ≡ None → AreNamedWell nodes → AreNamedWell (with_name (record { path = path; node = node }) nodes)
made_well nodes [] node way none h = absurd (cc)
made_well nodes (part ∷ path) node way none h =
    let e = ends part path in
    subst (λ (k : Parts). AreNamedWell (with_name (record { path = k; node = node }) nodes)) (sym e.whole)
    (named_well nodes e.front e.last node (ap (node_at nodes) (sym e.whole) ∙ none) (walks_to nodes [] e.front e.last refl (ap (walk_from nodes []) (sym e.whole) ∙ way)) h)

-- ---- one name less

without_at : (path q : Parts) (nodes : List NamedNode) (node : UnixNode) → node_at nodes q ≡ Some node → same_path path q ≡ false → node_at (without_name path nodes) q ≡ Some node
without_at path [] nodes node h apart = h
without_at path (x ∷ q) nodes node h apart = without_look path (x ∷ q) nodes ∙ ap (λ b. cond b None (looked_up nodes (x ∷ q))) apart ∙ h

gone_well : (nodes : List NamedNode) (path : Parts) → ((p : List ℕ) → node_at nodes (path ++ p ∷ []) ≡ None) → AreNamedWell nodes → AreNamedWell (without_name path nodes)
gone_well nodes path childless h =
    record {
      once = once_without path nodes h.once;
      hang = λ d p some.
          let new = node_is (without_name path nodes) d p ∙ without_look path (d ++ p ∷ []) nodes in
          elim (cases_Bool (same_path path (d ++ p ∷ []))) [
            | inl same ↦ absurd (true≢false (sym some ∙ ap (λ o. is_some o) (new ∙ ap (λ b. cond b None (looked_up nodes (d ++ p ∷ []))) same)))
            | inr apart ↦
                let old : node_at (without_name path nodes) (d ++ p ∷ []) ≡ node_at nodes (d ++ p ∷ []) = new ∙ ap (λ b. cond b None (looked_up nodes (d ++ p ∷ []))) apart ∙ sym (node_is nodes d p) in
                let was : is_some (node_at nodes (d ++ p ∷ [])) ≡ true = sym (ap (λ o. is_some o) old) ∙ some in
                without_at path d nodes Directory (h.hang d p was)
                (elim (cases_Bool (same_path path d)) [
                  | inl here ↦ absurd (true≢false (sym was ∙ ap (λ o. is_some o) (ap (λ (k : Parts). node_at nodes (k ++ p ∷ [])) (sym (path_is path d here)) ∙ childless p)))
                  | inr off ↦ off
                ])
          ];
    }

-- a directory with a name below it has names
more_names : (a : Option (List ℕ)) (names : List (List ℕ)) → 0 < length names → 0 < length (and_name a names)
more_names None names h = h
more_names (Some name) names h = omega arith

below_some : (nodes : List NamedNode) (d : Parts) (p : List ℕ) → is_some (looked_up nodes (d ++ p ∷ [])) ≡ true → 0 < length (names_in nodes d)
below_some [] d p h = absurd (true≢false (sym h))
below_some (m ∷ ms) d p h = by (same_path m.path (d ++ p ∷ [])) refl h (below_some ms d p)
  where
    by : (b : Bool) → same_path m.path (d ++ p ∷ []) ≡ b → is_some (cond b (Some m.node) (looked_up ms (d ++ p ∷ []))) ≡ true → (is_some (looked_up ms (d ++ p ∷ [])) ≡ true → 0 < length (names_in ms d)) → 0 < length (and_name (name_below d m.path) (names_in ms d))
    by true e h rest =
        let mine : name_below d m.path ≡ Some p = ap (name_below d) (path_is m.path (d ++ p ∷ []) e) ∙ below_is d d p ∙ ap (λ b. cond b (Some p) None) (path_itself d) in
        subst (λ o. 0 < length (and_name o (names_in ms d))) (sym mine) (omega arith)
    by false e h rest = more_names (name_below d m.path) (names_in ms d) (rest h)

empty_childless : (nodes : List NamedNode) (path : Parts) (p : List ℕ) → nat_lt 0 (length (names_in nodes path)) ≡ false → node_at nodes (path ++ p ∷ []) ≡ None
empty_childless nodes path p h =
    elim (cases_Bool (is_some (node_at nodes (path ++ p ∷ [])))) [
      | inl some ↦ absurd (true≢false (sym (lt-ltb 0 (length (names_in nodes path)) (below_some nodes path p (ap (λ o. is_some o) (sym (node_is nodes path p)) ∙ some))) ∙ h))
      | inr none ↦ none_there (node_at nodes (path ++ p ∷ [])) none
    ]

other_childless : (nodes : List NamedNode) (path : Parts) (p : List ℕ) → AreNamedWell nodes → a_directory (node_at nodes path) ≡ None → node_at nodes (path ++ p ∷ []) ≡ None
other_childless nodes path p h no_directory =
    elim (cases_Bool (is_some (node_at nodes (path ++ p ∷ [])))) [
      | inl some ↦ absurd (let two : Some errno.IsDir ≡ None = sym (ap a_directory (h.hang path p some)) ∙ no_directory in cc)
      | inr none ↦ none_there (node_at nodes (path ++ p ∷ [])) none
    ]

-- ---- a name that is renamed

renamed_well : (nodes : List NamedNode) (old new : Parts) (node : UnixNode) → a_directory (node_at nodes old) ≡ None → node_at nodes old ≡ Some node → walk nodes new ≡ None → node_at nodes new ≡ None → AreNamedWell nodes
    → AreNamedWell (with_name (record { path = new; node = node }) (without_name old nodes))
renamed_well nodes old [] node no_directory there way none h = absurd (cc)
renamed_well nodes old (part ∷ path) node no_directory there way none h =
    let e = ends part path in
    let gone = gone_well nodes old (λ p. other_childless nodes old p h no_directory) h in
    let up : node_at nodes e.front ≡ Some Directory = walks_to nodes [] e.front e.last refl (ap (walk_from nodes []) (sym e.whole) ∙ way) in
    let apart : same_path old e.front ≡ false = elim (cases_Bool (same_path old e.front)) [
      | inl same ↦ absurd (let two : Some errno.IsDir ≡ None = sym (ap a_directory (ap (node_at nodes) (path_is old e.front same) ∙ up)) ∙ no_directory in cc)
      | inr off ↦ off
    ] in
    subst (λ (k : Parts). AreNamedWell (with_name (record { path = k; node = node }) (without_name old nodes))) (sym e.whole)
    (named_well (without_name old nodes) e.front e.last node
    (node_is (without_name old nodes) e.front e.last ∙ without_look old (e.front ++ e.last ∷ []) nodes
    ∙ ap (cond (same_path old (e.front ++ e.last ∷ [])) None) (sym (node_is nodes e.front e.last) ∙ ap (node_at nodes) (sym e.whole) ∙ none) ∙ none_either (same_path old (e.front ++ e.last ∷ [])))
    (without_at old e.front nodes Directory up apart) gone)

-- ---- entries

fresh : (u : Unix) (path : Parts) → new_refusal u path ≡ None → (walk u.nodes path ≡ None) × (node_at u.nodes path ≡ None)
fresh u path h =
    let one = first_none (walk u.nodes path) (first_of (refusal_if (is_some (node_at u.nodes path)) errno.Exists) (refusal_if (is_full u.nodes (above path)) errno.TooMany)) h in
    let two = first_none (refusal_if (is_some (node_at u.nodes path)) errno.Exists) (refusal_if (is_full u.nodes (above path)) errno.TooMany) one.1 in
    (one.0, none_there (node_at u.nodes path) (no_fact (is_some (node_at u.nodes path)) errno.Exists two.0))

by_nodes : (later w : Unix) → later.nodes ≡ w.nodes → AreNamedWell w.nodes → AreNamedWell later.nodes
by_nodes later w e h = subst AreNamedWell (sym e) h

changed_well : (u : Unix) (p : Process) (called : Call) (later : Unix) → Change u p called later → AreNamedWell u.nodes → AreNamedWell later.nodes
changed_well u p called later (Itself r still e) h = by_nodes later u (ap (λ (x : Unix). x.nodes) e) h
changed_well u p called later (Freed fd r is leads e) h = by_nodes later u (ap (λ (x : Unix). x.nodes) e) h
changed_well u p called later (Doubled fd free stream r is found free_is leads e) h = by_nodes later u (ap (λ (x : Unix). x.nodes) e) h
changed_well u p called later (EndedSo how is e) h = by_nodes later u (ap (λ (x : Unix). x.nodes) e) h
changed_well u p called later (Ticked count r is still e) h = by_nodes later u (ap (λ (x : Unix). x.nodes) e) h
changed_well u p called later (Born r is few still child number parent descriptors e) h = by_nodes later u (ap (λ (x : Unix). x.nodes) e) h
changed_well u p called later (WaitedFor first r is among still e) h = by_nodes later u (ap (λ (x : Unix). x.nodes) e) h
changed_well u p called later (KilledSo target r is among killed e) h = by_nodes later u (ap (λ (x : Unix). x.nodes) e) h
changed_well u p called later (MadeDirectory path r is free still e) h =
    let two = fresh u path free in subst AreNamedWell (sym (ap (λ (x : Unix). x.nodes) e)) (made_well u.nodes path Directory two.0 two.1 h)
changed_well u p called later (RemovedDirectory path r is free still e) h =
    let there = node_at u.nodes path in
    let a = first_none (refusal_if (begins_domain u.roots path) errno.Busy) (first_of (walk u.nodes path) (first_of (missing there) (first_of (no_directory there) (refusal_if (nat_lt 0 (length (names_in u.nodes path))) errno.NotEmpty)))) free in
    let b = first_none (walk u.nodes path) (first_of (missing there) (first_of (no_directory there) (refusal_if (nat_lt 0 (length (names_in u.nodes path))) errno.NotEmpty))) a.1 in
    let d = first_none (missing there) (first_of (no_directory there) (refusal_if (nat_lt 0 (length (names_in u.nodes path))) errno.NotEmpty)) b.1 in
    let f = first_none (no_directory there) (refusal_if (nat_lt 0 (length (names_in u.nodes path))) errno.NotEmpty) d.1 in
    subst AreNamedWell (sym (ap (λ (x : Unix). x.nodes) e)) (gone_well u.nodes path (λ p. empty_childless u.nodes path p (no_fact (nat_lt 0 (length (names_in u.nodes path))) errno.NotEmpty f.1)) h)
changed_well u p called later (Unlinked path r is free still e) h =
    let there = node_at u.nodes path in
    let a = first_none (walk u.nodes path) (first_of (missing there) (a_directory there)) free in
    let b = first_none (missing there) (a_directory there) a.1 in
    subst AreNamedWell (sym (ap (λ (x : Unix). x.nodes) e)) (gone_well u.nodes path (λ p. other_childless u.nodes path p h b.1) h)
changed_well u p called later (Renamed old new r is free still e) h =
    subst AreNamedWell (sym (ap (λ (x : Unix). x.nodes) e)) (by (node_at u.nodes old) refl)
  where
    there : Option UnixNode
    there = node_at u.nodes new

    room : Option Errno
    room = refusal_if (not (same_path (above old) (above new)) && is_full u.nodes (above new)) errno.TooMany

    by : (node : Option UnixNode) → node_at u.nodes old ≡ node → AreNamedWell (moved_to old new node u).nodes
    by None is = h
    by (Some node) is =
        let stood = node_at u.nodes old in
        let a = first_none (refusal_if (not (domain_of u.roots old == domain_of u.roots new)) errno.XDev) (first_of (walk u.nodes old) (first_of (missing stood) (first_of (a_directory stood) (first_of (walk u.nodes new) (first_of (refusal_if (is_some there) errno.Exists) room))))) free in
        let b = first_none (walk u.nodes old) (first_of (missing stood) (first_of (a_directory stood) (first_of (walk u.nodes new) (first_of (refusal_if (is_some there) errno.Exists) room)))) a.1 in
        let d = first_none (missing stood) (first_of (a_directory stood) (first_of (walk u.nodes new) (first_of (refusal_if (is_some there) errno.Exists) room))) b.1 in
        let f = first_none (a_directory stood) (first_of (walk u.nodes new) (first_of (refusal_if (is_some there) errno.Exists) room)) d.1 in
        let g = first_none (walk u.nodes new) (first_of (refusal_if (is_some there) errno.Exists) room) f.1 in
        let i = first_none (refusal_if (is_some there) errno.Exists) room g.1 in
        renamed_well u.nodes old new node f.0 is g.0 (none_there there (no_fact (is_some there) errno.Exists i.0)) h
changed_well u p called later (OpenedFile path fd name truncates appends m r is found free leads e) h = by_nodes later u (ap (λ (x : Unix). x.nodes) e ∙ by truncates) h
  where
    by : (b : Bool) → (cut b name u).nodes ≡ u.nodes
    by true = refl
    by false = refl
changed_well u p called later (OpenedDevice path fd place appends m r is found free leads e) h = by_nodes later u (ap (λ (x : Unix). x.nodes) e) h
changed_well u p called later (CreatedFile path fd appends m r is way found free leads e) h = subst AreNamedWell (sym (ap (λ (x : Unix). x.nodes) e)) (made_well u.nodes path (FileNode (Rattle.unix_calls.specs.declared.state.FileName.TheVariants.Made u.entries)) way found h)
changed_well u p called later (MadeDevice path fd r is free free_is leads e) h =
    let two = fresh u path free in subst AreNamedWell (sym (ap (λ (x : Unix). x.nodes) e)) (made_well u.nodes path (DeviceNode u.entries) two.0 two.1 h)
changed_well u p called later (MovedTo fd offset stream r is found still e) h = by_nodes later u (ap (λ (x : Unix). x.nodes) e) h
changed_well u p called later (Wrote fd offset stream name bytes r is found object still e) h = by_nodes later u (ap (λ (x : Unix). x.nodes) e) h
changed_well u p called later (Handled place device new r is found same_place still e) h = by_nodes later u (ap (λ (x : Unix). x.nodes) e) h

step_well : (c : Description) (u later : Unix) (e : Entry) → Step c u e later → AreNamedWell u.nodes → AreNamedWell later.nodes
step_well c u later e (Calls q called at is whole change) h = changed_well (with_process q u) q called later change h
step_well c u later e (Asks q called place device at is ask there e_is) h = by_nodes later u (ap (λ (x : Unix). x.nodes) e_is) h
step_well c u later e (Fetches q called device reply at is done e_is) h = by_nodes later u (ap (λ (x : Unix). x.nodes) e_is) h
step_well c u later e (Dies p there alive none dead e_is) h = by_nodes later u (ap (λ (x : Unix). x.nodes) e_is) h

pub entries_name_well : EntriesNameWell
entries_name_well c u v e is h =
    let entry = entered c u v e is in
    by_nodes v entry.later (ap (λ (x : Unix). x.nodes) entry.whole) (step_well c u entry.later e entry.step h)
