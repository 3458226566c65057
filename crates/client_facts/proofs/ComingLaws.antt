-- Kills, evictions and births keep where processes are, and leave who is ready without a call or a flag.
use Rattle.std.proofs.Common.{◌≡◌, ℕ, ◌==◌, Bool, true, false, ◌&&◌, ◌||◌, not, cond, List, [], ◌∷◌, Option, Some, None, option_map, is_some, refl, sym, ap, ◌∙◌, subst}
use Rattle.std.proofs.lemmas.Bool.{and_parts, eq-eqb, not-true, and_from}
use Rattle.std.specs.List.{list_all, list_any}
use Rattle.std.specs.BTreeMap.{insert_entry, is_at}
use Rattle.std.specs.Map.{lookup, set_value}
use Rattle.std.specs.Ordering.{is_eq, match_ordering, nat_cmp}
use Rattle.std.specs.declared.cmp.Ordering.{Ordering}
use Rattle.std.specs.declared.cmp.Ordering.TheVariants.{Less, Equal, Greater}
use Rattle.sprite_ids.specs.Lists.{less, without}
use Rattle.sprite_ids.proofs.ListLaws.{some_is}
use Rattle.sprite_ids.proofs.OnceLaws.{or_false}
use Rattle.sprite_ids.specs.declared.Errno.TheVariants.{Interrupted}
use Rattle.sprite_ids.specs.Pid.{home_of}
use Rattle.process_machine.specs.declared.Reply.{Reply}
use Rattle.process_machine.specs.declared.Reply.TheVariants.{Error}
use Rattle.process_machine.specs.Machine.{Machine}
use Rattle.unix_calls.specs.declared.Entry.{Entry}
use Rattle.unix_calls.specs.declared.Event.TheVariants.{Enter}
use Rattle.kernel_steps.specs.Rows.{is_row, is_under}
use Rattle.client_file_tables.specs.Streams.{cwd_of}
use Rattle.client_homes.specs.declared.client.ClientProcs.{ClientProcs}
use Rattle.client_homes.specs.declared.client.Leaving.{Leaving}
use Rattle.client_homes.specs.declared.process.Proc.{Proc}
use Rattle.client_homes.specs.declared.process.ProcState.{ProcState}
use Rattle.client_homes.specs.declared.process.ProcState.TheVariants as states
use Rattle.client_homes.specs.Births as births
use Rattle.client_homes.specs.Ends.{dies}
use Rattle.client_homes.specs.Kills as kills
use Rattle.client_homes.specs.Kills.{is_here}
use Rattle.client_homes.specs.Procs as procs
use Rattle.client_homes.specs.Procs.{is_pid, proc_at}
use Rattle.client_homes.specs.Says.{notes}
use Rattle.client_moves.specs.Evicting as evicting
use Rattle.client_moves.specs.Returning as returning
use Rattle.client_facts.specs.ProcFacts.{is_free_if_ready, is_free_in, is_free_proc, is_gone}
use Rattle.client_facts.specs.Places.{IsNew, KeepsPlaces}
use Rattle.client_facts.proofs.BootLaws.{put_none, put_once}
use Rattle.client_facts.proofs.PlaceLaws.{Clean, Kept, Returned, at_is, excused, found_set, free_of, kept_between, kept_dies, kept_if, kept_more, kept_places, kept_replies, kept_same, kept_set, listed_here, never, places_kept, returned_more, settled, that}
use Rattle.stream_table.proofs.OwnerLaws.{eq_turned}

-- A process that is flagged or changed, whose call and fresh image stay

pub changed_kept : (pid : ℕ) (proc : Proc) (f : Proc → Proc) (s : ClientProcs) → Kept (that pid) s → Kept (that pid) (record s { procs = set_value (is_at (nat_cmp pid)) s.procs (f proc) })
changed_kept pid proc f s h = kept_set (that pid) pid (f proc) s (λ key at. ap (λ b. b || is_free_if_ready (key, f proc)) (sym (at_is pid key) ∙ at)) h

pub returned_with : (pid : ℕ) (o : Option Proc) (f : Proc → Proc) (s : ClientProcs) → proc_at pid s ≡ o → ((proc : Proc) → Clean (Some proc) → Clean (Some (f proc))) → Returned pid s → Returned pid (procs.with_proc pid (option_map f o) s)
returned_with pid None f s e clean r = r
returned_with pid (Some proc) f s e clean r = record {
  kept = kept_set (that pid) pid (f proc) s (λ key at. ap (λ b. b || is_free_if_ready (key, f proc)) (sym (at_is pid key) ∙ at)) r.kept;
  clean = subst Clean (sym (found_set (is_at (nat_cmp pid)) s.procs proc (f proc) e)) (clean proc (subst Clean e r.clean));
}

pub goes_between : (pid : ℕ) (s : ClientProcs) → Returned pid s → Kept never (returning.goes_between pid s)
goes_between pid s r = kept_between (proc_at pid s) pid s refl r.clean r.kept

-- who is found is free
free_by : (e : ℕ × Proc) (o : Option Proc) (proc : Proc) (b : Bool) → is_free_if_ready e ≡ true → (o ≡ Some proc → is_free_in proc.state proc ≡ true) → cond b (Some e.1) o ≡ Some proc → is_free_in proc.state proc ≡ true
free_by e o proc true here later h = subst (λ (p : Proc). is_free_in p.state p ≡ true) (some_is e.1 proc h) here
free_by e o proc false here later h = later h

free_found : (p : ℕ → Bool) (rows : List (ℕ × Proc)) (proc : Proc) → list_all is_free_if_ready rows ≡ true → lookup p rows ≡ Some proc → is_free_in proc.state proc ≡ true
free_found p [] proc h e = absurd (cc)
free_found p (row ∷ rows) proc h e =
    let parts = and_parts (is_free_if_ready row) (list_all is_free_if_ready rows) h in
    free_by row (lookup p rows) proc (p row.0) parts.0 (free_found p rows proc parts.1) e

clean_free : (proc : Proc) → is_free_proc proc ≡ true → Clean (Some proc)
clean_free proc h =
    let call = and_parts (not proc.killed && not proc.evict && not proc.fresh) (not (is_some proc.call)) h in
    let fresh = and_parts (not proc.killed && not proc.evict) (not proc.fresh) call.0 in
    (not-true (is_some proc.call) call.1, not-true proc.fresh fresh.1)

-- a flag more changes nothing of who isn't ready
evict_free : (state : ProcState) (proc : Proc) → evicting.is_ready_in state ≡ false → is_free_in state proc ≡ true → is_free_in state (record proc { evict = true }) ≡ true
evict_free states.Ready proc other h = absurd (cc)
evict_free (states.PageWait tx page) proc other h = h
evict_free (states.Arriving tx moving) proc other h = h
evict_free state proc other h = refl

kill_free : (state : ProcState) (proc : Proc) → evicting.is_ready_in state ≡ false → is_free_in state proc ≡ true → is_free_in state (record proc { killed = true }) ≡ true
kill_free states.Ready proc other h = absurd (cc)
kill_free (states.PageWait tx page) proc other h = h
kill_free (states.Arriving tx moving) proc other h = h
kill_free state proc other h = refl

-- Evictions

-- the state decides whether it leaves
evicted_by : (state : ProcState) (pid : ℕ) (proc : Proc) (s : ClientProcs) → proc.state ≡ state → proc_at pid s ≡ Some proc → is_free_in state proc ≡ true → Kept never s → Kept never (evicting.leaves_if_ready pid (record s { procs = set_value (is_at (nat_cmp pid)) s.procs (record proc { evict = true }) }))
evicted_by states.Ready pid proc s at e free h =
    let new : Proc = record proc { evict = true } in
    let t : ClientProcs = record s { procs = set_value (is_at (nat_cmp pid)) s.procs new } in
    let found : proc_at pid t ≡ Some new = found_set (is_at (nat_cmp pid)) s.procs proc new e in
    let ready : evicting.is_ready pid t ≡ true = ap evicting.is_ready_if found ∙ ap evicting.is_ready_in at in
    let back : Returned pid t = record { kept = kept_set (that pid) pid new s (λ key at. ap (λ b. b || is_free_if_ready (key, new)) (sym (at_is pid key) ∙ at)) (kept_more pid s h); clean = subst Clean (sym found) (clean_free proc free) } in
    subst (λ (b : Bool). Kept never (cond (not b) t (returning.goes_between pid t))) (sym ready) (goes_between pid t back)
evicted_by state pid proc s at e free h =
    let new : Proc = record proc { evict = true } in
    let t : ClientProcs = record s { procs = set_value (is_at (nat_cmp pid)) s.procs new } in
    let found : proc_at pid t ≡ Some new = found_set (is_at (nat_cmp pid)) s.procs proc new e in
    let ready : evicting.is_ready pid t ≡ false = ap evicting.is_ready_if found ∙ ap evicting.is_ready_in at in
    let so : is_free_in new.state new ≡ true = ap (λ (st : ProcState). is_free_in st new) at ∙ evict_free state proc refl free in
    subst (λ (b : Bool). Kept never (cond (not b) t (returning.goes_between pid t))) (sym ready) (kept_set never pid new s (λ key k. so) h)

evicted_at : (o : Option Proc) (pid : ℕ) (s : ClientProcs) → proc_at pid s ≡ o → Kept never s → Kept never (evicting.leaves_if_ready pid (procs.with_proc pid (option_map {T = Proc} (λ proc. record proc { evict = true }) o) s))
evicted_at None pid s e h =
    let ready : evicting.is_ready pid s ≡ false = ap evicting.is_ready_if e in
    subst (λ (b : Bool). Kept never (cond (not b) s (returning.goes_between pid s))) (sym ready) h
evicted_at (Some proc) pid s e h = evicted_by proc.state pid proc s refl e (free_found (is_at (nat_cmp pid)) s.procs proc h.free e) h

kept_evicts : (pid : ℕ) (s : ClientProcs) → Kept never s → Kept never (evicting.evicts pid s)
kept_evicts pid s h = kept_if never ((home_of pid == s.kernel) || not (evicting.runs_here pid s)) _ _ h (evicted_at (proc_at pid s) pid s refl h)

kept_evicts_all : (pids : List ℕ) (s : ClientProcs) → Kept never s → Kept never (evicting.evicts_all pids s)
kept_evicts_all [] s h = h
kept_evicts_all (pid ∷ pids) s h = kept_evicts_all pids (evicting.evicts pid s) (kept_evicts pid s h)

pub evictions_keep_places : (pids : List ℕ) (s : ClientProcs) → KeepsPlaces s → KeepsPlaces (evicting.evicts_all pids s)
evictions_keep_places pids s h = places_kept (evicting.evicts_all pids s) (kept_evicts_all pids s (kept_places s h))

-- Kills

kept_answers_by : (o : Option Entry) (pid : ℕ) (reply : Reply) (s : ClientProcs) → Kept never s → Kept never (procs.answers_by pid reply o s)
kept_answers_by None pid reply s h = h
kept_answers_by (Some entry) pid reply s h =
    let noted : ClientProcs = notes (Enter entry) s in
    kept_replies never pid reply noted (kept_same never s noted refl refl h)

killed_by : (state : ProcState) (pid : ℕ) (proc : Proc) (s : ClientProcs) → proc.state ≡ state → proc_at pid s ≡ Some proc → is_free_in state proc ≡ true → Kept never s → Kept never (kills.meets_as pid (kills.meeting_in state) (record s { procs = set_value (is_at (nat_cmp pid)) s.procs (record proc { killed = true }) }))
killed_by states.Ready pid proc s at e free h =
    let new : Proc = record proc { killed = true } in
    let t : ClientProcs = record s { procs = set_value (is_at (nat_cmp pid)) s.procs new } in
    kept_dies pid new t (found_set (is_at (nat_cmp pid)) s.procs proc new e) (kept_set (that pid) pid new s (λ key at. ap (λ b. b || is_free_if_ready (key, new)) (sym (at_is pid key) ∙ at)) (kept_more pid s h))
killed_by (states.Getting device max) pid proc s at e free h =
    let new : Proc = record proc { killed = true } in
    let so : is_free_in new.state new ≡ true = ap (λ (st : ProcState). is_free_in st new) at in
    let t : ClientProcs = record s { procs = set_value (is_at (nat_cmp pid)) s.procs new } in
    let left : ClientProcs = record t { getters = less (is_row is_pid is_pid device pid) t.getters } in
    kept_answers_by (procs.entry_at pid (Error Interrupted) left) pid (Error Interrupted) left (kept_same never t left refl refl (kept_set never pid new s (λ key k. so) h))
killed_by state pid proc s at e free h =
    let new : Proc = record proc { killed = true } in
    let so : is_free_in new.state new ≡ true = ap (λ (st : ProcState). is_free_in st new) at ∙ kill_free state proc refl free in
    kept_set never pid new s (λ key k. so) h

killed_at : (o : Option Proc) (pid : ℕ) (s : ClientProcs) → proc_at pid s ≡ o → Kept never s → Kept never (kills.meets_kill pid (procs.with_proc pid (option_map {T = Proc} (λ proc. record proc { killed = true }) o) s))
killed_at None pid s e h = subst (λ (o : Option Proc). Kept never (kills.meets_as pid (kills.meeting_of o) s)) (sym e) h
killed_at (Some proc) pid s e h =
    let new : Proc = record proc { killed = true } in
    let t : ClientProcs = record s { procs = set_value (is_at (nat_cmp pid)) s.procs new } in
    subst (λ (o : Option Proc). Kept never (kills.meets_as pid (kills.meeting_of o) t)) (sym (found_set (is_at (nat_cmp pid)) s.procs proc new e)) (killed_by proc.state pid proc s refl e (free_found (is_at (nat_cmp pid)) s.procs proc h.free e) h)

pub kills_keep_places : (pid : ℕ) (s : ClientProcs) → KeepsPlaces s → KeepsPlaces (kills.meets_kill pid (procs.killed_at pid s))
kills_keep_places pid s h = places_kept (kills.meets_kill pid (procs.killed_at pid s)) (killed_at (proc_at pid s) pid s refl (kept_places s h))

-- A process that comes

found_put_by : (k : ℕ) (v : Proc) (e : ℕ × Proc) (es more : List (ℕ × Proc)) (o : Ordering) → nat_cmp k e.0 ≡ o → lookup (is_at (nat_cmp k)) more ≡ Some v → lookup (is_at (nat_cmp k)) (match_ordering o ((k, v) ∷ e ∷ es) ((e.0, v) ∷ es) (e ∷ more)) ≡ Some v
found_put_by k v e es more Less h rest = ap (λ b. cond b (Some v) (lookup (is_at (nat_cmp k)) (e ∷ es))) (at_is k k ∙ eq-eqb k k refl)
found_put_by k v e es more Equal h rest = ap (λ (o : Ordering). cond (is_eq o) (Some v) (lookup (is_at (nat_cmp k)) es)) h
found_put_by k v e es more Greater h rest = ap (λ (o : Ordering). cond (is_eq o) (Some e.1) (lookup (is_at (nat_cmp k)) more)) h ∙ rest

found_put : (k : ℕ) (v : Proc) (rows : List (ℕ × Proc)) → lookup (is_at (nat_cmp k)) (insert_entry nat_cmp rows k v) ≡ Some v
found_put k v [] = ap (λ b. cond b (Some v) None) (at_is k k ∙ eq-eqb k k refl)
found_put k v (e ∷ es) = found_put_by k v e es (insert_entry nat_cmp es k v) (nat_cmp k e.0) refl (found_put k v es)

free_put_by : (k : ℕ) (v : Proc) (e : ℕ × Proc) (es more : List (ℕ × Proc)) (o : Ordering) → nat_cmp k e.0 ≡ o → list_all (excused (that k)) (e ∷ es) ≡ true → list_all (excused (that k)) more ≡ true → list_all (excused (that k)) (match_ordering o ((k, v) ∷ e ∷ es) ((e.0, v) ∷ es) (e ∷ more)) ≡ true
free_put_by k v e es more Less h all rest = and_from (excused (that k) (k, v)) (list_all (excused (that k)) (e ∷ es)) (ap (λ b. b || is_free_if_ready (k, v)) (eq-eqb k k refl)) all
free_put_by k v e es more Equal h all rest = and_from (excused (that k) (e.0, v)) (list_all (excused (that k)) es) (ap (λ b. b || is_free_if_ready (e.0, v)) (sym (at_is k e.0) ∙ ap is_eq h)) (and_parts (excused (that k) e) (list_all (excused (that k)) es) all).1
free_put_by k v e es more Greater h all rest = and_from (excused (that k) e) (list_all (excused (that k)) more) (and_parts (excused (that k) e) (list_all (excused (that k)) es) all).0 rest

free_put : (k : ℕ) (v : Proc) (rows : List (ℕ × Proc)) → list_all (excused (that k)) rows ≡ true → list_all (excused (that k)) (insert_entry nat_cmp rows k v) ≡ true
free_put k v [] h = and_from (excused (that k) (k, v)) true (ap (λ b. b || is_free_if_ready (k, v)) (eq-eqb k k refl)) refl
free_put k v (e ∷ es) h = free_put_by k v e es (insert_entry nat_cmp es k v) (nat_cmp k e.0) refl h (free_put k v es (and_parts (excused (that k) e) (list_all (excused (that k)) es) h).1)

gone_put : (k : ℕ) (v : Proc) (s : ClientProcs) (rows : List (ℕ × Leaving)) → list_any (is_under is_pid k) rows ≡ false → list_all (is_gone s) rows ≡ true → list_all (is_gone (births.puts_proc k v s)) rows ≡ true
gone_put k v s [] none h = refl
gone_put k v s (row ∷ rows) none h =
    let apart = or_false (row.0 == k) (list_any (is_under is_pid k) rows) none in
    let parts = and_parts (is_gone s row) (list_all (is_gone s) rows) h in
    let before = sym (listed_here row.0 s.procs) ∙ not-true (is_here row.0 s) parts.0 in
    let away : is_here row.0 (births.puts_proc k v s) ≡ false = listed_here row.0 (insert_entry nat_cmp s.procs k v) ∙ put_none row.0 k v s.procs (eq_turned k row.0 ∙ apart.0) before in
    and_from (is_gone (births.puts_proc k v s) row) (list_all (is_gone (births.puts_proc k v s)) rows) (ap not away) (gone_put k v s rows apart.1 parts.1)

-- it is here then, and all others are as before
pub came_in : (pid : ℕ) (proc : Proc) (s : ClientProcs) → IsNew pid s → Kept never s → Kept (that pid) (births.puts_proc pid proc s) × (proc_at pid (births.puts_proc pid proc s) ≡ Some proc)
came_in pid proc s new h =
    let more = kept_more pid s h in (
      record {
        once = put_once pid proc s.procs (sym (listed_here pid s.procs) ∙ new.gone) h.once;
        leaving_once = h.leaving_once;
        apart = gone_put pid proc s s.leaving new.stays h.apart;
        free = free_put pid proc s.procs more.free;
      },
      found_put pid proc s.procs,
    )

came : (pid : ℕ) (proc : Proc) (s : ClientProcs) → IsNew pid s → Clean (Some proc) → Kept never s → Returned pid (births.puts_proc pid proc s)
came pid proc s new clean h = let so = came_in pid proc s new h in record { kept = so.0; clean = subst Clean (sym so.1) clean }

pub new_same : (pid : ℕ) (s t : ClientProcs) → t.procs ≡ s.procs → t.leaving ≡ s.leaving → IsNew pid s → IsNew pid t
new_same pid s t procs leaving n = record {
  gone = ap (λ (rows : List (ℕ × Proc)). is_some (lookup (is_at (nat_cmp pid)) rows)) procs ∙ n.gone;
  stays = ap (λ (rows : List (ℕ × Leaving)). list_any (is_under is_pid pid) rows) leaving ∙ n.stays;
}

-- Births

kept_meets_early : (b : Bool) (child : ℕ) (image : Machine) (s : ClientProcs) → IsNew child s → Kept never s → Kept never (cond (not b) (births.puts_proc child (births.child_of image) s) (dies child (procs.killed_at child (record (births.puts_proc child (births.child_of image) s) { early = without (is_under is_pid child) s.early }))))
kept_meets_early false child image s new h =
    let r = came child (births.child_of image) s new (refl, refl) h in
    settled child (births.puts_proc child (births.child_of image) s) r.kept (ap free_of (found_put child (births.child_of image) s.procs))
kept_meets_early true child image s new h =
    let born : ClientProcs = births.puts_proc child (births.child_of image) s in
    let known : ClientProcs = record born { early = without (is_under is_pid child) s.early } in
    let r : Returned child known = returned_more child born known refl refl (came child (births.child_of image) s new (refl, refl) h) in
    let flagged : ClientProcs = procs.killed_at child known in
    let k : Returned child flagged = returned_with child (proc_at child known) (λ proc. record proc { killed = true }) known refl (λ proc c. c) r in
    let found : proc_at child flagged ≡ Some (record (births.child_of image) { killed = true }) =
    ap (λ (o : Option Proc). lookup (is_at (nat_cmp child)) (procs.with_proc child (option_map {T = Proc} (λ proc. record proc { killed = true }) o) known).procs) (found_put child (births.child_of image) s.procs) ∙ found_set (is_at (nat_cmp child)) known.procs (births.child_of image) (record (births.child_of image) { killed = true }) (found_put child (births.child_of image) s.procs) in
    kept_dies child (record (births.child_of image) { killed = true }) flagged found k.kept

kept_copies : (o : Option (List (List ℕ))) (child : ℕ) (s : ClientProcs) → ((births.with_cwd child o s).procs ≡ s.procs) × ((births.with_cwd child o s).leaving ≡ s.leaving)
kept_copies None child s = (refl, refl)
kept_copies (Some cwd) child s = (refl, refl)

kept_places_if : (o : Option Machine) (parent child : ℕ) (s : ClientProcs) → IsNew child s → Kept never s → Kept never (births.places_if parent child o s)
kept_places_if None parent child s new h = h
kept_places_if (Some image) parent child s new h =
    let forked : ClientProcs = births.forks_streams parent child s in
    let copied : ClientProcs = births.copies_cwd parent child forked in
    let same = kept_copies (cwd_of parent forked.files) child forked in
    kept_meets_early (list_any (is_under is_pid child) (births.puts_proc child (births.child_of image) copied).early) child image copied (new_same child s copied same.0 same.1 new) (kept_same never s copied same.0 same.1 h)

pub births_keep_places : (parent child : ℕ) (s : ClientProcs) → IsNew child s → KeepsPlaces s → KeepsPlaces (births.makes_child parent child s)
births_keep_places parent child s new h = places_kept (births.makes_child parent child s) (kept_places_if (births.child_image parent s) parent child s new (kept_places s h))
