-- The rounds of a step keep where processes are, and leave who is ready without a call or a flag.
use Rattle.std.proofs.Common.{arith, ◌≡◌, ℕ, zero, suc, ◌+◌, ◌==◌, nat_lt, Bool, true, false, ◌&&◌, ◌||◌, not, cond, List, [], ◌∷◌, ◌++◌, length, Option, Some, None, option_map, is_some, refl, sym, ap, ◌∙◌, subst}
use Rattle.std.proofs.lemmas.Bool.{and_parts, eqb-true, ltb-true, and_from}
use Rattle.std.specs.List.{find, list_all, list_any}
use Rattle.std.specs.BTreeMap.{is_at}
use Rattle.std.specs.Map.{lookup, remove_entry, set_value}
use Rattle.std.specs.Ordering.{is_eq, nat_cmp}
use Rattle.std.specs.declared.cmp.Ordering.TheVariants.{Less, Equal, Greater}
use mathlib.Core.Bool.{or-true}
use Rattle.sprite_ids.specs.declared.Ending.{Ending}
use Rattle.sprite_ids.specs.declared.Ending.TheVariants.{Killed}
use Rattle.sprite_ids.specs.declared.Grant.{Grant}
use Rattle.sprite_ids.specs.declared.TxNo.{TxNo}
use Rattle.sprite_ids.specs.Lists.{EachOnce, less}
use Rattle.sprite_ids.specs.Pid.{home_of}
use Rattle.sprite_ids.proofs.ListLaws.{some_is}
use Rattle.sprite_ids.proofs.OnceLaws.{or_false, pushed_once}
use Rattle.process_machine.specs.declared.Reply.{Reply}
use Rattle.process_machine.specs.declared.Reply.TheVariants.{Error, Value}
use Rattle.pseudo_device.specs.declared.ask.Ask.{Ask}
use Rattle.pseudo_device.specs.Device.{Asks}
use Rattle.stream_table.specs.declared.Carried.{Carried}
use Rattle.stream_table.specs.declared.Place.{Place}
use Rattle.stream_table.proofs.OwnerLaws.{eq_turned}
use Rattle.migrate_freeze.specs.declared.frozen.MoveStep.{MoveStep}
use Rattle.migrate_freeze.specs.declared.frozen.MoveStep.TheVariants as steps
use Rattle.migrate_freeze.specs.Packing.{can_move}
use Rattle.unix_calls.specs.declared.About.{About}
use Rattle.unix_calls.specs.declared.Entry.{Entry}
use Rattle.unix_calls.specs.declared.Event.TheVariants.{Freeze}
use Rattle.packet_bodies.specs.declared.Request.TheVariants as requests
use Rattle.kernel_steps.specs.Rows.{first_under, is_under}
use Rattle.client_file_tables.specs.declared.moves.Report.{Report}
use Rattle.client_file_tables.specs.declared.moves.Report.TheVariants as reports
use Rattle.client_homes.specs.declared.client.ClientProcs.{ClientProcs}
use Rattle.client_homes.specs.declared.client.Leaving.{Leaving}
use Rattle.client_homes.specs.declared.client.Parked.{Parked}
use Rattle.client_homes.specs.declared.process.Proc.{Proc}
use Rattle.client_homes.specs.declared.process.ProcState.{ProcState}
use Rattle.client_homes.specs.declared.process.ProcState.TheVariants as states
use Rattle.client_homes.specs.Ends as ends
use Rattle.client_homes.specs.Homes as homes
use Rattle.client_homes.specs.Killing.{forgets_waiting, is_waiting, kill_at}
use Rattle.client_homes.specs.Procs as procs
use Rattle.client_homes.specs.Says.{enters_death, gives, next_tx, notes, sends, value}
use Rattle.client_homes.specs.Procs.{is_pid, proc_at}
use Rattle.client_homes.specs.Kills.{is_here}
use Rattle.client_homes.specs.Waits as waits
use Rattle.client_devices.specs.Asking as asking
use Rattle.client_devices.specs.Making as making
use Rattle.client_devices.specs.Tables as tables
use Rattle.client_moves.specs.Carrying.{all_carried, holds_master}
use Rattle.client_moves.specs.Freezing as freezing
use Rattle.client_moves.specs.Leaving as leaving
use Rattle.client_moves.specs.Returning as returning
use Rattle.client_moves.specs.declared.Route.{Route}
use Rattle.client_files.specs.Turns as files
use Rattle.client_procs.specs.Turning as turning
use Rattle.client_facts.specs.FileFacts.{same_process}
use Rattle.client_facts.specs.ProcFacts.{is_free_if_ready, is_free_in, is_gone}
use Rattle.client_facts.specs.Places.{KeepsPlaces}
use Rattle.client_facts.proofs.CostLaws.{less_once, none_left, processes_same}
use Rattle.client_facts.proofs.RowLaws.{all_less}

-- Rows of processes

-- the key that a look-up finds is the one that it looks for
at_by : (a b : ℕ) (lower same : Bool) → nat_lt a b ≡ lower → (b == a) ≡ same → (a == b) ≡ same → is_eq (cond lower Less (cond (a == b) Equal Greater)) ≡ (b == a)
at_by a b true true e f g = absurd (let under = ltb-true a b e in let equal = eqb-true b a f in omega arith)
at_by a b true false e f g = sym f
at_by a b false true e f g = ap (λ c. is_eq (cond c Equal Greater)) g ∙ sym f
at_by a b false false e f g = ap (λ c. is_eq (cond c Equal Greater)) g ∙ sym f

pub at_is : (pid key : ℕ) → is_at (nat_cmp pid) key ≡ (key == pid)
at_is pid key = at_by pid key (nat_lt pid key) (key == pid) refl refl (eq_turned pid key)

-- a test of keys alone
same_any_by : (q : ℕ → Bool) (e : ℕ × Proc) (w : Proc) (es more : List (ℕ × Proc)) (b : Bool) → list_any (λ (row : ℕ × Proc). q row.0) more ≡ list_any (λ (row : ℕ × Proc). q row.0) es → list_any (λ (row : ℕ × Proc). q row.0) (cond b ((e.0, w) ∷ es) (e ∷ more)) ≡ list_any (λ (row : ℕ × Proc). q row.0) (e ∷ es)
same_any_by q e w es more true h = refl
same_any_by q e w es more false h = ap (λ b. q e.0 || b) h

-- a test of keys alone says the same where one is set
pub same_any : (q p : ℕ → Bool) (rows : List (ℕ × Proc)) (w : Proc) → list_any (λ (row : ℕ × Proc). q row.0) (set_value p rows w) ≡ list_any (λ (row : ℕ × Proc). q row.0) rows
same_any q p [] w = refl
same_any q p (e ∷ es) w = same_any_by q e w es (set_value p es w) (p e.0) (same_any q p es w)

set_once_by : (e : ℕ × Proc) (w : Proc) (es more : List (ℕ × Proc)) (b : Bool) → EachOnce same_process (e ∷ es) → list_any (same_process e) more ≡ false → EachOnce same_process more → EachOnce same_process (cond b ((e.0, w) ∷ es) (e ∷ more))
set_once_by e w es more true h none once = h
set_once_by e w es more false h none once = (none, once)

-- each process stands once where one is set
pub set_once : (p : ℕ → Bool) (rows : List (ℕ × Proc)) (w : Proc) → EachOnce same_process rows → EachOnce same_process (set_value p rows w)
set_once p [] w h = tt
set_once p (e ∷ es) w h = set_once_by e w es (set_value p es w) (p e.0) h (same_any (λ key. key == e.0) p es w ∙ h.0) (set_once p es w h.1)

here_by : (e : ℕ × Proc) (w : Proc) (o new : Option Proc) (a b : Bool) → is_some new ≡ is_some o → (q : ℕ → Bool) (es more : List (ℕ × Proc)) → lookup q es ≡ o → lookup q more ≡ new → q e.0 ≡ b → is_some (lookup q (cond a ((e.0, w) ∷ es) (e ∷ more))) ≡ is_some (lookup q (e ∷ es))
here_by e w o new true true h q es more f g k = ap (λ c. is_some (cond c (Some w) (lookup q es))) k ∙ sym (ap (λ c. is_some (cond c (Some e.1) (lookup q es))) k)
here_by e w o new true false h q es more f g k = ap (λ c. is_some (cond c (Some w) (lookup q es))) k ∙ sym (ap (λ c. is_some (cond c (Some e.1) (lookup q es))) k)
here_by e w o new false true h q es more f g k = ap (λ c. is_some (cond c (Some e.1) (lookup q more))) k ∙ sym (ap (λ c. is_some (cond c (Some e.1) (lookup q es))) k)
here_by e w o new false false h q es more f g k = ap (λ c. is_some (cond c (Some e.1) (lookup q more))) k ∙ ap is_some g ∙ h ∙ sym (ap is_some f) ∙ sym (ap (λ c. is_some (cond c (Some e.1) (lookup q es))) k)

here_set : (q p : ℕ → Bool) (rows : List (ℕ × Proc)) (w : Proc) → is_some (lookup q (set_value p rows w)) ≡ is_some (lookup q rows)
here_set q p [] w = refl
here_set q p (e ∷ es) w = here_by e w (lookup q es) (lookup q (set_value p es w)) (p e.0) (q e.0) (here_set q p es w) q es (set_value p es w) refl refl refl

found_by : (e : ℕ × Proc) (w v : Proc) (p : ℕ → Bool) (es more : List (ℕ × Proc)) (b : Bool) → p e.0 ≡ b → (lookup p es ≡ Some v → lookup p more ≡ Some w) → cond b (Some e.1) (lookup p es) ≡ Some v → lookup p (cond b ((e.0, w) ∷ es) (e ∷ more)) ≡ Some w
found_by e w v p es more true k later h = ap (λ c. cond c (Some w) (lookup p es)) k
found_by e w v p es more false k later h = ap (λ c. cond c (Some e.1) (lookup p more)) k ∙ later h

pub found_set : (p : ℕ → Bool) (rows : List (ℕ × Proc)) (v w : Proc) → lookup p rows ≡ Some v → lookup p (set_value p rows w) ≡ Some w
found_set p [] v w h = absurd (cc)
found_set p (e ∷ es) v w h = found_by e w v p es (set_value p es w) (p e.0) refl (found_set p es v w) h

-- What is kept, but for processes that a test skips

abbrev pub excused : (ℕ → Bool) → ℕ × Proc → Bool
excused skip row = skip row.0 || is_free_if_ready row

pub record Kept (skip : ℕ → Bool) (s : ClientProcs) : Type 0 where
  pub once : EachOnce same_process s.procs
  pub leaving_once : EachOnce same_process s.leaving
  pub apart : list_all (is_gone s) s.leaving ≡ true
  pub free : list_all (excused skip) s.procs ≡ true

abbrev pub never : ℕ → Bool
never pid = false

abbrev pub that : ℕ → ℕ → Bool
that pid key = key == pid

pub kept_places : (s : ClientProcs) → KeepsPlaces s → Kept never s
kept_places s h = record { once = h.once; leaving_once = h.leaving_once; apart = h.apart; free = h.free }

pub places_kept : (s : ClientProcs) → Kept never s → KeepsPlaces s
places_kept s h = record { once = h.once; leaving_once = h.leaving_once; apart = h.apart; free = h.free }

gone_same : (s t : ClientProcs) (rows : List (ℕ × Leaving)) → ((pid : ℕ) → is_here pid t ≡ is_here pid s) → list_all (is_gone s) rows ≡ true → list_all (is_gone t) rows ≡ true
gone_same s t [] here h = refl
gone_same s t (row ∷ rows) here h =
    let parts = and_parts (is_gone s row) (list_all (is_gone s) rows) h in
    and_from (is_gone t row) (list_all (is_gone t) rows) (ap not (here row.0) ∙ parts.0) (gone_same s t rows here parts.1)

pub kept_same : (skip : ℕ → Bool) (s t : ClientProcs) → t.procs ≡ s.procs → t.leaving ≡ s.leaving → Kept skip s → Kept skip t
kept_same skip s t procs leaving h = record {
  once = subst (EachOnce same_process) (sym procs) h.once;
  leaving_once = subst (EachOnce same_process) (sym leaving) h.leaving_once;
  apart = subst (λ (rows : List (ℕ × Leaving)). list_all (is_gone t) rows ≡ true) (sym leaving) (gone_same s t s.leaving (λ pid. ap (λ (rows : List (ℕ × Proc)). is_some (lookup (is_at (nat_cmp pid)) rows)) procs) h.apart);
  free = subst (λ (rows : List (ℕ × Proc)). list_all (excused skip) rows ≡ true) (sym procs) h.free;
}

pub kept_if : (skip : ℕ → Bool) (b : Bool) (s t : ClientProcs) → Kept skip s → Kept skip t → Kept skip (cond b s t)
kept_if skip true s t h k = h
kept_if skip false s t h k = k

-- One process changed

free_by : (skip : ℕ → Bool) (e : ℕ × Proc) (w : Proc) (es more : List (ℕ × Proc)) (b : Bool) → (b ≡ true → excused skip (e.0, w) ≡ true) → list_all (excused skip) (e ∷ es) ≡ true → list_all (excused skip) more ≡ true → list_all (excused skip) (cond b ((e.0, w) ∷ es) (e ∷ more)) ≡ true
free_by skip e w es more true new h k = and_from (excused skip (e.0, w)) (list_all (excused skip) es) (new refl) (and_parts (excused skip e) (list_all (excused skip) es) h).1
free_by skip e w es more false new h k = and_from (excused skip e) (list_all (excused skip) more) (and_parts (excused skip e) (list_all (excused skip) es) h).0 k

free_set : (skip p : ℕ → Bool) (rows : List (ℕ × Proc)) (w : Proc) → ((key : ℕ) → p key ≡ true → excused skip (key, w) ≡ true) → list_all (excused skip) rows ≡ true → list_all (excused skip) (set_value p rows w) ≡ true
free_set skip p [] w new h = refl
free_set skip p (e ∷ es) w new h = free_by skip e w es (set_value p es w) (p e.0) (new e.0) h (free_set skip p es w new (and_parts (excused skip e) (list_all (excused skip) es) h).1)

pub kept_set : (skip : ℕ → Bool) (pid : ℕ) (w : Proc) (s : ClientProcs) → ((key : ℕ) → is_at (nat_cmp pid) key ≡ true → excused skip (key, w) ≡ true) → Kept skip s → Kept skip (record s { procs = set_value (is_at (nat_cmp pid)) s.procs w })
kept_set skip pid w s new h = record {
  once = set_once (is_at (nat_cmp pid)) s.procs w h.once;
  leaving_once = h.leaving_once;
  apart = gone_same s (record s { procs = set_value (is_at (nat_cmp pid)) s.procs w }) s.leaving (λ other. here_set (is_at (nat_cmp other)) (is_at (nat_cmp pid)) s.procs w) h.apart;
  free = free_set skip (is_at (nat_cmp pid)) s.procs w new h.free;
}

-- in a state other than ready it is free
pub kept_with : (skip : ℕ → Bool) (pid : ℕ) (o : Option Proc) (f : Proc → Proc) (s : ClientProcs) → ((proc : Proc) → is_free_in (f proc).state (f proc) ≡ true) → Kept skip s → Kept skip (procs.with_proc pid (option_map f o) s)
kept_with skip pid None f s free h = h
kept_with skip pid (Some proc) f s free h = kept_set skip pid (f proc) s (λ key at. ap (λ b. skip key || b) (free proc) ∙ or-true (skip key)) h

kept_state : (skip : ℕ → Bool) (pid : ℕ) (state : ProcState) (s : ClientProcs) → ((proc : Proc) → is_free_in state proc ≡ true) → Kept skip s → Kept skip (procs.in_state pid state s)
kept_state skip pid state s free h = kept_with skip pid (proc_at pid s) (λ proc. record proc { state = state }) s (λ proc. free (record proc { state = state })) h

pub kept_replies : (skip : ℕ → Bool) (pid : ℕ) (reply : Reply) (s : ClientProcs) → Kept skip s → Kept skip (procs.replies pid reply s)
kept_replies skip pid reply s h =
    let returning : ClientProcs = procs.in_state pid states.Returning s in
    kept_same skip returning (gives pid reply returning) refl refl (kept_state skip pid states.Returning s (λ proc. refl) h)

-- The skipped process settles

abbrev pub free_of : Option Proc → Bool
free_of (Some proc) = is_free_in proc.state proc
free_of None = true

free_rest : (pid : ℕ) (rows : List (ℕ × Proc)) → list_any (λ (row : ℕ × Proc). row.0 == pid) rows ≡ false → list_all (excused (that pid)) rows ≡ true → list_all is_free_if_ready rows ≡ true
free_rest pid [] none h = refl
free_rest pid (e ∷ es) none h =
    let apart = or_false (e.0 == pid) (list_any (λ (row : ℕ × Proc). row.0 == pid) es) none in
    let parts = and_parts (excused (that pid) e) (list_all (excused (that pid)) es) h in
    and_from (is_free_if_ready e) (list_all is_free_if_ready es) (sym (ap (λ b. b || is_free_if_ready e) apart.0) ∙ parts.0) (free_rest pid es apart.1 parts.1)

settle_by : (pid : ℕ) (e : ℕ × Proc) (es : List (ℕ × Proc)) (o : Option Proc) (b : Bool) → (e.0 == pid) ≡ b → EachOnce same_process (e ∷ es) → list_all (excused (that pid)) (e ∷ es) ≡ true → free_of (cond b (Some e.1) o) ≡ true → (free_of o ≡ true → list_all is_free_if_ready es ≡ true) → list_all is_free_if_ready (e ∷ es) ≡ true
settle_by pid e es o true k once h free later =
    let none = subst (λ (key : ℕ). list_any (λ (row : ℕ × Proc). row.0 == key) es ≡ false) (eqb-true e.0 pid k) once.0 in
    and_from (is_free_if_ready e) (list_all is_free_if_ready es) free (free_rest pid es none (and_parts (excused (that pid) e) (list_all (excused (that pid)) es) h).1)
settle_by pid e es o false k once h free later =
    let parts = and_parts (excused (that pid) e) (list_all (excused (that pid)) es) h in
    and_from (is_free_if_ready e) (list_all is_free_if_ready es) (sym (ap (λ b. b || is_free_if_ready e) k) ∙ parts.0) (later free)

settle_rows : (pid : ℕ) (rows : List (ℕ × Proc)) → EachOnce same_process rows → list_all (excused (that pid)) rows ≡ true → free_of (lookup (is_at (nat_cmp pid)) rows) ≡ true → list_all is_free_if_ready rows ≡ true
settle_rows pid [] once h free = refl
settle_rows pid (e ∷ es) once h free =
    settle_by pid e es (lookup (is_at (nat_cmp pid)) es) (e.0 == pid) refl once h (sym (ap (λ b. free_of (cond b (Some e.1) (lookup (is_at (nat_cmp pid)) es))) (at_is pid e.0)) ∙ free) (settle_rows pid es once.1 (and_parts (excused (that pid) e) (list_all (excused (that pid)) es) h).1)

pub settled : (pid : ℕ) (s : ClientProcs) → Kept (that pid) s → free_of (proc_at pid s) ≡ true → Kept never s
settled pid s h free = record { once = h.once; leaving_once = h.leaving_once; apart = h.apart; free = settle_rows pid s.procs h.once h.free free }

pub settled_with : (pid : ℕ) (o : Option Proc) (f : Proc → Proc) (s : ClientProcs) → proc_at pid s ≡ o → ((proc : Proc) → proc_at pid s ≡ Some proc → is_free_in (f proc).state (f proc) ≡ true) → Kept (that pid) s → Kept never (procs.with_proc pid (option_map f o) s)
settled_with pid None f s e free h = settled pid s h (ap free_of e)
settled_with pid (Some proc) f s e free h =
    let t : ClientProcs = record s { procs = set_value (is_at (nat_cmp pid)) s.procs (f proc) } in
    let new = free proc e in
    settled pid t (kept_set (that pid) pid (f proc) s (λ key at. ap (λ b. that pid key || b) new ∙ or-true (that pid key)) h) (ap free_of (found_set (is_at (nat_cmp pid)) s.procs proc (f proc) e) ∙ new)

pub settled_state : (pid : ℕ) (state : ProcState) (s : ClientProcs) → ((proc : Proc) → is_free_in state proc ≡ true) → Kept (that pid) s → Kept never (procs.in_state pid state s)
settled_state pid state s free h = settled_with pid (proc_at pid s) (λ proc. record proc { state = state }) s refl (λ proc e. free (record proc { state = state })) h

-- Ends of processes at their home

module _ (skip : ℕ → Bool) where
  kept_ends_wait : (o : Option TxNo) (pid : ℕ) (reply : Reply) (s : ClientProcs) → Kept skip s → Kept skip (waits.ends_wait pid o reply s)
  kept_ends_wait (Some tx) pid reply s h = kept_same skip s _ refl refl h
  kept_ends_wait None pid reply s h = kept_replies skip pid reply s h

  kept_ends_or_parks : (o : Option Reply) (pid : ℕ) (parked : Parked) (s : ClientProcs) → Kept skip s → Kept skip (waits.ends_or_parks pid parked o s)
  kept_ends_or_parks (Some reply) pid parked s h = kept_ends_wait parked.tx pid reply s h
  kept_ends_or_parks None pid parked s h = kept_same skip s _ refl refl h

  kept_waited : (pid : ℕ) (s : ClientProcs) → Kept skip s → Kept skip (homes.waited_at pid s)
  kept_waited pid s h = kept_if skip (homes.is_native pid s) _ _ (kept_same skip s _ refl refl h) h

  kept_enters_if : (o : Option Reply) (pid : ℕ) (parked : Parked) (s : ClientProcs) → Kept skip s → Kept skip (waits.enters_if (waits.parked_call pid parked) o s)
  kept_enters_if (Some reply) pid parked s h = kept_same skip s _ refl refl h
  kept_enters_if None pid parked s h = h

  kept_looks_again : (pid : ℕ) (parked : Parked) (s : ClientProcs) → Kept skip s → Kept skip (waits.looks_again pid parked s)
  kept_looks_again pid parked s h =
      let asked : ClientProcs = homes.waited_at pid s in
      let entered : ClientProcs = waits.waits (waits.parked_call pid parked) s in
      kept_ends_or_parks (waits.wait_reply pid s) pid parked entered (kept_enters_if (waits.wait_reply pid s) pid parked asked (kept_waited pid s h))

  kept_wakes_if : (o : Option Parked) (pid : ℕ) (s : ClientProcs) → Kept skip s → Kept skip (waits.wakes_if pid o s)
  kept_wakes_if (Some parked) pid s h = kept_looks_again pid parked s h
  kept_wakes_if None pid s h = h

  kept_wakes_parent : (o : Option ℕ) (s : ClientProcs) → Kept skip s → Kept skip (waits.wakes_parent o s)
  kept_wakes_parent None s h = h
  kept_wakes_parent (Some parent) s h =
      let left : ClientProcs = record s { waits = less (is_under is_pid parent) s.waits } in
      kept_wakes_if (first_under is_pid parent s.waits) parent left (kept_same skip s left refl refl h)

  kept_ended : (pid : ℕ) (ending : Ending) (s : ClientProcs) → Kept skip s → Kept skip (homes.ends_at pid ending s)
  kept_ended pid ending s h = kept_if skip (homes.is_native pid s) _ _ (kept_same skip s _ refl refl h) h

  kept_wakes_after : (pid : ℕ) (s : ClientProcs) → Kept skip s → Kept skip (waits.wakes_after pid s)
  kept_wakes_after pid s h =
      let forgot : ClientProcs = forgets_waiting pid s in
      let so : Kept skip forgot = kept_if skip (is_waiting (kill_at pid s)) _ _ (kept_same skip s _ refl refl h) h in
      kept_wakes_parent (homes.parent_in pid forgot) forgot so

-- Deaths

kept_closes_all : (skip : ℕ → Bool) (pid : ℕ) (about : Option About) (s : ClientProcs) → Kept skip s → Kept skip (ends.closes_all pid about s)
unfolding ends.closes_all
kept_closes_all skip pid about s h = kept_same skip s _ refl refl h

kept_dies_as : (about : About) (s : ClientProcs) → Kept (that about.pid) s → Kept never (ends.dies_as about s)
kept_dies_as about s h =
    let entered : ClientProcs = enters_death about s in
    let ended : ClientProcs = ends.ends_by_death about s in
    let woken : ClientProcs = waits.wakes_after about.pid ended in
    let ending : ClientProcs = procs.in_state about.pid states.Ending woken in
    let told : ClientProcs = ends.dies_elsewhere about s in
    kept_if never (homes.is_native about.pid s) _ _
    (kept_closes_all never about.pid None ending (settled_state about.pid states.Ending woken (λ proc. refl) (kept_wakes_after (that about.pid) about.pid ended (kept_ended (that about.pid) about.pid Killed entered (kept_same (that about.pid) s entered refl refl h)))))
    (kept_dying about s h)
  where
    kept_dying : (about : About) (s : ClientProcs) → Kept (that about.pid) s → Kept never (ends.dies_elsewhere about s)
    kept_dying about s h =
        let asked : ClientProcs = sends (home_of about.pid) None (requests.Home (ends.death_call about)) s in
        let dying : ClientProcs = procs.in_state about.pid (states.Dying (next_tx s)) asked in
        kept_same never dying _ refl refl (settled_state about.pid (states.Dying (next_tx s)) asked (λ proc. refl) (kept_same (that about.pid) s asked refl refl h))

pub kept_dies : (pid : ℕ) (proc : Proc) (s : ClientProcs) → proc_at pid s ≡ Some proc → Kept (that pid) s → Kept never (ends.dies pid s)
kept_dies pid proc s e h =
    subst (λ (o : Option Proc). Kept never (ends.dies_by pid (option_map {T = Proc} (λ proc. proc.number + 1) o) s)) (sym e) (kept_dies_as (record { pid = pid; number = proc.number + 1 }) s h)

-- Processes that leave

none_leaves : (pid : ℕ) (s : ClientProcs) (rows : List (ℕ × Leaving)) → is_here pid s ≡ true → list_all (is_gone s) rows ≡ true → list_any (is_under is_pid pid) rows ≡ false
none_leaves pid s [] here h = refl
none_leaves pid s (row ∷ rows) here h =
    let parts = and_parts (is_gone s row) (list_all (is_gone s) rows) h in
    ap (λ b. b || list_any (is_under is_pid pid) rows) (apart_by row.0 pid (row.0 == pid) refl (λ e. absurd (let same = sym (ap (λ (key : ℕ). not (is_here key s)) e) ∙ parts.0 in let not_here = ap not here in cc))) ∙ none_leaves pid s rows here parts.1
  where
    apart_by : (a b : ℕ) (t : Bool) → (a == b) ≡ t → (a ≡ b → ⊥) → t ≡ false
    apart_by a b true e h = absurd (h (eqb-true a b e))
    apart_by a b false e h = refl

-- one that is found among those that leave isn't here
gone_by : (pid : ℕ) (row : ℕ × Leaving) (o : Option (ℕ × Leaving)) (l : Leaving) (s : ClientProcs) (b : Bool) → (row.0 == pid) ≡ b → not (is_here row.0 s) ≡ true → (option_map (λ (r : ℕ × Leaving). r.1) o ≡ Some l → is_here pid s ≡ false) → option_map (λ (r : ℕ × Leaving). r.1) (cond b (Some row) o) ≡ Some l → is_here pid s ≡ false
gone_by pid row o l s true e gone later h = ap (λ (key : ℕ). is_here key s) (sym (eqb-true row.0 pid e)) ∙ not_true (is_here row.0 s) gone
  where
    not_true : (b : Bool) → not b ≡ true → b ≡ false
    not_true true h = absurd (cc)
    not_true false h = refl
gone_by pid row o l s false e gone later h = later h

gone_found : (pid : ℕ) (rows : List (ℕ × Leaving)) (l : Leaving) (s : ClientProcs) → list_all (is_gone s) rows ≡ true → first_under is_pid pid rows ≡ Some l → is_here pid s ≡ false
gone_found pid [] l s h e = absurd (cc)
gone_found pid (row ∷ rows) l s h e =
    let parts = and_parts (is_gone s row) (list_all (is_gone s) rows) h in
    gone_by pid row (find (is_under is_pid pid) rows) l s (row.0 == pid) refl parts.0 (gone_found pid rows l s parts.1) e

all_pushed : {X : Type 0} (p : X → Bool) (xs : List X) (x : X) → list_all p xs ≡ true → p x ≡ true → list_all p (xs ++ x ∷ []) ≡ true
all_pushed p [] x h k = and_from (p x) true k refl
all_pushed p (y ∷ ys) x h k = let parts = and_parts (p y) (list_all p ys) h in and_from (p y) (list_all p (ys ++ x ∷ [])) parts.0 (all_pushed p ys x parts.1 k)

kept_leaving : (pid : ℕ) (step : MoveStep) (about : Option About) (s : ClientProcs) → is_here pid s ≡ false → list_any (is_under is_pid pid) s.leaving ≡ false → Kept never s → Kept never (leaving.keeps_leaving pid step about s)
kept_leaving pid step about s gone none h = record {
  once = h.once;
  leaving_once = pushed_once same_process processes_same (pid, record { step = step; about = about }) s.leaving none h.leaving_once;
  apart = all_pushed (is_gone s) s.leaving (pid, record { step = step; about = about }) h.apart (ap not gone);
  free = h.free;
}

kept_takes_leaving : (pid : ℕ) (s : ClientProcs) → Kept never s → Kept never (leaving.takes_leaving pid s)
kept_takes_leaving pid s h = record {
  once = h.once;
  leaving_once = less_once same_process (is_under is_pid pid) s.leaving h.leaving_once;
  apart = all_less (is_gone s) (is_under is_pid pid) s.leaving h.apart;
  free = h.free;
}

kept_leaves_as : (step : MoveStep) (pid : ℕ) (about : Option About) (s : ClientProcs) → is_here pid s ≡ false → list_any (is_under is_pid pid) s.leaving ≡ false → Kept never s → Kept never (leaving.leaves_as pid step about s)
kept_leaves_as (steps.Moving moving) pid about s gone none h = by_begun (not (list_any (is_under is_pid pid) s.files.pending))
  where
    by_begun : (b : Bool) → Kept never (leaving.keeps_leaving pid (steps.Moving moving) about (cond b (leaving.begins_move pid moving about s) s))
    by_begun true = kept_leaving pid (steps.Moving moving) about (leaving.begins_move pid moving about s) gone none (kept_same never s (leaving.begins_move pid moving about s) refl refl h)
    by_begun false = kept_leaving pid (steps.Moving moving) about s gone none h
kept_leaves_as (steps.Sent sent) pid about s gone none h = kept_if never (list_any (leaving.is_page_out pid) s.unfinished) _ _ (kept_leaving pid (steps.Sent sent) about s gone none h) (kept_same never s _ refl refl h)

kept_leaves_if : (o : Option Leaving) (pid : ℕ) (s : ClientProcs) → leaving.leaving_at pid s ≡ o → Kept never s → Kept never (leaving.leaves_if pid o (leaving.takes_leaving pid s))
kept_leaves_if None pid s e h = kept_takes_leaving pid s h
kept_leaves_if (Some l) pid s e h =
    kept_leaves_as l.step pid l.about (leaving.takes_leaving pid s) (gone_found pid s.leaving l s h.apart e) (none_left pid s.leaving h.leaving_once) (kept_takes_leaving pid s h)

kept_leaves_on : (pid : ℕ) (s : ClientProcs) → Kept never s → Kept never (leaving.leaves_on pid s)
kept_leaves_on pid s h = kept_leaves_if (leaving.leaving_at pid s) pid s refl h

kept_has_moved_by : (o : Option Leaving) (pid : ℕ) (place : Place) (grant : Option Grant) (many : ℕ) (s : ClientProcs) → leaving.leaving_at pid s ≡ o → Kept never s → Kept never (leaving.leaves_on pid (leaving.notes_move_if pid o place grant many (leaving.takes_leaving pid s)))
kept_has_moved_by None pid place grant many s e h = kept_leaves_on pid (leaving.takes_leaving pid s) (kept_takes_leaving pid s h)
kept_has_moved_by (Some l) pid place grant many s e h =
    let taken : ClientProcs = leaving.takes_leaving pid s in
    kept_leaves_on pid (leaving.notes_move pid l place grant many taken) (kept_leaving pid (leaving.moved_step place grant many l.step) l.about taken (gone_found pid s.leaving l s h.apart e) (none_left pid s.leaving h.leaving_once) (kept_takes_leaving pid s h))

kept_has_moved : (pid : ℕ) (place : Place) (grant : Option Grant) (many : ℕ) (s : ClientProcs) → Kept never s → Kept never (leaving.has_moved pid place grant many s)
kept_has_moved pid place grant many s h = kept_has_moved_by (leaving.leaving_at pid s) pid place grant many s refl h

-- Processes that are taken out

remove_none_by : (q : ℕ → Bool) (e : ℕ × Proc) (es more : List (ℕ × Proc)) (b : Bool) → list_any (λ (row : ℕ × Proc). q row.0) (e ∷ es) ≡ false → list_any (λ (row : ℕ × Proc). q row.0) more ≡ false → list_any (λ (row : ℕ × Proc). q row.0) (cond b es (e ∷ more)) ≡ false
remove_none_by q e es more true h k = (or_false (q e.0) (list_any (λ (row : ℕ × Proc). q row.0) es) h).1
remove_none_by q e es more false h k = ap (λ b. b || list_any (λ (row : ℕ × Proc). q row.0) more) (or_false (q e.0) (list_any (λ (row : ℕ × Proc). q row.0) es) h).0 ∙ k

-- and where none has a key, none has it behind
pub remove_none : (q p : ℕ → Bool) (rows : List (ℕ × Proc)) → list_any (λ (row : ℕ × Proc). q row.0) rows ≡ false → list_any (λ (row : ℕ × Proc). q row.0) (remove_entry p rows) ≡ false
remove_none q p [] h = refl
remove_none q p (e ∷ es) h = remove_none_by q e es (remove_entry p es) (p e.0) h (remove_none q p es (or_false (q e.0) (list_any (λ (row : ℕ × Proc). q row.0) es) h).1)

remove_once_by : (e : ℕ × Proc) (es more : List (ℕ × Proc)) (b : Bool) → EachOnce same_process (e ∷ es) → list_any (same_process e) more ≡ false → EachOnce same_process more → EachOnce same_process (cond b es (e ∷ more))
remove_once_by e es more true h none once = h.1
remove_once_by e es more false h none once = (none, once)

-- each stands once where one is taken out
pub remove_once : (p : ℕ → Bool) (rows : List (ℕ × Proc)) → EachOnce same_process rows → EachOnce same_process (remove_entry p rows)
remove_once p [] h = tt
remove_once p (e ∷ es) h = remove_once_by e es (remove_entry p es) (p e.0) h (remove_none (λ key. key == e.0) p es h.0) (remove_once p es h.1)

remove_free_by : (e : ℕ × Proc) (es more : List (ℕ × Proc)) (b : Bool) → list_all is_free_if_ready (e ∷ es) ≡ true → list_all is_free_if_ready more ≡ true → list_all is_free_if_ready (cond b es (e ∷ more)) ≡ true
remove_free_by e es more true h k = (and_parts (is_free_if_ready e) (list_all is_free_if_ready es) h).1
remove_free_by e es more false h k = and_from (is_free_if_ready e) (list_all is_free_if_ready more) (and_parts (is_free_if_ready e) (list_all is_free_if_ready es) h).0 k

remove_free : (p : ℕ → Bool) (rows : List (ℕ × Proc)) → list_all is_free_if_ready rows ≡ true → list_all is_free_if_ready (remove_entry p rows) ≡ true
remove_free p [] h = refl
remove_free p (e ∷ es) h = remove_free_by e es (remove_entry p es) (p e.0) h (remove_free p es (and_parts (is_free_if_ready e) (list_all is_free_if_ready es) h).1)

-- whom a look-up finds stands there
pub listed_here : (pid : ℕ) (rows : List (ℕ × Proc)) → is_some (lookup (is_at (nat_cmp pid)) rows) ≡ list_any (λ (row : ℕ × Proc). row.0 == pid) rows
listed_here pid [] = refl
listed_here pid (e ∷ es) = by_test (is_at (nat_cmp pid) e.0) (e.0 == pid) (at_is pid e.0) (listed_here pid es)
  where
    by_test : (a b : Bool) → a ≡ b → is_some (lookup (is_at (nat_cmp pid)) es) ≡ list_any (λ (row : ℕ × Proc). row.0 == pid) es → is_some (cond a (Some e.1) (lookup (is_at (nat_cmp pid)) es)) ≡ (b || list_any (λ (row : ℕ × Proc). row.0 == pid) es)
    by_test true true f h = refl
    by_test true false f h = absurd (cc)
    by_test false true f h = absurd (cc)
    by_test false false f h = h

removed_by : (pid : ℕ) (e : ℕ × Proc) (es more : List (ℕ × Proc)) (b : Bool) → (e.0 == pid) ≡ b → list_any (same_process e) es ≡ false → list_any (λ (row : ℕ × Proc). row.0 == pid) more ≡ false → list_any (λ (row : ℕ × Proc). row.0 == pid) (cond b es (e ∷ more)) ≡ false
removed_by pid e es more true k none h = subst (λ (key : ℕ). list_any (λ (row : ℕ × Proc). row.0 == key) es ≡ false) (eqb-true e.0 pid k) none
removed_by pid e es more false k none h = ap (λ b. b || list_any (λ (row : ℕ × Proc). row.0 == pid) more) k ∙ h

-- and it isn't there then
pub removed_none : (pid : ℕ) (rows : List (ℕ × Proc)) → EachOnce same_process rows → list_any (λ (row : ℕ × Proc). row.0 == pid) (remove_entry (is_at (nat_cmp pid)) rows) ≡ false
removed_none pid [] h = refl
removed_none pid (e ∷ es) h =
    removed_by pid e es (remove_entry (is_at (nat_cmp pid)) es) (is_at (nat_cmp pid) e.0) (sym (at_is pid e.0)) h.0 (removed_none pid es h.1)

gone_less : (s t : ClientProcs) (rows : List (ℕ × Leaving)) → ((pid : ℕ) → is_here pid s ≡ false → is_here pid t ≡ false) → list_all (is_gone s) rows ≡ true → list_all (is_gone t) rows ≡ true
gone_less s t [] fewer h = refl
gone_less s t (row ∷ rows) fewer h =
    let parts = and_parts (is_gone s row) (list_all (is_gone s) rows) h in
    and_from (is_gone t row) (list_all (is_gone t) rows) (ap not (fewer row.0 (not_true (is_here row.0 s) parts.0))) (gone_less s t rows fewer parts.1)
  where
    not_true : (b : Bool) → not b ≡ true → b ≡ false
    not_true true h = absurd (cc)
    not_true false h = refl

kept_takes_proc : (pid : ℕ) (s : ClientProcs) → Kept never s → Kept never (freezing.takes_proc pid s)
kept_takes_proc pid s h = record {
  once = remove_once (is_at (nat_cmp pid)) s.procs h.once;
  leaving_once = h.leaving_once;
  apart = gone_less s (freezing.takes_proc pid s) s.leaving (λ other none. listed_here other (remove_entry (is_at (nat_cmp pid)) s.procs) ∙ remove_none (that other) (is_at (nat_cmp pid)) s.procs (sym (listed_here other s.procs) ∙ none)) h.apart;
  free = remove_free (is_at (nat_cmp pid)) s.procs h.free;
}

-- Freezes

kept_puts_pages : (pages : List (ℕ × List ℕ)) (pid : ℕ) (s : ClientProcs) → Kept never s → Kept never (freezing.puts_pages pid pages s)
kept_puts_pages [] pid s h = h
kept_puts_pages (page ∷ pages) pid s h =
    let put : ClientProcs = freezing.puts_page pid page.0 page.1 s in
    kept_puts_pages pages pid put (kept_same never s put refl refl h)

same_pages : (pages : List (ℕ × List ℕ)) (pid : ℕ) (s : ClientProcs) → ((freezing.puts_pages pid pages s).procs ≡ s.procs) × ((freezing.puts_pages pid pages s).leaving ≡ s.leaving)
same_pages [] pid s = (refl, refl)
same_pages (page ∷ pages) pid s = same_pages pages pid (freezing.puts_page pid page.0 page.1 s)

-- a process that isn't here and doesn't leave begins to leave
kept_sends_off : (pid : ℕ) (proc : Proc) (route : Route) (streams : List Carried) (s : ClientProcs) → is_here pid s ≡ false → list_any (is_under is_pid pid) s.leaving ≡ false → Kept never s → Kept never (freezing.sends_off pid proc route streams s)
kept_sends_off pid proc route streams s gone none h =
    let dropped : ClientProcs = freezing.drops_cwd pid s in
    kept_leaves_on pid _ (kept_leaving pid _ route.about dropped gone none (kept_same never s dropped refl refl h))

kept_puts_out_if : (o : Option Proc) (pid : ℕ) (route : Route) (streams : List Carried) (s : ClientProcs) → proc_at pid s ≡ o → Kept never s → Kept never (freezing.puts_out_if pid o route streams (freezing.takes_proc pid s))
kept_puts_out_if None pid route streams s e h = kept_takes_proc pid s h
kept_puts_out_if (Some proc) pid route streams s e h =
    let taken : ClientProcs = freezing.takes_proc pid s in
    let pages = freezing.pages_for route.program proc.image in
    let put : ClientProcs = freezing.puts_pages pid pages taken in
    let same = same_pages pages pid taken in
    let gone : is_here pid taken ≡ false = listed_here pid (remove_entry (is_at (nat_cmp pid)) s.procs) ∙ removed_none pid s.procs h.once in
    let none : list_any (is_under is_pid pid) taken.leaving ≡ false = none_leaves pid s s.leaving (ap is_some e) h.apart in
    kept_sends_off pid (freezing.without_pages route.program proc) route streams put
    (ap (λ (rows : List (ℕ × Proc)). is_some (lookup (is_at (nat_cmp pid)) rows)) same.0 ∙ gone)
    (ap (λ (rows : List (ℕ × Leaving)). list_any (is_under is_pid pid) rows) same.1 ∙ none)
    (kept_puts_pages pages pid taken (kept_takes_proc pid s h))

kept_entered_if : (o : Option Entry) (s : ClientProcs) → Kept never s → Kept never (procs.enters_if o s)
kept_entered_if None s h = h
kept_entered_if (Some entry) s h = kept_same never s _ refl refl h

kept_enters_move : (o : Option About) (pid : ℕ) (s : ClientProcs) → Kept never s → Kept never (freezing.enters_move pid o s)
kept_enters_move None pid s h = h
kept_enters_move (Some about) pid s h = kept_entered_if (procs.entry_at pid (value 0 0) s) s h

kept_freezes : (pid : ℕ) (route : Route) (s : ClientProcs) → Kept never s → Kept never (freezing.freezes pid route s)
kept_freezes pid route s h =
    let noted : ClientProcs = notes (Freeze pid) s in
    let entered : ClientProcs = freezing.enters_move pid route.about noted in
    kept_if never (not (can_move (all_carried pid s))) _ _ h
    (kept_puts_out_if (proc_at pid entered) pid route (all_carried pid s) entered refl (kept_enters_move route.about pid noted (kept_same never s noted refl refl h)))

-- Calls that return

-- a process that has returned has neither a call nor a fresh image
abbrev pub Clean : Option Proc → Type 0
Clean None = Unit {0}
Clean (Some proc) = (is_some proc.call ≡ false) × (proc.fresh ≡ false)

free_clean : (state : ProcState) (proc : Proc) → proc.killed ≡ false → proc.evict ≡ false → (is_some proc.call ≡ false) × (proc.fresh ≡ false) → is_free_in state proc ≡ true
free_clean states.Ready proc killed evict clean =
    let call = ap not clean.0 in
    let fresh = ap not clean.1 in
    and_from (not proc.killed && not proc.evict && not proc.fresh) (not (is_some proc.call)) (and_from (not proc.killed && not proc.evict) (not proc.fresh) (and_from (not proc.killed) (not proc.evict) (ap not killed) (ap not evict)) fresh) call
free_clean (states.PageWait tx page) proc killed evict clean = and_from (not proc.fresh) (not (is_some proc.call)) (ap not clean.1) (ap not clean.0)
free_clean (states.Arriving tx moving) proc killed evict clean = ap (λ b. moving || b) (and_from (not proc.fresh) (not (is_some proc.call)) (ap not clean.1) (ap not clean.0)) ∙ or-true moving
free_clean state proc killed evict clean = refl

pub by_bool : {B C : Type 0} (f : B → C) (P : C → Type 0) (t : Bool) (x y : B) → (t ≡ true → P (f x)) → (t ≡ false → P (f y)) → P (f (cond t x y))
by_bool f P true x y h k = h refl
by_bool f P false x y h k = k refl

kept_evicted : (pid : ℕ) (proc : Proc) (s : ClientProcs) → proc_at pid s ≡ Some proc → proc.killed ≡ false → Clean (Some proc) → Kept (that pid) s → Kept never (returning.is_evicted pid s)
kept_evicted pid proc s e alive clean h =
    let stays : ClientProcs = returning.with_evict false pid s in
    let so : Kept never stays = settled_with pid (proc_at pid s) (λ other. record other { evict = false }) s refl (λ other f. let same = some_is proc other (sym e ∙ f) in subst (λ (p : Proc). is_free_in p.state (record p { evict = false }) ≡ true) same (free_clean proc.state (record proc { evict = false }) alive refl clean)) h in
    kept_if never (holds_master pid stays) _ _ so (kept_freezes pid (record { to = home_of pid; about = None; program = None }) stays so)

pub kept_between : (o : Option Proc) (pid : ℕ) (s : ClientProcs) → proc_at pid s ≡ o → Clean o → Kept (that pid) s → Kept never (returning.goes_between_as pid (returning.standing_if o) s)
kept_between None pid s e clean h = settled pid s h (ap free_of e)
kept_between (Some proc) pid s e clean h =
    by_bool (λ standing. returning.goes_between_as pid standing s) (Kept never) proc.killed _ _
    (λ _. kept_dies pid proc s e h)
    (λ alive. by_bool (λ standing. returning.goes_between_as pid standing s) (Kept never) proc.evict _ _
    (λ _. kept_evicted pid proc s e alive clean h)
    (λ stays. settled pid s h (ap free_of e ∙ free_clean proc.state proc alive stays clean)))

pub record Returned (pid : ℕ) (s : ClientProcs) : Type 0 where
  pub kept : Kept (that pid) s
  pub clean : Clean (proc_at pid s)

pub kept_more : (pid : ℕ) (s : ClientProcs) → Kept never s → Kept (that pid) s
kept_more pid s h = record { once = h.once; leaving_once = h.leaving_once; apart = h.apart; free = more s.procs h.free }
  where
    more : (rows : List (ℕ × Proc)) → list_all is_free_if_ready rows ≡ true → list_all (excused (that pid)) rows ≡ true
    more [] h = refl
    more (e ∷ es) h =
        let parts = and_parts (is_free_if_ready e) (list_all is_free_if_ready es) h in
        and_from (excused (that pid) e) (list_all (excused (that pid)) es) (ap (λ b. that pid e.0 || b) parts.0 ∙ or-true (that pid e.0)) (more es parts.1)

returned_by : (o : Option Proc) (pid : ℕ) (reply : Reply) (s : ClientProcs) → proc_at pid s ≡ o → Kept never s → Returned pid (record s { procs = returning.returned_with pid (option_map {T = Proc} (returning.returned s.programs reply) o) s.procs })
returned_by None pid reply s e h = record { kept = kept_more pid s h; clean = subst Clean (sym e) tt }
returned_by (Some proc) pid reply s e h =
    let new : Proc = returning.returned s.programs reply proc in
    record {
      kept = kept_set (that pid) pid new s (λ key at. ap (λ b. b || is_free_if_ready (key, new)) (sym (at_is pid key) ∙ at)) (kept_more pid s h);
      clean = subst Clean (sym (found_set (is_at (nat_cmp pid)) s.procs proc new e)) (refl, refl);
    }

pub returned_more : (pid : ℕ) (s t : ClientProcs) → t.procs ≡ s.procs → t.leaving ≡ s.leaving → Returned pid s → Returned pid t
returned_more pid s t procs leaving r = record {
  kept = kept_same (that pid) s t procs leaving r.kept;
  clean = subst (λ (rows : List (ℕ × Proc)). Clean (lookup (is_at (nat_cmp pid)) rows)) (sym procs) r.clean;
}

returned_noted : (o : Option ℕ) (pid : ℕ) (reply : Reply) (s : ClientProcs) → Returned pid s → Returned pid (returning.notes_return_as pid reply o s)
returned_noted None pid reply s r = r
returned_noted (Some number) pid reply s r = returned_more pid s _ refl refl r

kept_unmakes : (reply : Reply) (device : ℕ) (s : ClientProcs) → Kept never s → Kept never (making.unmakes device reply s)
kept_unmakes (Error errno) device s h = kept_same never s _ refl refl h
kept_unmakes (Value first second bytes) device s h = h

kept_unmakes_if : (o : Option ℕ) (reply : Reply) (s : ClientProcs) → Kept never s → Kept never (making.unmakes_if reply o s)
kept_unmakes_if None reply s h = h
kept_unmakes_if (Some device) reply s h = kept_unmakes reply device s h

kept_finishes : (pid : ℕ) (reply : Reply) (s : ClientProcs) → Kept never s → Kept never (returning.finishes_call pid reply s)
kept_finishes pid reply s h =
    let left : ClientProcs = record s { making = less (is_under is_pid pid) s.making } in
    let made : ClientProcs = making.ends_making pid reply s in
    let so : Kept never made = kept_unmakes_if (first_under is_pid pid s.making) reply left (kept_same never s left refl refl h) in
    let back : ClientProcs = returning.has_returned pid reply made in
    let noted : ClientProcs = returning.notes_return pid reply back in
    let r : Returned pid noted = returned_noted (returning.number_at pid back) pid reply back (returned_by (proc_at pid made) pid reply made refl so) in
    kept_between (proc_at pid noted) pid noted refl r.clean r.kept

-- Rounds

kept_gives_of : (rows : List (ℕ × Reply)) (s : ClientProcs) → Kept never s → Kept never (turning.gives_of rows s)
kept_gives_of [] s h = h
kept_gives_of (row ∷ rest) s h =
    let left : ClientProcs = record s { files = record s.files { out = record s.files.out { replies = rest } } } in
    kept_finishes row.0 row.1 left (kept_same never s left refl refl h)

kept_gives_turns : (count : ℕ) (s : ClientProcs) → Kept never s → Kept never (turning.gives_turns count s)
kept_gives_turns zero s h = h
kept_gives_turns (suc count) s h = let before = turning.gives_turns count s in kept_gives_of before.files.out.replies before (kept_gives_turns count s h)

kept_gives_to : (o : Option (Option TxNo)) (pid : ℕ) (reply : Reply) (s : ClientProcs) → Kept never s → Kept never (asking.gives_to pid o reply s)
kept_gives_to (Some (Some tx)) pid reply s h = kept_same never s _ refl refl h
kept_gives_to (Some None) pid reply s h = kept_replies never pid reply s h
kept_gives_to None pid reply s h = h

kept_ends_ask : (ask : Ask) (reply : Reply) (s : ClientProcs) → Kept never s → Kept never (asking.ends_ask ask reply s)
kept_ends_ask ask reply s h =
    let noted : ClientProcs = asking.notes_end ask reply s in
    let left : ClientProcs = record noted { asked = less (is_under asking.is_about (asking.about_ask ask)) noted.asked } in
    kept_gives_to (first_under asking.is_about (asking.about_ask ask) noted.asked) ask.pid reply left (kept_same never s left refl refl h)

kept_ends_all : (asks : List Ask) (s : ClientProcs) → Kept never s → Kept never (making.ends_all asks s)
kept_ends_all [] s h = h
kept_ends_all (ask ∷ asks) s h = kept_ends_all asks (asking.ends_ask ask _ s) (kept_ends_ask ask _ s h)

kept_with_device : (o : Option Asks) (device : ℕ) (s : ClientProcs) → Kept never s → Kept never (tables.with_device device o s)
kept_with_device None device s h = h
kept_with_device (Some asks) device s h = kept_same never s _ refl refl h

kept_closes_master : (device : ℕ) (s : ClientProcs) → Kept never s → Kept never (making.closes_master device s)
kept_closes_master device s h =
    let left : ClientProcs = tables.left_at device s in
    kept_ends_all (tables.asks_at device s) left (kept_with_device (option_map tables.left_by (tables.asks_in device s)) device s h)

kept_takes_report : (report : Report) (s : ClientProcs) → Kept never s → Kept never (turning.takes_report report s)
kept_takes_report (reports.Moved pid place grant many) s h = kept_has_moved pid place grant many s h
kept_takes_report (reports.MasterClosed device) s h = kept_closes_master device.number s h
kept_takes_report (reports.AllClosed pid) s h = kept_takes_proc pid s h

kept_takes_of : (list : List Report) (s : ClientProcs) → Kept never s → Kept never (turning.takes_of list s)
kept_takes_of [] s h = h
kept_takes_of (report ∷ rest) s h =
    let left : ClientProcs = record s { files = record s.files { results = rest } } in
    kept_takes_report report left (kept_same never s left refl refl h)

kept_takes_turns : (count : ℕ) (s : ClientProcs) → Kept never s → Kept never (turning.takes_turns count s)
kept_takes_turns zero s h = h
kept_takes_turns (suc count) s h = let before = turning.takes_turns count s in kept_takes_of before.files.results before (kept_takes_turns count s h)

kept_turned : (s : ClientProcs) → Kept never s → Kept never (turning.turned s)
kept_turned s h =
    let ran : ClientProcs = record s { files = files.goes_on s.files } in
    let given : ClientProcs = turning.gives_all ran in
    kept_if never (turning.is_quiet s) _ _ h (kept_takes_turns (length given.files.results) given (kept_gives_turns (length ran.procs) ran (kept_same never s ran refl refl h)))

kept_turns : (count : ℕ) (s : ClientProcs) → Kept never s → Kept never (turning.turns count s)
kept_turns zero s h = h
kept_turns (suc count) s h = kept_turned (turning.turns count s) (kept_turns count s h)

pub round_keeps_places : (s : ClientProcs) → KeepsPlaces s → KeepsPlaces (turning.turned s)
round_keeps_places s h = places_kept (turning.turned s) (kept_turned s (kept_places s h))

pub rounds_keep_places : (s : ClientProcs) → KeepsPlaces s → KeepsPlaces (turning.goes_on s)
rounds_keep_places s h = places_kept (turning.goes_on s) (kept_turns (turning.rounds_for s) s (kept_places s h))
