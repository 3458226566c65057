-- A process that arrives: where processes are is kept, and who is ready has neither a call nor a flag.
use Rattle.std.proofs.Common.{◌≡◌, ℕ, ◌==◌, Bool, true, false, not, is_some, cond, List, Option, Some, None, option_map, refl, sym, ap, ◌∙◌, subst}
use Rattle.std.proofs.lemmas.Bool.{and_parts, not-true, and_from, not-false}
use Rattle.std.specs.BTreeMap.{is_at}
use Rattle.std.specs.List.{list_any}
use Rattle.std.specs.Map.{lookup}
use Rattle.std.specs.Ordering.{nat_cmp}
use Rattle.sprite_ids.specs.declared.TxNo.{TxNo}
use Rattle.sprite_ids.specs.Pid.{home_of}
use Rattle.sprite_ids.proofs.ListLaws.{some_is}
use Rattle.kernel_steps.specs.Rows.{is_under}
use Rattle.process_machine.specs.declared.Reply.{Reply}
use Rattle.process_machine.specs.Machine.{Machine}
use Rattle.packet_bodies.specs.declared.CarriedStream.{CarriedStream}
use Rattle.packet_bodies.specs.declared.ReplyBody.TheVariants.{Done}
use Rattle.packet_bodies.specs.declared.Request.{Request}
use Rattle.packet_bodies.specs.declared.Request.TheVariants as requests
use Rattle.migrate_freeze.specs.declared.arrival.Arrival.{Arrival}
use Rattle.migrate_freeze.specs.declared.process.Process.{Process}
use Rattle.migrate_freeze.specs.Arriving.{arrived_of, launch_arrival, process_with, transfer_arrival}
use Rattle.unix_calls.specs.declared.Event.TheVariants.{Thaw}
use Rattle.client_homes.specs.declared.client.ClientProcs.{ClientProcs}
use Rattle.client_homes.specs.declared.client.Unfinished.TheVariants as unfinished
use Rattle.client_homes.specs.declared.process.Proc.{Proc}
use Rattle.client_homes.specs.declared.process.ProcState.TheVariants as states
use Rattle.client_homes.specs.Births.{puts_proc}
use Rattle.client_homes.specs.Ends.{keeps_tx}
use Rattle.client_homes.specs.Homes.{is_killed, is_native, moves_to}
use Rattle.client_homes.specs.Killing.{forgets_waiting, is_waiting, kill_at}
use Rattle.client_homes.specs.Pages.{fetches}
use Rattle.client_homes.specs.Procs as procs
use Rattle.client_homes.specs.Kills.{is_here}
use Rattle.client_homes.specs.Procs.{is_pid, proc_at}
use Rattle.client_homes.specs.Says.{answers, gives, next_tx, notes, sends, value}
use Rattle.client_moves.specs.Paging as paging
use Rattle.client_procs.specs.Arriving as arriving
use Rattle.client_procs.specs.Launching.{fresh_image}
use Rattle.client_facts.specs.ProcFacts.{is_free_in}
use Rattle.client_facts.specs.Places.{IsNew, KeepsPlaces}
use Rattle.client_facts.proofs.ComingLaws.{came_in, changed_kept, goes_between, new_same, returned_with}
use Rattle.client_facts.proofs.PlaceLaws.{Clean, Kept, by_bool, kept_if, kept_places, kept_same, never, places_kept, settled_state, settled_with, that}

-- a process that comes: outside of its own `migrate` it has neither a call nor a fresh image
record Comes (pid : ℕ) (moving : Bool) (s : ClientProcs) : Type 0 where
  kept : Kept (that pid) s
  clean : moving ≡ false → Clean (proc_at pid s)

comes_same : (pid : ℕ) (moving : Bool) (s t : ClientProcs) → t.procs ≡ s.procs → t.leaving ≡ s.leaving → Comes pid moving s → Comes pid moving t
comes_same pid moving s t procs leaving c = record {
  kept = kept_same (that pid) s t procs leaving c.kept;
  clean = λ e. subst (λ (rows : List (ℕ × Proc)). Clean (lookup (is_at (nat_cmp pid)) rows)) (sym procs) (c.clean e);
}

comes_if : (b : Bool) (pid : ℕ) (moving : Bool) (s t : ClientProcs) → Comes pid moving s → Comes pid moving t → Comes pid moving (cond b s t)
comes_if true pid moving s t c d = c
comes_if false pid moving s t c d = d

comes_by : (o : Option Proc) (pid : ℕ) (moving : Bool) (f : Proc → Proc) (s : ClientProcs) → proc_at pid s ≡ o → ((proc : Proc) → Clean (Some proc) → Clean (Some (f proc))) → Comes pid moving s → Comes pid moving (procs.with_proc pid (option_map f o) s)
comes_by None pid moving f s e clean c = c
comes_by (Some proc) pid moving f s e clean c = record {
  kept = changed_kept pid proc f s c.kept;
  clean = λ still. (returned_with pid (Some proc) f s e clean (record { kept = c.kept; clean = c.clean still })).clean;
}

comes_with : (pid : ℕ) (moving : Bool) (f : Proc → Proc) (s : ClientProcs) → ((proc : Proc) → Clean (Some proc) → Clean (Some (f proc))) → Comes pid moving s → Comes pid moving (procs.with_proc pid (option_map f (proc_at pid s)) s)
comes_with pid moving f s clean c = comes_by (proc_at pid s) pid moving f s refl clean c

-- it is inside its own call, and is answered

settled_replies : (pid : ℕ) (reply : Reply) (s : ClientProcs) → Kept (that pid) s → Kept never (procs.replies pid reply s)
settled_replies pid reply s h =
    let returning : ClientProcs = procs.in_state pid states.Returning s in
    kept_same never returning (gives pid reply returning) refl refl (settled_state pid states.Returning s (λ proc. refl) h)

settled_answers : (o : Option ℕ) (pid : ℕ) (reply : Reply) (s : ClientProcs) → Kept (that pid) s → Kept never (paging.answers_if pid reply o s)
settled_answers (Some page) pid reply s h =
    let asked : ClientProcs = fetches pid page s in
    settled_state pid (states.AnswerPages (next_tx s) page reply) asked (λ proc. refl) (kept_same (that pid) s asked refl refl h)
settled_answers None pid reply s h = settled_replies pid reply s h

settled_goes_on : (moving : Bool) (pid : ℕ) (s : ClientProcs) → Comes pid moving s → Kept never (arriving.goes_on_by pid moving s)
settled_goes_on false pid s c = goes_between pid s (record { kept = c.kept; clean = c.clean refl })
settled_goes_on true pid s c = kept_if never (arriving.is_fresh pid s) _ _ (settled_replies pid (value 0 0) s c.kept) (settled_answers (paging.page_named pid s) pid (value 0 0) s c.kept)

settled_thaws : (pid : ℕ) (moving : Bool) (s : ClientProcs) → Comes pid moving s → Kept never (arriving.thaws pid moving s)
settled_thaws pid moving s c =
    let noted : ClientProcs = notes (Thaw pid) s in
    let ready : ClientProcs = procs.in_state pid states.Ready noted in
    settled_goes_on moving pid ready (comes_with pid moving (λ proc. record proc { state = states.Ready }) noted (λ proc k. k) (comes_same pid moving s noted refl refl c))

settled_home : (pid : ℕ) (moving : Bool) (s : ClientProcs) → Comes pid moving s → Kept never (arriving.comes_home pid moving s)
settled_home pid moving s c =
    let moved : ClientProcs = moves_to pid s.kernel s in
    let forgot : ClientProcs = forgets_waiting pid moved in
    let first : Comes pid moving moved = comes_if (is_native pid s) pid moving _ _ (comes_same pid moving s _ refl refl c) c in
    let second : Comes pid moving forgot = comes_if (is_waiting (kill_at pid moved)) pid moving _ _ (comes_same pid moving moved _ refl refl first) first in
    settled_thaws pid moving (arriving.knows_kill pid forgot) (comes_if (is_killed pid forgot) pid moving _ _ (comes_with pid moving (λ proc. record proc { killed = true }) forgot (λ proc k. k) second) second)

free_arriving : (tx : TxNo) (moving : Bool) (proc : Proc) → (moving ≡ false → Clean (Some proc)) → is_free_in (states.Arriving tx moving) proc ≡ true
free_arriving tx true proc clean = refl
free_arriving tx false proc clean = let so = clean refl in and_from (not proc.fresh) (not (is_some proc.call)) (ap not so.1) (ap not so.0)

settled_told : (pid : ℕ) (moving : Bool) (s : ClientProcs) → Comes pid moving s → Kept never (arriving.tells_home pid moving s)
settled_told pid moving s c =
    let told : ClientProcs = keeps_tx (next_tx s) (unfinished.Place pid) (sends (home_of pid) None (requests.Place pid s.kernel) s) in
    let so : Comes pid moving told = comes_same pid moving s told refl refl c in
    settled_with pid (proc_at pid told) (λ proc. record proc { state = states.Arriving (next_tx s) moving }) told refl (λ proc e. free_arriving (next_tx s) moving proc (λ still. subst Clean e (so.clean still))) so.kept

settled_comes : (pid : ℕ) (moving : Bool) (s : ClientProcs) → Comes pid moving s → Kept never (arriving.is_settled pid moving s)
unfolding arriving.is_settled
settled_comes pid moving s c = kept_if never (is_native pid s) _ _ (settled_home pid moving s c) (settled_told pid moving s c)

kept_installs : (process : Process) (fresh : Bool) (streams : List CarriedStream) (s : ClientProcs) → IsNew process.pid s → (process.moving ≡ false → fresh ≡ false) → Kept never s → Kept never (arriving.installs (record { process = process; fresh = fresh }) streams s)
kept_installs process fresh streams s new plain h =
    let opened : ClientProcs = arriving.has_streams process streams s in
    let arrived : Proc = arriving.arrived_proc process fresh in
    let here : ClientProcs = puts_proc process.pid arrived opened in
    let so = came_in process.pid arrived opened (new_same process.pid s opened refl refl new) (kept_same never s opened refl refl h) in
    settled_comes process.pid process.moving here (record { kept = so.0; clean = λ still. subst Clean (sym so.1) (refl, plain still) })

kept_launched : (o : Option Machine) (arrival : Arrival) (program : ℕ) (streams : List CarriedStream) (s : ClientProcs) → arrival.moving ≡ true → IsNew arrival.pid s → Kept never s → Kept never (arriving.installs_if (arriving.launched_with arrival program o) streams s)
kept_launched None arrival program streams s moving new h = h
kept_launched (Some image) arrival program streams s moving new h =
    by_bool (λ coming. arriving.installs_if coming streams s) (Kept never) (not (image.number == program)) _ _
    (λ _. h)
    (λ _. kept_installs (process_with arrival image) true streams s new (λ still. absurd (let both = sym moving ∙ still in cc)) h)

-- another kernel sends it
kept_takes_if : (body : Request) (tx : TxNo) (pid : ℕ) (s : ClientProcs) → arriving.brought body ≡ Some pid → IsNew pid s → Kept never s → Kept never (arriving.takes_if tx (arrived_of body) s)
kept_takes_if (requests.Transfer request) tx pid s e new h =
    let told : ClientProcs = answers tx Done s in
    let known : IsNew request.pid s = subst (λ (n : ℕ). IsNew n s) (sym (some_is request.pid pid e)) new in
    kept_installs (process_with (transfer_arrival request) request.image) false request.streams told (new_same request.pid s told refl refl known) (λ _. refl) (kept_same never s told refl refl h)
kept_takes_if (requests.Launch request) tx pid s e new h =
    let told : ClientProcs = answers tx Done s in
    let known : IsNew request.pid s = subst (λ (n : ℕ). IsNew n s) (sym (some_is request.pid pid e)) new in
    kept_launched (fresh_image s.programs request.program 0) (launch_arrival request) request.program request.streams told refl (new_same request.pid s told refl refl known) (kept_same never s told refl refl h)
kept_takes_if body tx pid s e new h = h

-- where it is neither here nor on its way from here
is_new_by : (pid : ℕ) (s : ClientProcs) → arriving.is_new pid s ≡ true → IsNew pid s
is_new_by pid s h =
    let parts = and_parts (not (is_here pid s)) (not (list_any (is_under is_pid pid) s.leaving)) h in
    record { gone = not-true (is_here pid s) parts.0; stays = not-true (list_any (is_under is_pid pid) s.leaving) parts.1 }

kept_arrives : (o : Option ℕ) (body : Request) (tx : TxNo) (s : ClientProcs) → arriving.brought body ≡ o → Kept never s → Kept never (arriving.arrives_if tx o body s)
kept_arrives None body tx s e h = h
kept_arrives (Some pid) body tx s e h =
    by_bool (λ (t : ClientProcs). t) (Kept never) (not (arriving.is_new pid s)) _ _
    (λ _. h)
    (λ new. kept_takes_if body tx pid s e (is_new_by pid s (not-false (arriving.is_new pid s) new)) h)

pub arrivals_keep_places : (body : Request) (tx : TxNo) (s : ClientProcs) → KeepsPlaces s → KeepsPlaces (arriving.arrives tx body s)
arrivals_keep_places body tx s h = places_kept (arriving.arrives tx body s) (kept_arrives (arriving.brought body) body tx s refl (kept_places s h))
