-- Steps and whole runs of a client's kernel, at its home.
use Rattle.std.proofs.Common.{◌≡◌, refl, sym, ap, subst, ◌∙◌, ℕ, ◌≤◌, List, [], ◌∷◌, ◌++◌, length}
use Rattle.sprite_ids.specs.declared.TxNo.{TxNo}
use Rattle.packet_bodies.specs.declared.Request.TheVariants as requests
use Rattle.packet_bodies.specs.declared.HomeRequest.{HomeRequest}
use Rattle.kernel_steps.specs.declared.Input.{Input}
use Rattle.kernel_steps.specs.declared.Input.TheVariants as inputs
use Rattle.home_table.specs.Home.{Table}
use Rattle.unix_calls.specs.declared.Description.{Description}
use Rattle.client_homes.specs.declared.client.ClientProcs.{ClientProcs}
use Rattle.client_homes.specs.Ends as ending
use Rattle.client_homes.specs.Homes as homes
use Rattle.client_homes.specs.Issuing as issuing
use Rattle.client_homes.specs.Issuing.{home_for}
use Rattle.client_homes.specs.Killing as killing
use Rattle.client_homes.specs.Kills as kills
use Rattle.client_homes.specs.Procs as procs_of
use Rattle.client_procs.specs.Boot.{boots}
use Rattle.client_procs.specs.Steps.{client_step}
use Rattle.client_facts.proofs.BootLaws.{homes_begin_with_facts}
use Rattle.client_walks.proofs.Deeds.{KeepsAtHome, nothing}
use Rattle.client_walks.proofs.WalkLaws.{step_walks}
use Rattle.home_acts.specs.Deeds.{AreRight, Deed, Did, DoesSo, IsHome, Seen, seen, table_behind}
use Rattle.home_acts.specs.Laws.{Begins, death_if, place_if, served_first}
use Rattle.home_acts.proofs.DeedLaws.{behind_join, deeds_keep, right_join}
use Rattle.home_acts.proofs.HomeWalk as acts
use Rattle.home_runs.specs.Runs.{AllCome, ComesHome, RanSo, Runs, Served, Takes, Turn, TurnComes, resting, turned, turned_all}
use Rattle.home_runs.proofs.FirstLaws.{boots_with_first}
use Rattle.home_runs.proofs.StillLaws.{by_home, image_kept}

awake : (c : Description) (s : ClientProcs) → IsHome c (resting s) → IsHome c (seen s)
awake c s h = record { kernels = h.kernels; own = h.own; numbered = h.numbered; waiters = h.waiters }

served_none : (c : Description) (v : Seen) → IsHome c v → Served c v v
served_none c v home = record { home = home; kernel = refl; deeds = []; table = refl; right = tt }

-- the home does some deeds more
served_more : (c : Description) (v : Seen) (s t : ClientProcs) (es : List Deed) → IsHome c (seen t) → DoesSo c (seen s) (seen t) es → Served c v (resting s) → Served c v (resting t)
served_more c v s t es home so r = record {
  home = record { kernels = home.kernels; own = home.own; numbered = home.numbered; waiters = home.waiters };
  kernel = sym home.own ∙ ap (λ (table : Table). table.home) so.table ∙ deeds_keep s.home es ∙ r.home.own ∙ r.kernel;
  deeds = r.deeds ++ es;
  table = so.table ∙ ap (λ (table : Table). table_behind table es) r.table ∙ sym (behind_join v.home r.deeds es);
  right = right_join c v.home r.deeds es r.right (subst (λ (table : Table). AreRight c table es) r.table so.right);
}

served_did : (c : Description) (v : Seen) (s t : ClientProcs) → Did c (seen s) (seen t) → Served c v (resting s) → Served c v (resting t)
served_did c v s t d r = served_more c v s t d.deeds d.home d.so r

served_begun : (c : Description) (v : Seen) (s t : ClientProcs) (first : List Deed) → Begins c (seen s) (seen t) first → Served c v (resting s) → Served c v (resting t)
served_begun c v s t first b r = served_more c v s t (first ++ b.rest) b.home b.so r

-- ---- a step

asked_at : (c : Description) (s0 s : ClientProcs) (came : Input) (tx : TxNo) (source : ℕ) (request : HomeRequest) → ComesHome came s0 → came ≡ inputs.Request tx source (requests.Home request) → Served c (resting s0) (resting s) → home_for request ≡ s.home.home
asked_at c s0 s came tx source request comes e r = subst (λ (i : Input). ComesHome i s0) e comes ∙ sym r.kernel ∙ sym r.home.own

at_home : (c : Description) (s0 : ClientProcs) (came : Input) → ComesHome came s0 → KeepsAtHome (λ s h. Served c (resting s0) (resting s)) came
at_home c s0 came comes = record {
  dies = λ s h pid r. served_begun c (resting s0) s (ending.dies pid s) (death_if (homes.is_native pid s) pid (ending.next_call pid s)) (acts.deaths_are_acts c s pid (awake c s r.home)) r;
  issues = λ s h pid r. served_did c (resting s0) s (issuing.issues_home pid s) (acts.issued_are_acts c s pid (awake c s r.home)) r;
  serves = λ s h tx source request e r.
      served_begun c (resting s0) s (issuing.serves_home tx request s) (served_first (issuing.is_death request.call) request s) (acts.served_are_acts c s tx request (awake c s r.home) (asked_at c s0 s came tx source request comes e r)) r;
  hears = λ s h tx pid body r. served_did c (resting s0) s (issuing.hears_home tx pid body s) (acts.heard_are_acts c s tx pid body (awake c s r.home)) r;
  hears_kill = λ s h tx pid r. served_did c (resting s0) s (kills.hears_kill tx pid s) (acts.kills_heard_are_acts c s tx pid (awake c s r.home)) r;
  kill_replied = λ s h pid body r. served_did c (resting s0) s (kills.kill_replied pid body s) (acts.kill_replied_still c s pid body (awake c s r.home)) r;
  tells_place = λ s h tx pid kernel r.
      served_begun c (resting s0) s (kills.tells_place tx pid kernel s) (place_if (homes.is_native pid s) pid kernel) (acts.places_heard_are_noted c s tx pid kernel (awake c s r.home)) r;
  ends = λ s h pid about r. served_did c (resting s0) s (ending.ends pid about s) (acts.ended_still c s pid about (awake c s r.home)) r;
  forgets_waiting = λ s h pid r. served_did c (resting s0) s (killing.forgets_waiting pid s) (acts.forgotten_still c s pid (awake c s r.home)) r;
  flags = λ s h pid r. served_did c (resting s0) s (procs_of.killed_at pid s) (acts.flagged_still c s pid (awake c s r.home)) r;
  lets_go = λ s h pid r. r;
}

place_kept : (c : Description) (s0 s : ClientProcs) (pid kernel : ℕ) → Served c (resting s0) (resting s) → Served c (resting s0) (resting (homes.moves_to pid kernel s))
place_kept c s0 s pid kernel r = served_did c (resting s0) s (homes.moves_to pid kernel s) (acts.moved_still c s pid kernel (awake c s r.home)) r

pub steps_are_deeds : (c : Description) (s : ClientProcs) (input : Input) (next : TxNo) (step : ℕ) → IsHome c (resting s) → ComesHome input s → Served c (resting s) (resting (client_step s input next step).0)
steps_are_deeds c s input next step home comes =
    step_walks (λ t h. Served c (resting s) (resting t)) input (by_home (Served c (resting s)) input (at_home c s input comes) (place_kept c s)) nothing s next step (served_none c (resting s) home)

-- ---- runs

turn_served : (c : Description) (turn : Turn) (s : ClientProcs) → IsHome c (resting s) → TurnComes turn s → Served c (resting s) (resting (turned turn s))
turn_served c (Takes input next step) s home comes = steps_are_deeds c s input next step home comes
turn_served c (Runs pid image) s home comes = image_kept (Served c (resting s)) pid image s (served_none c (resting s) home)

served_join : (c : Description) (v w x : Seen) → Served c v w → Served c w x → Served c v x
served_join c v w x r q = record {
  home = q.home;
  kernel = q.kernel ∙ r.kernel;
  deeds = r.deeds ++ q.deeds;
  table = q.table ∙ ap (λ (table : Table). table_behind table q.deeds) r.table ∙ sym (behind_join v.home r.deeds q.deeds);
  right = right_join c v.home r.deeds q.deeds r.right (subst (λ (table : Table). AreRight c table q.deeds) r.table q.right);
}

turns_served : (c : Description) (turns : List Turn) (s : ClientProcs) → IsHome c (resting s) → AllCome turns s → Served c (resting s) (resting (turned_all turns s))
turns_served c [] s home come = served_none c (resting s) home
turns_served c (turn ∷ turns) s home come =
    let one = turn_served c turn s home come.0 in
    served_join c (resting s) (resting (turned turn s)) (resting (turned_all turns (turned turn s))) one (turns_served c turns (turned turn s) one.home come.1)

pub runs_are_deeds : (c : Description) (kernel : ℕ) (turns : List Turn) → length c.starts ≤ 200 → 1 ≤ kernel → AllCome turns (boots c kernel) → RanSo c kernel (turned_all turns (boots c kernel))
runs_are_deeds c kernel turns few from come =
    let begun : IsHome c (resting (boots c kernel)) = record { kernels = refl; own = (homes_begin_with_facts c kernel).own; numbered = from; waiters = tt } in
    let r = turns_served c turns (boots c kernel) begun come in
    let first = boots_with_first c kernel few in
    record {
      home = r.home;
      deeds = r.deeds;
      table = r.table ∙ ap (λ (table : Table). table_behind table r.deeds) first;
      right = subst (λ (table : Table). AreRight c table r.deeds) first r.right;
    }
