-- A walk along a trace, from one record to the next.
use Rattle.std.proofs.Common.{◌≡◌, ◌∙◌, ◌≤◌, ◌<◌, ℕ, ◌+◌, ◌-◌, true, false, suc, List, [], ◌∷◌, ◌++◌, length, Option, Some, refl, sym, ap, subst, arith}
use Rattle.std.proofs.lemmas.Bool.{true≢false}
use Rattle.unix_calls.specs.declared.description.Description.{Description}
use Rattle.unix_calls.specs.declared.entry.Entry.{Entry}
use Rattle.unix_calls.specs.declared.event.Event.{Event}
use Rattle.unix_calls.specs.declared.event.Event.TheVariants as event
use Rattle.unix_calls.specs.declared.event.Rec.{Rec}
use Rattle.unix_calls.specs.declared.state.Process.{Process}
use Rattle.unix_calls.specs.State.{Unix}
use Rattle.unix_calls.specs.Boot.{boot_of}
use Rattle.unix_calls.specs.After.{after, state_from}
use Rattle.unix_world.specs.declared.World.{World}
use Rattle.unix_world.specs.Among.{Ascending}
use Rattle.unix_world.specs.Worlds.{unix_of}
use Rattle.one_kernel.specs.declared.Applied.TheVariants as applied
use Rattle.one_kernel.specs.Applied.{Applies}
use Rattle.one_kernel.specs.declared.Verdict.TheVariants as verdict
use Rattle.one_kernel.specs.Verdicts.{verdict_from, verdict_of, way_of}
use Rattle.one_kernel.proofs.CheckLaws.{check_applied, check_not_made, check_far}
use Rattle.call_journal.specs.Journal.{entered, journal_of}
use Rattle.call_journal.specs.Matching.{is_entry}
use Rattle.call_journal.specs.Past.{Past, no_past, past_with, state_by}
use Rattle.trace_walk.specs.declared.walking.End.{End}
use Rattle.trace_walk.specs.declared.walking.Taken.{Taken}
use Rattle.trace_walk.specs.declared.walking.Taken.TheVariants as taken
use Rattle.trace_walk.specs.Walks.{Begins, Ends, Makes, Takes, TakesEntry, Walking, cost_from, entering}

-- ---- what a record is by what became of it

-- one that is passed is no entry
pub record Passed {W : Type 0} (e : Event) (world : World) (ps : List Process) (old : W) (later : World) (qs : List Process) (new : W) : Type 0 where
  pub other : is_entry e ≡ false
  pub world_stays : later ≡ world
  pub processes_stay : qs ≡ ps
  pub watch_stays : new ≡ old

pub passed : {W : Type 0} (heeds : World → ℕ → ℕ → Entry → W → W → Type 0) (c : Description) (left : ℕ) (e : Event) (world : World) (ps : List Process) (old : W) (later : World) (qs : List Process) (new : W) → Takes heeds c left e world ps old taken.On later qs new → Passed e world ps old later qs new
passed heeds c left (event.Enter entry) world ps old later qs new takes = absurd takes
passed heeds c left (event.Burst pid count) world ps old later qs new takes =
    record { other = refl; world_stays = takes.world_stays; processes_stay = takes.processes_stay; watch_stays = takes.watch_stays }
passed heeds c left e world ps old later qs new takes =
    record { other = refl; world_stays = takes.world_stays; processes_stay = takes.processes_stay; watch_stays = takes.watch_stays }

-- any other is one
pub record AtEntry (e : Event) (Is : Entry → Type 0) : Type 0 where
  pub entry : Entry
  pub event_is : e ≡ event.Enter entry
  pub takes : Is entry

pub at_entry : {W : Type 0} (heeds : World → ℕ → ℕ → Entry → W → W → Type 0) (c : Description) (left : ℕ) (e : Event) (world : World) (ps : List Process) (old : W) (is : Taken) (later : World) (qs : List Process) (new : W) → (is ≡ taken.On → ⊥) → Takes heeds c left e world ps old is later qs new → AtEntry e (λ entry. TakesEntry heeds c left entry world ps old is later qs new)
at_entry heeds c left (event.Enter entry) world ps old is later qs new not_on takes = record { entry = entry; event_is = refl; takes = takes }
at_entry heeds c left (event.Burst pid count) world ps old is later qs new not_on takes = absurd (not_on takes.on)
at_entry heeds c left e world ps old is later qs new not_on takes = absurd (not_on takes.on)

pub entered_not_on : (way : ℕ) → taken.Entered way ≡ taken.On → ⊥
entered_not_on way is = absurd (cc (is))

pub not_made_not_on : taken.NotMade ≡ taken.On → ⊥
not_made_not_on is = absurd (cc (is))

pub far_not_on : taken.Far ≡ taken.On → ⊥
far_not_on is = absurd (cc (is))

-- ---- a record that is no entry

state_other : (c : Description) (e : Event) (u : Option Unix) → is_entry e ≡ false → state_by c e u ≡ u
state_other c (event.Enter entry) u other = absurd (true≢false other)
state_other c (event.Burst pid count) u other = refl
state_other c e u other = refl

journal_other : (e : Event) (es : List Entry) → is_entry e ≡ false → es ≡ entered e ++ es
journal_other (event.Enter entry) es other = absurd (true≢false other)
journal_other (event.Burst pid count) es other = refl
journal_other e es other = refl

pub passes_on : (c : Description) (most place cost : ℕ) (trace : List Rec) (Old New : World → List Process → Past → List Rec → Type 0) (rest : List Rec) (rec : Rec) (world : World) (ps : List Process) (here : Walking c most trace Old (rec ∷ rest) place cost world ps) → is_entry rec.event ≡ false → New world ps (past_with c rec here.past) rest → Walking c most trace New rest place cost world ps
passes_on c most place cost trace Old New rest rec world ps here other told =
    let journal : journal_of rest ≡ journal_of (rec ∷ rest) = journal_other rec.event (journal_of rest) other in
    record {
      past = past_with c rec here.past;
      unix = state_other c rec.event here.past.unix other ∙ here.unix;
      ascends = here.ascends;
      tells = told;
      leads = ap (state_from c (Some (unix_of c world ps))) journal ∙ here.leads;
      costs = ap (λ es. cost + cost_from c (Some (unix_of c world ps)) es) journal ∙ here.costs;
      verdict = ap (verdict_from c most place cost (unix_of c world ps)) journal ∙ here.verdict;
      within = here.within;
      counts = ap (λ (es : List Entry). place + length es) journal ∙ here.counts;
    }

-- ---- an entry

pub is_made : (c : Description) (left way : ℕ) (world later : World) (ps qs : List Process) (entry : Entry) → Applies c left (way_of c (unix_of c world ps) entry) (after c (unix_of c world ps) entry) (applied.Made way) later qs → Makes c world ps entry way later qs
is_made c left way world later ps qs entry applies = record { way_is = applies.0; after_is = applies.2; ascends = applies.3 }

moved_on : (a b w rest : ℕ) → w ≡ b → a + b + rest ≡ a + (w + rest)
moved_on a b w rest is = omega (arith, is)

counted_on : (place n all : ℕ) → place + suc n ≡ all → place + 1 + n ≡ all
counted_on place n all is = omega (arith, is)

-- that one kernel makes
pub enters_on : (c : Description) (most place cost way kernel : ℕ) (trace : List Rec) (Old New : World → List Process → Past → List Rec → Type 0) (rest : List Rec) (entry : Entry) (world later : World) (ps qs : List Process) (here : Walking c most trace Old (entering kernel entry ∷ rest) place cost world ps) → Applies c (most - cost) (way_of c (unix_of c world ps) entry) (after c (unix_of c world ps) entry) (applied.Made way) later qs → New later qs (past_with c (entering kernel entry) here.past) rest → Walking c most trace New rest (place + 1) (cost + way) later qs
enters_on c most place cost way kernel trace Old New rest entry world later ps qs here applies told =
    let u = unix_of c world ps in
    let made = check_applied c most place cost way u later qs entry (journal_of rest) here.within applies in
    record {
      past = past_with c (entering kernel entry) here.past;
      unix = ap (λ o. state_by c (event.Enter entry) o) here.unix ∙ applies.2;
      ascends = applies.3;
      tells = told;
      leads = ap (λ s. state_from c s (journal_of rest)) (sym applies.2) ∙ here.leads;
      costs = moved_on cost way (way_of c u entry) (cost_from c (Some (unix_of c later qs)) (journal_of rest)) applies.0
          ∙ ap (λ s. cost + (way_of c u entry + cost_from c s (journal_of rest))) (sym applies.2)
          ∙ here.costs;
      verdict = sym made.1 ∙ here.verdict;
      within = made.0;
      counts = counted_on place (length (journal_of rest)) (length (journal_of trace) + 1) here.counts;
    }

-- that one kernel doesn't make
pub stops_not_made : (c : Description) (most place cost kernel : ℕ) (trace : List Rec) (Old : World → List Process → Past → List Rec → Type 0) (rest : List Rec) (entry : Entry) (world later : World) (ps qs : List Process) (here : Walking c most trace Old (entering kernel entry ∷ rest) place cost world ps) → Applies c (most - cost) (way_of c (unix_of c world ps) entry) (after c (unix_of c world ps) entry) applied.NotMade later qs → verdict_of c most (journal_of trace) ≡ verdict.NotLegal place
stops_not_made c most place cost kernel trace Old rest entry world later ps qs here applies =
    let u = unix_of c world ps in
    let short : way_of c u entry ≤ most - cost = applies.0 in
    let within = here.within in
    let few : cost + way_of c u entry ≤ most = omega (arith, short, within) in
    sym here.verdict ∙ check_not_made c most place cost u entry (journal_of rest) few applies.1

-- whose process's way is too long
pub stops_far : (c : Description) (most place cost kernel : ℕ) (trace : List Rec) (Old : World → List Process → Past → List Rec → Type 0) (rest : List Rec) (entry : Entry) (world later : World) (ps qs : List Process) (here : Walking c most trace Old (entering kernel entry ∷ rest) place cost world ps) → Applies c (most - cost) (way_of c (unix_of c world ps) entry) (after c (unix_of c world ps) entry) applied.Far later qs → verdict_of c most (journal_of trace) ≡ verdict.Steps place
stops_far c most place cost kernel trace Old rest entry world later ps qs here applies =
    let u = unix_of c world ps in
    let long : most - cost < way_of c u entry = applies in
    let within = here.within in
    let far : most < cost + way_of c u entry = omega (arith, long, within) in
    sym here.verdict ∙ check_far c most place cost u entry (journal_of rest) far

-- ---- the whole

-- before the first record
pub begins : (c : Description) (most : ℕ) (trace : List Rec) (Tells : World → List Process → Past → List Rec → Type 0) (world : World) (ps : List Process) → unix_of c world ps ≡ boot_of c → Ascending ps → Begins c trace Tells → Walking c most trace Tells trace 1 0 world ps
begins c most trace Tells world ps boots ascends told = record {
  past = no_past c;
  unix = ap Some (sym boots);
  ascends = ascends;
  tells = told world ps boots ascends;
  leads = ap (λ u. state_from c (Some u) (journal_of trace)) boots;
  costs = none_and (cost_from c (Some (unix_of c world ps)) (journal_of trace)) ∙ ap (λ u. cost_from c (Some u) (journal_of trace)) boots;
  verdict = ap (λ u. verdict_from c most 1 0 u (journal_of trace)) boots;
  within = omega arith;
  counts = one_and (length (journal_of trace));
}
  where
    one_and : (n : ℕ) → 1 + n ≡ n + 1
    one_and n = omega arith

    none_and : (n : ℕ) → 0 + n ≡ n
    none_and n = omega arith

-- behind the last one
pub ends : (c : Description) (most : ℕ) (trace : List Rec) (Tells : World → List Process → Past → List Rec → Type 0) (end : End) → Walking c most trace Tells [] end.place end.cost end.world end.processes → (verdict_of c most (journal_of trace) ≡ verdict.Legal) × Ends c trace Tells end
ends c most trace Tells end here = (
  sym here.verdict,
  record {
    past = here.past;
    leads_to = record {
      leads = sym here.leads;
      ascends = here.ascends;
      cost_is = none_more end.cost ∙ here.costs;
      place_is = none_more end.place ∙ here.counts;
    };
    tells = here.tells;
  },
)
  where
    none_more : (n : ℕ) → n ≡ n + 0
    none_more n = omega arith

-- the same, by other names
pub walking_at : {W : Type 0} (c : Description) (most : ℕ) (trace : List Rec) (Tells : W → World → List Process → Past → List Rec → Type 0) (rest : List Rec) (place other cost sum : ℕ) (world later : World) (ps qs : List Process) (old new : W) → other ≡ place → sum ≡ cost → later ≡ world → qs ≡ ps → new ≡ old → Walking c most trace (Tells old) rest place cost world ps → Walking c most trace (Tells new) rest other sum later qs
walking_at {W = W} c most trace Tells rest place other cost sum world later ps qs old new place_is cost_is world_is processes_are watch_is here =
    subst (λ (n : ℕ). Walking c most trace (Tells new) rest n sum later qs) (sym place_is)
    (subst (λ (n : ℕ). Walking c most trace (Tells new) rest place n later qs) (sym cost_is)
    (subst (λ (w : World). Walking c most trace (Tells new) rest place cost w qs) (sym world_is)
    (subst (λ (rs : List Process). Walking c most trace (Tells new) rest place cost world rs) (sym processes_are)
    (subst (λ (w : W). Walking c most trace (Tells w) rest place cost world ps) (sym watch_is) here))))
