-- What a trace's entries do to files, from one record to the next.
use Rattle.std.proofs.Common.{◌≡◌, ◌∙◌, ℕ, true, false, List, [], ◌∷◌, ◌++◌, Option, Some, refl, sym, ap, append_assoc}
use Rattle.std.proofs.lemmas.Bool.{true≢false}
use Rattle.std.proofs.lemmas.List.{append-nil}
use Rattle.unix_calls.specs.Lawful.{Lawful}
use Rattle.unix_calls.specs.declared.description.Description.{Description}
use Rattle.unix_calls.specs.declared.entry.Entry.{Entry}
use Rattle.unix_calls.specs.declared.event.Event.{Event}
use Rattle.unix_calls.specs.declared.event.Event.TheVariants as event
use Rattle.unix_calls.specs.declared.event.Rec.{Rec}
use Rattle.unix_calls.specs.declared.state.Process.{Process}
use Rattle.unix_calls.specs.declared.state.Stream.{Stream}
use Rattle.unix_calls.specs.State.{Unix}
use Rattle.unix_world.specs.declared.World.{World}
use Rattle.unix_world.specs.Among.{Ascending}
use Rattle.unix_world.specs.Worlds.{unix_of}
use Rattle.call_journal.specs.Matching.{is_entry}
use Rattle.call_journal.specs.Past.{Past, past_with, state_by}
use Rattle.trace_walk.specs.Walks as walks
use Rattle.trace_tables.specs.declared.Tied.{Tied}
use Rattle.trace_tables.specs.Ties.{tied_at}
use Rattle.trace_tables.specs.TellLaws.{telling_begins, telling_enters, telling_passes, tells_next}
use Rattle.trace_places.specs.declared.places.Place.{Place}
use Rattle.trace_places.specs.Places.{TellsPlaces, place_kept}
use Rattle.trace_places.specs.PlaceLaws.{places_more}
use Rattle.sharing_rules.specs.declared.entry_facts.EntryFacts.{EntryFacts}
use Rattle.sharing_rules.specs.declared.entry_facts.LocalUse.{LocalUse}
use Rattle.sharing_rules.specs.declared.following.Following.{Following}
use Rattle.sharing_rules.specs.Facts.{facts_at, facts_from, facts_of, local_in, truncates_in}
use Rattle.sharing_rules.specs.FactLaws.{facts_told}
use Rattle.sharing_rules.specs.Followed.{Follows, HeedsFacts, IsFresh, KeepsFacts, SeesFacts}

-- with one record more
facts_on : (c : Description) (trace rest : List Rec) (world later : World) (ps qs : List Process) (past : Past) (rec : Rec) (places : List (ℕ × Place)) (tie : Option Tied) (local : Option LocalUse) (facts new : List EntryFacts) → past.unix ≡ Some (unix_of c world ps) → state_by c rec.event past.unix ≡ Some (unix_of c later qs) → TellsPlaces places past.processes → tie ≡ tied_at past rec.event → local ≡ local_in places world ps rec.kernel rec.event tie → new ≡ facts ++ record { local = local; truncates = truncates_in rec.event later.streams world.entries } ∷ [] → facts ++ facts_from c past (rec ∷ rest) ≡ facts_of c trace → new ++ facts_from c (past_with c rec past) rest ≡ facts_of c trace
facts_on c trace rest world later ps qs past rec places tie local facts new unix led homes tie_is local_is is all =
    let more = facts_from c (past_with c rec past) rest in
    let truncates = truncates_in rec.event later.streams world.entries in
    let fact_is : record { local = local; truncates = truncates } ≡ facts_at c past rec =
    ap (λ (l : Option LocalUse). record { local = l; truncates = truncates }) (local_is ∙ ap (local_in places world ps rec.kernel rec.event) tie_is)
    ∙ facts_told c world later ps qs places past rec unix homes led in
    ap (λ (fs : List EntryFacts). fs ++ more) is
    ∙ append_assoc facts (record { local = local; truncates = truncates } ∷ []) more
    ∙ ap (λ (f : EntryFacts). facts ++ f ∷ more) fact_is
    ∙ all

-- ---- a record that is no entry

state_stays : (c : Description) (e : Event) (u : Option Unix) → is_entry e ≡ false → state_by c e u ≡ u
state_stays c (event.Enter entry) u other = absurd (true≢false other)
state_stays c (event.Burst pid count) u other = refl
state_stays c e u other = refl

keeps_whole : (e : Event) (local : Option LocalUse) (streams : List Stream) (place : ℕ) (old new : List EntryFacts) → is_entry e ≡ false → KeepsFacts e local old new → new ≡ old ++ record { local = local; truncates = truncates_in e streams place } ∷ []
keeps_whole (event.Enter entry) local streams place old new other keeps = absurd (true≢false other)
keeps_whole (event.Burst pid count) local streams place old new other keeps = keeps
keeps_whole e local streams place old new other keeps = keeps

pub facts_pass : (c : Description) (trace : List Rec) (old new : Following) (world : World) (ps : List Process) (past : Past) (rec : Rec) (rest : List Rec) → past.unix ≡ Some (unix_of c world ps) → Ascending ps → is_entry rec.event ≡ false → Follows c trace (rec ∷ rest) world ps past old → SeesFacts c world ps rec old new → Follows c trace rest world ps (past_with c rec past) new
facts_pass c trace old new world ps past rec rest unix ascends other follows sees = record {
  telling = telling_passes c trace old.telling new.telling world ps past rec rest unix ascends other follows.telling sees.telling;
  homes = places_more rec.kernel rec.event old.places.entries new.places.entries past.processes follows.homes sees.places;
  all =
      facts_on c trace rest world world ps ps past rec old.places.entries new.telling.last new.local old.facts.items new.facts.items unix (state_stays c rec.event past.unix other ∙ unix) follows.homes
      (tells_next c trace (rec ∷ rest) world ps past rec.event old.telling new.telling follows.telling sees.telling) sees.local
      (keeps_whole rec.event new.local world.streams world.entries old.facts.items new.facts.items other sees.facts) follows.all;
}

-- ---- an entry that one kernel makes

pub facts_enter : (c : Description) (trace : List Rec) (old mid new : Following) (world later : World) (ps qs : List Process) (past : Past) (kernel way : ℕ) (entry : Entry) (rest : List Rec) → Lawful c → past.unix ≡ Some (unix_of c world ps) → Ascending ps → walks.Makes c world ps entry way later qs → Follows c trace (walks.entering kernel entry ∷ rest) world ps past old → SeesFacts c world ps (walks.entering kernel entry) old mid → HeedsFacts later.streams world.entries entry mid new → Follows c trace rest later qs (past_with c (walks.entering kernel entry) past) new
facts_enter c trace old mid new world later ps qs past kernel way entry rest lawful unix ascends makes follows sees heeds =
    let rec : Rec = walks.entering kernel entry in
    let led : state_by c (event.Enter entry) past.unix ≡ Some (unix_of c later qs) = ap (λ (o : Option Unix). state_by c (event.Enter entry) o) unix ∙ makes.after_is in
    let truncates = truncates_in (event.Enter entry) later.streams world.entries in
    record {
      telling = telling_enters c trace old.telling mid.telling new.telling world later ps qs past kernel way entry rest lawful unix ascends makes follows.telling sees.telling heeds.telling;
      homes =
          places_more kernel (event.Enter entry) old.places.entries new.places.entries past.processes follows.homes
          (λ pid. ap (λ places. place_kept places.entries pid) heeds.places ∙ sees.places pid);
      all =
          facts_on c trace rest world later ps qs past rec old.places.entries mid.telling.last mid.local old.facts.items new.facts.items unix led follows.homes
          (tells_next c trace (rec ∷ rest) world ps past (event.Enter entry) old.telling mid.telling follows.telling sees.telling) sees.local
          (heeds.facts ∙ ap (λ (fs : List EntryFacts). fs ++ record { local = mid.local; truncates = truncates } ∷ []) sees.facts) follows.all;
    }

-- ---- the whole

-- before the first record
pub facts_begin : (c : Description) (trace : List Rec) (following : Following) → IsFresh c following → walks.Begins c trace (λ world ps past rest. Follows c trace rest world ps past following)
facts_begin c trace following fresh = λ world ps boots ascends. record {
  telling = telling_begins c trace following.telling fresh.telling world ps boots ascends;
  homes = fresh.places;
  all = ap (λ (fs : List EntryFacts). fs ++ facts_of c trace) fresh.facts;
}

-- behind the last one
pub facts_end : (c : Description) (trace : List Rec) (world : World) (ps : List Process) (past : Past) (following : Following) → Follows c trace [] world ps past following → following.facts.items ≡ facts_of c trace
facts_end c trace world ps past following follows = sym (append-nil following.facts.items) ∙ follows.all
