-- The state, the ties and the verdict of a trace's journal, from one record to the next.
use Rattle.std.proofs.Common.{◌≡◌, ◌∙◌, ℕ, true, false, List, [], ◌∷◌, ◌++◌, Option, Some, refl, sym, ap, subst, append_assoc}
use Rattle.std.specs.Option.{option_map}
use Rattle.std.proofs.lemmas.Bool.{true≢false}
use Rattle.std.proofs.lemmas.List.{append-nil}
use Rattle.unix_calls.specs.Lawful.{Lawful}
use Rattle.unix_calls.specs.declared.description.Description.{Description}
use Rattle.unix_calls.specs.declared.entry.Entry.{Entry}
use Rattle.unix_calls.specs.declared.event.Event.{Event}
use Rattle.unix_calls.specs.declared.event.Event.TheVariants as event
use Rattle.unix_calls.specs.declared.event.Rec.{Rec}
use Rattle.unix_calls.specs.declared.state.Process.{Process}
use Rattle.unix_calls.specs.After.{after}
use Rattle.unix_world.specs.declared.World.{World}
use Rattle.unix_world.specs.Among.{Ascending}
use Rattle.unix_world.specs.Worlds.{unix_of}
use Rattle.call_journal.specs.Matching.{is_entry}
use Rattle.call_journal.specs.Past.{Past, tie_at, last_event, state_by, past_with, stream_made, entry_count}
use Rattle.trace_walk.specs.Walks as walks
use Rattle.trace_tables.specs.declared.known.Known.{Known}
use Rattle.trace_tables.specs.declared.telling.Telling.{Telling}
use Rattle.trace_tables.specs.declared.tied.Tied.{Tied}
use Rattle.trace_tables.specs.declared.caller.Caller.{Caller}
use Rattle.trace_tables.specs.Callers.{caller_at, caller_in, callers_from, callers_of}
use Rattle.trace_tables.specs.Known.{made_at, asked_at, tied_in, file_tie, made_with, Makes, opened_by, Asks}
use Rattle.trace_tables.specs.Ties.{tied_by, tied_at, ties_from, ties_of}
use Rattle.trace_tables.specs.Told.{Going, HeedsEntry, IsFresh, SeesRecord, Tells, opened_last}
use Rattle.trace_tables.specs.CallerLaws.{caller_told}
use Rattle.trace_tables.specs.KnownLaws.{event_told, last_more, asked_more, ties_more}

-- ---- what is kept, one record later

opened_more : (past : Past) (rec : Rec) (o : Option Tied) → o ≡ opened_by rec.event → o ≡ opened_last (last_event (past.records ++ rec ∷ []))
opened_more past rec o is = is ∙ sym (ap opened_last (last_more past.records rec))

told_other : (c : Description) (world : World) (ps : List Process) (known new : Known) (past : Past) (rec : Rec) → Tells c world ps known past → (past_with c rec past).unix ≡ past.unix → (past_with c rec past).ties ≡ past.ties → Asks rec.event known new → Tells c world ps new (past_with c rec past)
told_other c world ps known new past rec tells unix ties asks = record {
  unix = unix ∙ tells.unix;
  ascends = tells.ascends;
  made = λ place. ap (λ es. made_at es place) asks.made ∙ tells.made place ∙ sym (ap (λ ts. option_map tied_by (tie_at ts place)) ties);
  asked = λ at. asked_more known new past rec at (tells.asked at) (asks.asked at);
  opened = opened_more past rec new.opened asks.opened;
}

told_entry : (c : Description) (world world_after : World) (ps ps_after : List Process) (known new : Known) (past : Past) (kernel : ℕ) (entry : Entry) → Tells c world ps known past → after c (unix_of c world ps) entry ≡ Some (unix_of c world_after ps_after) → Ascending ps_after → Makes world_after.streams world.entries known new → Tells c world_after ps_after new (past_with c (record { kernel = kernel; event = event.Enter entry }) past)
told_entry c world world_after ps ps_after known new past kernel entry tells made ascends makes =
    let rec : Rec = record { kernel = kernel; event = event.Enter entry } in
    let later : state_by c (event.Enter entry) past.unix ≡ Some (unix_of c world_after ps_after) = ap (λ u. state_by c (event.Enter entry) u) tells.unix ∙ made in
    record {
      unix = later;
      ascends = ascends;
      made = λ other.
          makes.made other
          ∙ ap (λ o. made_with (file_tie (stream_made world.entries (Some (unix_of c world_after ps_after))) o) world.entries other (made_at known.made.entries other)) tells.opened
          ∙ ap (λ o. made_with (file_tie (stream_made world.entries (Some (unix_of c world_after ps_after))) (opened_last (last_event past.records))) world.entries other o) (tells.made other)
          ∙ ap (λ s. made_with (file_tie (stream_made world.entries s) (opened_last (last_event past.records))) world.entries other (option_map tied_by (tie_at past.ties other))) (sym later)
          ∙ ap (λ u. made_with (file_tie (stream_made (entry_count u) (state_by c (event.Enter entry) past.unix)) (opened_last (last_event past.records))) (entry_count u) other (option_map tied_by (tie_at past.ties other))) (sym tells.unix)
          ∙ sym (ties_more past.ties (entry_count past.unix) other (stream_made (entry_count past.unix) (state_by c (event.Enter entry) past.unix)) (last_event past.records));
      asked = λ at. asked_more known new past rec at (tells.asked at) (ap (λ es. asked_at es at) makes.asked);
      opened = opened_more past rec new.opened makes.opened;
    }

-- ---- going on

-- the ties with one more
ties_on : (c : Description) (past : Past) (rec : Rec) (rest trace : List Rec) (ties : List (Option Tied)) (tie : Option Tied) → tie ≡ tied_at past rec.event → ties ++ ties_from c past (rec ∷ rest) ≡ ties_of c trace → (ties ++ tie ∷ []) ++ ties_from c (past_with c rec past) rest ≡ ties_of c trace
ties_on c past rec rest trace ties tie is all =
    append_assoc ties (tie ∷ []) (ties_from c (past_with c rec past) rest)
    ∙ ap (λ t. ties ++ t ∷ ties_from c (past_with c rec past) rest) is
    ∙ all

-- and the processes
callers_on : (c : Description) (past : Past) (rec : Rec) (rest trace : List Rec) (callers : List Caller) (caller : Caller) → caller ≡ caller_at c past rec.event → callers ++ callers_from c past (rec ∷ rest) ≡ callers_of c trace → (callers ++ caller ∷ []) ++ callers_from c (past_with c rec past) rest ≡ callers_of c trace
callers_on c past rec rest trace callers caller is each =
    append_assoc callers (caller ∷ []) (callers_from c (past_with c rec past) rest)
    ∙ ap (λ t. callers ++ t ∷ callers_from c (past_with c rec past) rest) is
    ∙ each

-- behind a record that is no entry
pass_by : (c : Description) (trace rest : List Rec) (kernel : ℕ) (e : Event) (world : World) (ps : List Process) (past : Past) (old new : Telling) → is_entry e ≡ false → Going c trace (record { kernel = kernel; event = e } ∷ rest) world ps past old → SeesRecord c world ps e old new → (past_with c (record { kernel = kernel; event = e }) past).unix ≡ past.unix → (past_with c (record { kernel = kernel; event = e }) past).ties ≡ past.ties → Asks e old.known new.known → Going c trace rest world ps (past_with c (record { kernel = kernel; event = e }) past) new
pass_by c trace rest kernel e world ps past old new other going sees unix ties asks =
    let rec : Rec = record { kernel = kernel; event = e } in
    let tie_is = event_told c world ps old.known past e going.tells in
    record {
      tells = told_other c world ps old.known new.known past rec going.tells unix ties asks;
      all = ap (λ (ts : List (Option Tied)). ts ++ ties_from c (past_with c rec past) rest) sees.ties
          ∙ ties_on c past rec rest trace old.ties.items (tied_in old.known world ps e) tie_is going.all;
      each = ap (λ (cs : List Caller). cs ++ callers_from c (past_with c rec past) rest) sees.callers
          ∙ callers_on c past rec rest trace old.callers.items (caller_in c world ps (tied_in old.known world ps e) e) (caller_told c world ps past (tied_in old.known world ps e) e tie_is going.tells.unix) going.each;
    }

passes_by : (c : Description) (trace rest : List Rec) (kernel : ℕ) (e : Event) (world : World) (ps : List Process) (past : Past) (old new : Telling) → is_entry e ≡ false → Going c trace (record { kernel = kernel; event = e } ∷ rest) world ps past old → SeesRecord c world ps e old new → Going c trace rest world ps (past_with c (record { kernel = kernel; event = e }) past) new
passes_by c trace rest kernel (event.Enter entry) world ps past old new other going sees = absurd (true≢false other)
passes_by c trace rest kernel (event.Burst pid count) world ps past old new other going sees = pass_by c trace rest kernel (event.Burst pid count) world ps past old new other going sees refl refl sees.known
passes_by c trace rest kernel e world ps past old new other going sees = pass_by c trace rest kernel e world ps past old new other going sees refl refl sees.known

pub telling_passes : (c : Description) (trace : List Rec) (old new : Telling) (world : World) (ps : List Process) (past : Past) (rec : Rec) (rest : List Rec) → past.unix ≡ Some (unix_of c world ps) → Ascending ps → is_entry rec.event ≡ false → Going c trace (rec ∷ rest) world ps past old → SeesRecord c world ps rec.event old new → Going c trace rest world ps (past_with c rec past) new
telling_passes c trace old new world ps past rec rest unix ascends other going sees = passes_by c trace rest rec.kernel rec.event world ps past old new other going sees

-- behind an entry that one kernel makes
pub telling_enters : (c : Description) (trace : List Rec) (old mid new : Telling) (world later : World) (ps qs : List Process) (past : Past) (kernel way : ℕ) (entry : Entry) (rest : List Rec) → Lawful c → past.unix ≡ Some (unix_of c world ps) → Ascending ps → walks.Makes c world ps entry way later qs → Going c trace (walks.entering kernel entry ∷ rest) world ps past old → SeesRecord c world ps (event.Enter entry) old mid → HeedsEntry later.streams world.entries mid new → Going c trace rest later qs (past_with c (walks.entering kernel entry) past) new
telling_enters c trace old mid new world later ps qs past kernel way entry rest lawful unix ascends makes going sees heeds =
    let rec : Rec = record { kernel = kernel; event = event.Enter entry } in
    let e = event.Enter entry in
    let tie_is = event_told c world ps old.known past e going.tells in
    record {
      tells = told_entry c world later ps qs old.known new.known past kernel entry going.tells makes.after_is makes.ascends (subst (λ (known : Known). Makes later.streams world.entries known new.known) sees.known heeds.known);
      all = ap (λ (ts : List (Option Tied)). ts ++ ties_from c (past_with c rec past) rest) (ap (λ v. v.items) heeds.ties ∙ sees.ties)
          ∙ ties_on c past rec rest trace old.ties.items (tied_in old.known world ps e) tie_is going.all;
      each = ap (λ (cs : List Caller). cs ++ callers_from c (past_with c rec past) rest) (ap (λ v. v.items) heeds.callers ∙ sees.callers)
          ∙ callers_on c past rec rest trace old.callers.items (caller_in c world ps (tied_in old.known world ps e) e) (caller_told c world ps past (tied_in old.known world ps e) e tie_is going.tells.unix) going.each;
    }

-- before the first record
pub telling_begins : (c : Description) (trace : List Rec) (telling : Telling) → IsFresh telling → walks.Begins c trace (λ world ps past rest. Going c trace rest world ps past telling)
telling_begins c trace telling fresh = λ world ps boots ascends. record {
  tells = record {
    unix = ap Some (sym boots);
    ascends = ascends;
    made = λ place. ap (λ es. made_at es place) fresh.made;
    asked = λ at. ap (λ es. asked_at es at) fresh.asked;
    opened = fresh.opened;
  };
  all = ap (λ (ts : List (Option Tied)). ts ++ ties_of c trace) fresh.ties;
  each = ap (λ (cs : List Caller). cs ++ callers_of c trace) fresh.callers;
}

-- what the next record's call goes by
pub tells_next : (c : Description) (trace rest : List Rec) (world : World) (ps : List Process) (past : Past) (e : Event) (old new : Telling) → Going c trace rest world ps past old → SeesRecord c world ps e old new → new.last ≡ tied_at past e
tells_next c trace rest world ps past e old new going sees = sees.last ∙ event_told c world ps old.known past e going.tells

-- behind the last one
pub ties_told : (c : Description) (trace : List Rec) (world : World) (ps : List Process) (past : Past) (telling : Telling) → Going c trace [] world ps past telling → telling.ties.items ≡ ties_of c trace
ties_told c trace world ps past telling going = sym (append-nil telling.ties.items) ∙ going.all

pub callers_told : (c : Description) (trace : List Rec) (world : World) (ps : List Process) (past : Past) (telling : Telling) → Going c trace [] world ps past telling → telling.callers.items ≡ callers_of c trace
callers_told c trace world ps past telling going = sym (append-nil telling.callers.items) ∙ going.each
