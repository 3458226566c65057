-- Where entries stand is judged by what is kept, and that is told record by record.
use Rattle.std.proofs.Common.{◌≡◌, ◌∙◌, ℕ, ◌==◌, Bool, true, false, cond, ◌&&◌, ◌||◌, not, List, [], ◌∷◌, ◌++◌, Option, Some, None, refl, sym, ap, ap₂}
use Rattle.std.specs.Option.{option_map}
use Rattle.std.proofs.lemmas.Bool.{eqb-true}
use Rattle.std.proofs.lemmas.List.{append-nil}
use Rattle.process_machine.specs.declared.call.Call.{Call}
use Rattle.process_machine.specs.declared.call.Call.TheVariants as call
use Rattle.process_machine.specs.declared.call.Reply.{Reply}
use Rattle.process_machine.specs.declared.call.Reply.TheVariants.{Value, Error}
use Rattle.unix_calls.specs.declared.description.Description.{Description}
use Rattle.unix_calls.specs.declared.entry.Entry.{Entry}
use Rattle.unix_calls.specs.declared.event.Event.{Event}
use Rattle.unix_calls.specs.declared.event.Event.TheVariants as event
use Rattle.unix_calls.specs.declared.event.Rec.{Rec}
use Rattle.call_journal.specs.Past.{Past, Tie, Whereabouts, Served, holds, past_with, some_record, server_of_device, devices_by, made_device, entry_count, kernel_of, whereabouts_of}
use Rattle.call_journal.specs.Calls.{or_else}
use Rattle.call_journal.specs.Matching.{has_event, is_at, is_reply_about, is_request_about}
use Rattle.call_journal.specs.EntryPlaces as spots
use Rattle.trace_tables.specs.Callers.{caller_at}
use Rattle.trace_tables.specs.declared.CallAt.{CallAt}
use Rattle.place_rules.specs.declared.entries.Entries.{Entries}
use Rattle.place_rules.specs.Entries.{stands_by, enters_well, is_away_by, made_kernel, kernel_made, served_behind, shares, EntersOn, TellsEntries}
use Rattle.trace_rules.specs.Lists.{any_more, or_turned}
use Rattle.place_rules.specs.PastLaws.{some_more, whole_on}
use Rattle.place_rules.specs.StandLaws.{is_at_told, stand_told}
use Rattle.place_rules.specs.Stands as stands
use Rattle.place_rules.specs.Stands.{device_at}
use Rattle.trace_places.specs.declared.places.Place.{Place}
use Rattle.trace_places.specs.Places.{place_by, place_kept, is_kernel_of, TellsPlaces}
use Rattle.trace_places.specs.PlaceLaws.{kernel_told, places_more}

-- ---- judging

entry_by : (c : Description) (judge : Entries) (past : Past) (kernel : ℕ) (entry : Entry) (o : Option Whereabouts) → TellsEntries c judge past → spots.entry_stands_at c past kernel entry (option_map (λ (w : Whereabouts). w.kernel) o) ≡ stands_by c judge kernel entry (caller_at c past (event.Enter entry)) (option_map place_by o)
entry_by c judge past kernel entry None tells = refl
entry_by c judge past kernel entry (Some w) tells =
    let stand = stands.stand_by c judge.shared.keys judge.devices.entries (caller_at c past (event.Enter entry)) entry.pid entry.part entry.call entry.reply in
    let stood : spots.is_stand (spots.stand_of c past entry) w.kernel kernel ≡ stands.is_at stand w.kernel kernel =
    sym (is_at_told stand w.kernel kernel ∙ ap (λ s. spots.is_stand s w.kernel kernel) (stand_told c past judge.shared.keys judge.devices.entries entry tells.shared tells.devices)) in
    ap₂ (λ a b. a && (kernel == w.kernel || b)) stood (sym (tells.requests (record { kernel = kernel; pid = entry.pid; number = entry.number })))

told_by : (c : Description) (judge : Entries) (past : Past) (kernel : ℕ) (e : Event) → TellsEntries c judge past → spots.stands_well c past kernel e ≡ enters_well c judge kernel e (caller_at c past e)
told_by c judge past kernel (event.Enter entry) tells =
    entry_by c judge past kernel entry (whereabouts_of past.processes entry.pid) tells
    ∙ ap (stands_by c judge kernel entry (caller_at c past (event.Enter entry))) (sym (tells.places entry.pid))
told_by c judge past kernel (event.Return pid number reply) tells =
    ap₂ (λ a b. not a || b) (sym (tells.away (record { pid = pid; number = number }))) (sym (tells.replies (record { pid = pid; number = number })))
told_by c judge past kernel _ tells = refl

pub entries_told : (c : Description) (judge : Entries) (past : Past) (rec : Rec) → TellsEntries c judge past → spots.stands_well c past rec.kernel rec.event ≡ enters_well c judge rec.kernel rec.event (caller_at c past rec.event)
entries_told c judge past rec tells = told_by c judge past rec.kernel rec.event tells

-- ---- one record more

-- an entry away from its process
away_kernel : (pid other kernel : ℕ) (b d : Bool) (places : List (ℕ × Place)) (past : Past) → (pid == other) ≡ b → TellsPlaces places past.processes → (b && d && not (is_kernel_of kernel (place_kept places pid))) ≡ (b && d && not (holds (λ at. at == kernel) (kernel_of past other)))
away_kernel pid other kernel false d places past is told = refl
away_kernel pid other kernel true d places past is told =
    let same : pid ≡ other = eqb-true pid other is in
    ap (λ t. (true && d) && not t)
    (ap (λ p. is_kernel_of kernel (place_kept places p)) same ∙ sym (kernel_told places past other kernel told))

away_by : (kernel : ℕ) (e : Event) (places : List (ℕ × Place)) (past : Past) (at : CallAt) → TellsPlaces places past.processes → is_away_by kernel e places at ≡ spots.is_away past at.pid at.number kernel e
away_by kernel (event.Enter entry) places past at told = away_kernel entry.pid at.pid kernel (entry.pid == at.pid) (entry.number == at.number) places past refl told
away_by kernel _ places past at told = refl

-- devices
served_more : (ds : List Served) (d : Served) (place : ℕ) → server_of_device (ds ++ d ∷ []) place ≡ or_else (server_of_device ds place) (cond (d.place == place) (Some d.kernel) None)
served_more [] d place = refl
served_more (x ∷ xs) d place = by (x.place == place) (served_more xs d place)
  where
    by : (b : Bool) → server_of_device (xs ++ d ∷ []) place ≡ or_else (server_of_device xs place) (cond (d.place == place) (Some d.kernel) None) → cond b (Some x.kernel) (server_of_device (xs ++ d ∷ []) place) ≡ or_else (cond b (Some x.kernel) (server_of_device xs place)) (cond (d.place == place) (Some d.kernel) None)
    by true more = refl
    by false more = more

or_none : (o : Option ℕ) → or_else o None ≡ o
or_none (Some x) = refl
or_none None = refl

or_cond : (b : Bool) (kernel : ℕ) (before : Option ℕ) → or_else before (cond b (Some kernel) None) ≡ cond b (or_else before (Some kernel)) before
or_cond true kernel before = refl
or_cond false kernel before = or_none before

one_served : (ds : List Served) (place kernel other : ℕ) → server_of_device (ds ++ record { place = place; kernel = kernel } ∷ []) other ≡ served_behind (Some kernel) place other (server_of_device ds other)
one_served ds place kernel other = served_more ds (record { place = place; kernel = kernel }) other ∙ or_cond (place == other) kernel (server_of_device ds other)

none_served : (ds : List Served) (other : ℕ) → server_of_device (ds ++ []) other ≡ server_of_device ds other
none_served ds other = ap (λ (xs : List Served). server_of_device xs other) (append-nil ds)

made_served : (ds : List Served) (place other : ℕ) (o : Option Call) (reply : Option Reply) (w : Option Whereabouts) → server_of_device (ds ++ made_device place o reply w) other ≡ served_behind (made_kernel o reply (option_map place_by w)) place other (server_of_device ds other)
made_served ds place other (Some (call.PdMake path)) (Some (Value first second bytes)) (Some w) = one_served ds place w.kernel other
made_served ds place other (Some (call.PdMake path)) (Some (Value first second bytes)) None = none_served ds other
made_served ds place other (Some (call.PdMake path)) (Some (Error errno)) w = none_served ds other
made_served ds place other (Some (call.PdMake path)) None w = none_served ds other
made_served ds place other None reply w = none_served ds other
made_served ds place other (Some (call.Chdir path)) reply w = none_served ds other
made_served ds place other (Some _) reply w = none_served ds other

served_by : (c : Description) (e : Event) (places : List (ℕ × Place)) (devices : List (ℕ × ℕ)) (past : Past) (other : ℕ) → TellsPlaces places past.processes → device_at devices other ≡ server_of_device past.devices other → served_behind (kernel_made e places) (caller_at c past e).place other (device_at devices other) ≡ server_of_device (devices_by past e) other
served_by c (event.Enter entry) places devices past other told kept =
    ap₂ (λ o before. served_behind (made_kernel entry.call entry.reply o) (entry_count past.unix) other before) (told entry.pid) kept
    ∙ sym (made_served past.devices (entry_count past.unix) other entry.call entry.reply (whereabouts_of past.processes entry.pid))
served_by c (event.Issue pid number call) places devices past other told kept = kept
served_by c _ places devices past other told kept = kept

-- shared streams
shared_by : (e : Event) (tie : Tie) → shares e tie.stream ≡ spots.is_shared_record tie e
shared_by (event.Shared file s) tie = refl
shared_by _ tie = refl

pub entries_on : (c : Description) (old new : Entries) (past : Past) (rec : Rec) → TellsEntries c old past → EntersOn rec (caller_at c past rec.event) old new → TellsEntries c new (past_with c rec past)
entries_on c old new past rec tells more = record {
  whole = whole_on c past rec tells.whole;
  places = places_more rec.kernel rec.event old.places.entries new.places.entries past.processes tells.places more.moves;
  devices = λ place. more.serves place ∙ served_by c rec.event old.places.entries old.devices.entries past place tells.places (tells.devices place);
  shared = λ tie.
      more.shares tie.stream
      ∙ ap₂ (λ a b. cond a true b) (shared_by rec.event tie) (tells.shared tie)
      ∙ sym (any_more (has_event (spots.is_shared_record tie)) past.records rec);
  requests = λ at.
      more.requests at
      ∙ ap (λ b. cond (is_at at.kernel (is_request_about at.pid at.number) rec) true b) (tells.requests at)
      ∙ sym (any_more (is_at at.kernel (is_request_about at.pid at.number)) past.records rec);
  replies = λ at.
      more.replies at
      ∙ ap (λ b. cond (is_reply_about at.pid at.number rec.event) true b) (tells.replies at)
      ∙ sym (any_more (has_event (is_reply_about at.pid at.number)) past.records rec);
  away = λ at.
      more.away at
      ∙ ap₂ (λ a b. cond a true b) (away_by rec.kernel rec.event old.places.entries past at tells.places) (tells.away at)
      ∙ sym (or_turned (some_record c (λ earlier r rest. spots.is_away earlier at.pid at.number r.kernel r.event) past.records) (spots.is_away past at.pid at.number rec.kernel rec.event))
      ∙ sym (some_more c (λ earlier r rest. spots.is_away earlier at.pid at.number r.kernel r.event) past rec tells.whole);
}
