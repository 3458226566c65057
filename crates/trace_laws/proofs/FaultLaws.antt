-- What stands behind a trace without its faults.
use Rattle.std.proofs.Common.{◌≡◌, ◌∙◌, Bool, true, false, ◌&&◌, cond, not, List, [], ◌∷◌, ◌++◌, Option, Some, None, refl, sym, ap, subst, append-nil, append_assoc}
use Rattle.std.specs.Prelude.{ℕ}
use Rattle.std.proofs.lemmas.Bool.{and_parts, true≢false}
use Rattle.std.proofs.lemmas.List.Elements.{filter-append}
use Rattle.link_plan.specs.declared.Fate.{Fate}
use Rattle.unix_calls.specs.declared.Description.{Description}
use Rattle.unix_calls.specs.declared.Entry.{Entry}
use Rattle.unix_calls.specs.declared.Event.{Event}
use Rattle.unix_calls.specs.declared.Event.TheVariants as event
use Rattle.unix_calls.specs.declared.Rec.{Rec}
use Rattle.unix_calls.specs.declared.state.Object.{Object}
use Rattle.unix_calls.specs.declared.state.Object.TheVariants.{OfFile, OfDevice, OfMaster}
use Rattle.unix_calls.specs.declared.state.Stream.{Stream}
use Rattle.unix_calls.specs.State.{Unix}
use Rattle.call_journal.specs.Past.{Past, Seen, Tie, holds, last_event, state_by, moved_by, seen_at, tie_to, ties_to, ties_by, devices_by, stream_made, entry_count, past_with, past_from, no_past, each_from}
use Rattle.call_journal.specs.Formed.{is_entered_well, opens_well, is_written_well}
use Rattle.call_journal.specs.Matching.{is_entry}
use Rattle.trace_laws.specs.Faults.{is_any_fault, is_any_opened, without_fault_records, without_seen_faults, without_faults_behind, keeps_its_opened, faults_stand_apart_from, FaultsCanBeLeftOut, FaultsCanBeLeftOutBehind, FormedWithoutFaults, FaultsStandApartOn, StepsStandApart}
use Rattle.trace_laws.proofs.TruthLaws.{and_parted}

-- ---- the last event

-- behind one record more it is that record's
last_of : (records : List Rec) (rec : Rec) → last_event (records ++ rec ∷ []) ≡ Some rec.event
last_of [] rec = refl
last_of (first ∷ []) rec = refl
last_of (first ∷ next ∷ rest) rec = last_of (next ∷ rest) rec

without_more : (records : List Rec) (rec : Rec) → without_fault_records (records ++ rec ∷ []) ≡ without_fault_records records ++ without_fault_records (rec ∷ [])
without_more records rec = filter-append (λ (r : Rec). not (is_any_fault r.event)) records (rec ∷ [])

-- where it is no fault, it is that of the records without faults too
data LastOf (records : List Rec) : Type 0 where
  IsFirst : records ≡ [] → LastOf records
  IsLast : (before : List Rec) (rec : Rec) → records ≡ before ++ rec ∷ [] → LastOf records

last_behind : (first : Rec) (rest : List Rec) → LastOf rest → LastOf (first ∷ rest)
last_behind first rest (IsFirst is) = IsLast [] first (ap (λ records. first ∷ records) is)
last_behind first rest (IsLast before rec is) = IsLast (first ∷ before) rec (ap (λ records. first ∷ records) is)

last_in : (records : List Rec) → LastOf records
last_in [] = IsFirst refl
last_in (first ∷ rest) = last_behind first rest (last_in rest)

last_stays_by : (before : List Rec) (rec : Rec) → is_any_fault rec.event ≡ false → last_event (without_fault_records (before ++ rec ∷ [])) ≡ last_event (before ++ rec ∷ [])
last_stays_by before rec other =
    ap last_event (without_more before rec ∙ ap (λ b. without_fault_records before ++ cond (not b) (rec ∷ []) []) other)
    ∙ (last_of (without_fault_records before) rec ∙ sym (last_of before rec))

-- the last event is a fault or the last of the others
data LastStays (records : List Rec) : Type 0 where
  Same : last_event (without_fault_records records) ≡ last_event records → LastStays records
  Faulty : holds is_any_fault (last_event records) ≡ true → LastStays records

last_stays_or : (before : List Rec) (rec : Rec) (b : Bool) → is_any_fault rec.event ≡ b → LastStays (before ++ rec ∷ [])
last_stays_or before rec true is = Faulty (ap (holds is_any_fault) (last_of before rec) ∙ is)
last_stays_or before rec false is = Same (last_stays_by before rec is)

last_stays_of : (records : List Rec) → LastOf records → LastStays records
last_stays_of records (IsFirst is) = Same (ap (λ rs. last_event (without_fault_records rs)) is ∙ ap last_event (sym is))
last_stays_of records (IsLast before rec is) = subst LastStays (sym is) (last_stays_or before rec (is_any_fault rec.event) refl)

last_stays : (records : List Rec) → LastStays records
last_stays records = last_stays_of records (last_in records)

-- ---- ties

-- an event that is no Opened ties nothing
no_tie : (place : ℕ) (object : Object) (e : Event) → is_any_opened e ≡ false → tie_to place object (Some e) ≡ []
no_tie place (OfFile name) (event.Opened file stream kernel mode) h = absurd (true≢false h)
no_tie place (OfFile name) _ h = refl
no_tie place (OfDevice device) e h = refl
no_tie place (OfMaster device) e h = refl

none_tied : (place : ℕ) (object : Object) (o : Option Event) → holds is_any_opened o ≡ false → tie_to place object o ≡ []
none_tied place (OfFile name) None h = refl
none_tied place (OfDevice device) None h = refl
none_tied place (OfMaster device) None h = refl
none_tied place object (Some e) h = no_tie place object e h

none_tied_to : (place : ℕ) (made : Option Stream) (o : Option Event) → holds is_any_opened o ≡ false → ties_to place made o ≡ []
none_tied_to place None o h = refl
none_tied_to place (Some stream) o h = none_tied place stream.object o h

fault_is_no_opened : (e : Event) → is_any_fault e ≡ true → is_any_opened e ≡ false
fault_is_no_opened (event.Fault from to met) h = refl
fault_is_no_opened (event.Opened file stream kernel mode) h = absurd (true≢false (sym h))
fault_is_no_opened _ h = absurd (true≢false (sym h))

faults_are_no_opened : (o : Option Event) → holds is_any_fault o ≡ true → holds is_any_opened o ≡ false
faults_are_no_opened None h = refl
faults_are_no_opened (Some e) h = fault_is_no_opened e h

not_both : (a b : Bool) → a ≡ true → not (a && b) ≡ true → b ≡ false
not_both true true is h = absurd (true≢false (sym h))
not_both true false is h = refl
not_both false b is h = absurd (true≢false (sym is))

-- an entry ties the same, without the faults before it
abbrev pub TiesSame : List Rec → ℕ → Option Stream → Type 0
TiesSame records place made = ties_to place made (last_event (without_fault_records records)) ≡ ties_to place made (last_event records)

ties_same_by : (records : List Rec) (place : ℕ) (made : Option Stream) → LastStays records → not (holds is_any_fault (last_event records) && holds is_any_opened (last_event (without_fault_records records))) ≡ true → TiesSame records place made
ties_same_by records place made (Same is) h = ap (ties_to place made) is
ties_same_by records place made (Faulty is) h =
    none_tied_to place made (last_event (without_fault_records records)) (not_both (holds is_any_fault (last_event records)) _ is h)
    ∙ sym (none_tied_to place made (last_event records) (faults_are_no_opened (last_event records) is))

-- a record's ties
abbrev TiesByEvent : Past → Option Unix → Event → Type 0
TiesByEvent past later e = ties_by (without_faults_behind past) later e ≡ ties_by past later e

ties_apart : (past : Past) (later : Option Unix) (e : Event) → keeps_its_opened past.records e ≡ true → TiesByEvent past later e
ties_apart past later (event.Enter entry) h =
    ap (λ ties. past.ties ++ ties) (ties_same_by past.records (entry_count past.unix) (stream_made (entry_count past.unix) later) (last_stays past.records) h)
ties_apart past later _ h = refl

-- ---- one record more

devices_same : (past : Past) (e : Event) → devices_by (without_faults_behind past) e ≡ devices_by past e
devices_same past (event.Enter entry) = refl
devices_same past _ = refl

past_is : (past : Past) {r r' : List Rec} {s s' : List Seen} {t t' : List Tie} → r ≡ r' → s ≡ s' → t ≡ t' → record past { records = r; seen = s; ties = t } ≡ record past { records = r'; seen = s'; ties = t' }
past_is past p q t = λ i. record past { records = p i; seen = q i; ties = t i }

seen_without : (seen : List Seen) (one : Seen) → is_any_fault one.rec.event ≡ false → without_seen_faults (seen ++ one ∷ []) ≡ without_seen_faults seen ++ one ∷ []
seen_without seen one other =
    filter-append (λ (s : Seen). not (is_any_fault s.rec.event)) seen (one ∷ [])
    ∙ ap (λ b. without_seen_faults seen ++ cond (not b) (one ∷ []) []) other

records_without : (records : List Rec) (rec : Rec) → is_any_fault rec.event ≡ false → without_fault_records (records ++ rec ∷ []) ≡ without_fault_records records ++ rec ∷ []
records_without records rec other =
    without_more records rec ∙ ap (λ b. without_fault_records records ++ cond (not b) (rec ∷ []) []) other

-- a fault changes nothing
fault_past : (c : Description) (past : Past) (kernel from to : ℕ) (met : Fate) → without_faults_behind (past_with c (record { kernel = kernel; event = event.Fault from to met }) past) ≡ without_faults_behind past
fault_past c past kernel from to met =
    let rec : Rec = record { kernel = kernel; event = event.Fault from to met } in
    past_is past (without_more past.records rec ∙ append-nil (without_fault_records past.records))
    (filter-append (λ (s : Seen). not (is_any_fault s.rec.event)) past.seen (seen_at past.unix rec past.unix ∷ []) ∙ append-nil (without_seen_faults past.seen)) refl

fault_keeps : (c : Description) (past : Past) (kernel : ℕ) (e : Event) → is_any_fault e ≡ true → without_faults_behind (past_with c (record { kernel = kernel; event = e }) past) ≡ without_faults_behind past
fault_keeps c past kernel (event.Fault from to met) is = fault_past c past kernel from to met
fault_keeps c past kernel _ is = absurd (true≢false (sym is))

-- any other record is added as it is
other_adds : (c : Description) (past : Past) (rec : Rec) → is_any_fault rec.event ≡ false → TiesByEvent past (state_by c rec.event past.unix) rec.event → past_with c rec (without_faults_behind past) ≡ without_faults_behind (past_with c rec past)
other_adds c past rec other ties =
    ap (λ devices. record { records = without_fault_records past.records ++ rec ∷ []; seen = without_seen_faults past.seen ++ seen_at past.unix rec (state_by c rec.event past.unix) ∷ []; unix = state_by c rec.event past.unix; processes = moved_by rec.kernel rec.event past.processes; ties = ties_by (without_faults_behind past) (state_by c rec.event past.unix) rec.event; devices = devices }) (devices_same past rec.event)
    ∙ past_is (past_with c rec past) (sym (records_without past.records rec other)) (sym (seen_without past.seen (seen_at past.unix rec (state_by c rec.event past.unix)) other)) ties

-- ---- all records

-- at each record the ties are the same
abbrev pub EachTiesSame : Description → Past → List Rec → Type 0
EachTiesSame c past [] = Unit {0}
EachTiesSame c past (rec ∷ rest) = TiesByEvent past (state_by c rec.event past.unix) rec.event × EachTiesSame c (past_with c rec past) rest

left_out_by : (c : Description) (past : Past) (rec : Rec) (rest : List Rec) (b : Bool) → is_any_fault rec.event ≡ b → TiesByEvent past (state_by c rec.event past.unix) rec.event → past_from c (without_faults_behind (past_with c rec past)) (without_fault_records rest) ≡ without_faults_behind (past_from c (past_with c rec past) rest) → past_from c (without_faults_behind past) (cond (not b) (rec ∷ without_fault_records rest) (without_fault_records rest)) ≡ without_faults_behind (past_from c (past_with c rec past) rest)
left_out_by c past rec rest true is ties again =
    ap (λ p. past_from c p (without_fault_records rest)) (sym (fault_keeps c past rec.kernel rec.event is)) ∙ again
left_out_by c past rec rest false is ties again =
    ap (λ p. past_from c p (without_fault_records rest)) (other_adds c past rec is ties) ∙ again

pub left_out : (c : Description) (past : Past) (trace : List Rec) → EachTiesSame c past trace → past_from c (without_faults_behind past) (without_fault_records trace) ≡ without_faults_behind (past_from c past trace)
left_out c past [] each = refl
left_out c past (rec ∷ rest) each =
    left_out_by c past rec rest (is_any_fault rec.event) refl each.0 (left_out c (past_with c rec past) rest each.1)

-- ---- where faults stand apart

apart_ties : (c : Description) (past : Past) (trace : List Rec) → faults_stand_apart_from past.records trace ≡ true → EachTiesSame c past trace
apart_ties c past [] h = tt
apart_ties c past (rec ∷ rest) h =
    let parts = and_parts (keeps_its_opened past.records rec.event) (faults_stand_apart_from (past.records ++ rec ∷ []) rest) h in
    (ties_apart past (state_by c rec.event past.unix) rec.event parts.0, apart_ties c (past_with c rec past) rest parts.1)

pub faults_can_be_left_out_behind : FaultsCanBeLeftOutBehind
faults_can_be_left_out_behind c past more h = left_out c past more (apart_ties c past more h)

pub faults_can_be_left_out : FaultsCanBeLeftOut
faults_can_be_left_out c trace h = faults_can_be_left_out_behind c (no_past c) trace h

-- ---- where the trace is formed well

-- an entry that makes a stream of a file stands directly behind an Opened, which is no fault
entered_ties : (c : Description) (past : Past) (kernel pid place : ℕ) (object : Object) (o without : Option Event) → (holds is_any_fault o ≡ false → without ≡ o) → is_entered_well c past kernel pid object o ≡ true → tie_to place object without ≡ tie_to place object o
entered_ties c past kernel pid place (OfFile name) (Some (event.Opened file stream to mode)) without same h = ap (tie_to place (OfFile name)) (same refl)
entered_ties c past kernel pid place (OfFile name) None without same h = absurd (true≢false (sym h))
entered_ties c past kernel pid place (OfFile name) _ without same h = absurd (true≢false (sym h))
entered_ties c past kernel pid place (OfDevice device) o without same h = device_ties place device without ∙ sym (device_ties place device o)
  where
    device_ties : (place device : ℕ) (e : Option Event) → tie_to place (OfDevice device) e ≡ []
    device_ties place device e = refl
entered_ties c past kernel pid place (OfMaster device) o without same h = refl

same_where_no_fault : (records : List Rec) → LastStays records → holds is_any_fault (last_event records) ≡ false → last_event (without_fault_records records) ≡ last_event records
same_where_no_fault records (Same is) other = is
same_where_no_fault records (Faulty is) other = absurd (true≢false (sym is ∙ other))

formed_made : (c : Description) (past : Past) (kernel place : ℕ) (entry : Entry) (made : Option Stream) → opens_well c past kernel entry made ≡ true → TiesSame past.records place made
formed_made c past kernel place entry None h = refl
formed_made c past kernel place entry (Some stream) h =
    entered_ties c past kernel entry.pid place stream.object (last_event past.records) (last_event (without_fault_records past.records)) (same_where_no_fault past.records (last_stays past.records)) h

formed_event : (c : Description) (past : Past) (kernel : ℕ) (e : Event) (rest : List Rec) → is_written_well c past kernel e rest ≡ true → TiesByEvent past (state_by c e past.unix) e
formed_event c past kernel (event.Enter entry) rest h =
    ap (λ ties. past.ties ++ ties) (formed_made c past kernel (entry_count past.unix) entry (stream_made (entry_count past.unix) (state_by c (event.Enter entry) past.unix)) h)
formed_event c past kernel _ rest h = refl

formed_ties : (c : Description) (past : Past) (trace : List Rec) → each_from c (λ p r rest. is_written_well c p r.kernel r.event rest) past trace ≡ true → EachTiesSame c past trace
formed_ties c past [] h = tt
formed_ties c past (rec ∷ rest) h =
    let parts = and_parts (is_written_well c past rec.kernel rec.event rest) (each_from c (λ p r others. is_written_well c p r.kernel r.event others) (past_with c rec past) rest) h in
    (formed_event c past rec.kernel rec.event rest parts.0, formed_ties c (past_with c rec past) rest parts.1)

pub formed_without_faults : FormedWithoutFaults
formed_without_faults c trace h = left_out c (no_past c) trace (formed_ties c (no_past c) trace h)

-- ---- a longer trace

apart_append : (behind before more : List Rec) → faults_stand_apart_from behind (before ++ more) ≡ (faults_stand_apart_from behind before && faults_stand_apart_from (behind ++ before) more)
apart_append behind [] more = ap (λ records. faults_stand_apart_from records more) (sym (append-nil behind))
apart_append behind (rec ∷ before) more =
    and_parted (keeps_its_opened behind rec.event) _ (faults_stand_apart_from (behind ++ rec ∷ []) before) (faults_stand_apart_from (behind ++ rec ∷ before) more)
    (apart_append (behind ++ rec ∷ []) before more
    ∙ ap (λ records. faults_stand_apart_from (behind ++ rec ∷ []) before && faults_stand_apart_from records more) (append_assoc behind (rec ∷ []) before))

pub faults_stand_apart_on : FaultsStandApartOn
faults_stand_apart_on before more = apart_append [] before more

-- ---- a step of its own

-- the last event of some records, whatever stands before them
behind_last : (before : List Rec) (first : Rec) (rest : List Rec) → last_event (before ++ first ∷ rest) ≡ last_event (first ∷ rest)
behind_last [] first rest = refl
behind_last (x ∷ []) first rest = refl
behind_last (x ∷ y ∷ before) first rest = behind_last (y ∷ before) first rest

other_first : (before : List Rec) (first : Rec) (rest : List Rec) → is_any_fault first.event ≡ false → without_fault_records (before ++ first ∷ rest) ≡ without_fault_records before ++ first ∷ without_fault_records rest
other_first before first rest other =
    filter-append (λ (r : Rec). not (is_any_fault r.event)) before (first ∷ rest)
    ∙ ap (λ b. without_fault_records before ++ cond (not b) (first ∷ without_fault_records rest) (without_fault_records rest)) other

last_without : (before : List Rec) (first : Rec) (rest : List Rec) → is_any_fault first.event ≡ false → last_event (without_fault_records (before ++ first ∷ rest)) ≡ last_event (without_fault_records (first ∷ rest))
last_without before first rest other =
    ap last_event (other_first before first rest other)
    ∙ (behind_last (without_fault_records before) first (without_fault_records rest) ∙ ap last_event (sym (other_first [] first rest other)))

keeps_behind : (before : List Rec) (first : Rec) (rest : List Rec) (e : Event) → is_any_fault first.event ≡ false → keeps_its_opened (before ++ first ∷ rest) e ≡ keeps_its_opened (first ∷ rest) e
keeps_behind before first rest (event.Enter entry) other = λ i. not (holds is_any_fault (behind_last before first rest i) && holds is_any_opened (last_without before first rest other i))
keeps_behind before first rest _ other = refl

both_same : {a b x y : Bool} → a ≡ x → b ≡ y → (a && b) ≡ (x && y)
both_same p q = λ i. p i && q i

apart_behind : (before : List Rec) (first : Rec) (between rest : List Rec) → is_any_fault first.event ≡ false → faults_stand_apart_from (before ++ first ∷ between) rest ≡ faults_stand_apart_from (first ∷ between) rest
apart_behind before first between [] other = refl
apart_behind before first between (rec ∷ rest) other =
    both_same (keeps_behind before first between rec.event other) (ap (λ records. faults_stand_apart_from records rest) (append_assoc before (first ∷ between) (rec ∷ [])) ∙ apart_behind before first (between ++ rec ∷ []) rest other)

no_entry_keeps : (before : List Rec) (e : Event) → is_entry e ≡ false → keeps_its_opened before e ≡ true
no_entry_keeps before (event.Enter entry) h = absurd (true≢false h)
no_entry_keeps before _ h = refl

pub steps_stand_apart : StepsStandApart
steps_stand_apart before first rest other none =
    both_same (no_entry_keeps before first.event none ∙ sym (no_entry_keeps [] first.event none)) (apart_behind before first [] rest other)
