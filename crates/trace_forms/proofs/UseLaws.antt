-- What is kept of the records of files' servers tells of them, from one to the next.
use Rattle.std.proofs.Common.{◌≡◌, ◌∙◌, ℕ, ◌+◌, ◌-◌, ◌==◌, Bool, true, false, cond, ◌&&◌, ◌||◌, not, List, [], ◌∷◌, ◌++◌, Option, Some, None, refl, sym, ap, ap₂, subst, take, drop, length}
use Rattle.std.specs.List.{list_any}
use Rattle.std.specs.Option.{is_some}
use Rattle.std.proofs.lemmas.List.{take_rest}
use Rattle.sprite_ids.specs.declared.names.FileId.{FileId}
use Rattle.sprite_ids.specs.declared.names.StreamNo.{StreamNo}
use Rattle.sprite_ids.specs.declared.names.Mode.{Mode}
use Rattle.unix_calls.specs.declared.description.Description.{Description}
use Rattle.unix_calls.specs.declared.event.Event.{Event}
use Rattle.unix_calls.specs.declared.event.Event.TheVariants as event
use Rattle.unix_calls.specs.declared.event.Rec.{Rec}
use Rattle.unix_calls.specs.declared.state.Stream.{Stream}
use Rattle.unix_calls.specs.State.{Unix}
use Rattle.call_journal.specs.Past.{Past, holds, state_by, last_event, event_before_last, opening_behind, no_past, past_with}
use Rattle.call_journal.specs.Matching.{same_file, same_stream, same_mode, is_at, has_event}
use Rattle.call_journal.specs.Files.{is_opened_at, opens_of}
use Rattle.call_journal.specs.Formed.{next_is, is_grant_to, is_opening_of, is_opening_as, is_closed_of, is_closed_for, is_source, is_any_shared, is_shared_stream, is_left_well, is_opened_well}
use Rattle.call_journal.proofs.GrowthLaws.{look_backs_grow}
use Rattle.trace_forms.specs.Openings.{openings_from, openings_of}
use Rattle.trace_forms.specs.declared.places.FileFor.{FileFor}
use Rattle.trace_forms.specs.declared.places.OpenedAs.{OpenedAs}
use Rattle.trace_forms.specs.declared.places.OpenAt.{OpenAt}
use Rattle.trace_forms.specs.declared.uses.Last.{Last}
use Rattle.trace_forms.specs.declared.uses.Streams.{Streams}
use Rattle.trace_forms.specs.Parts.{is_use_well}
use Rattle.trace_forms.specs.Opens.{has_open, has_stream, mode_number, opens_behind}
use Rattle.trace_forms.proofs.OpenLaws.{number_same, shared_on, opens_on}
use Rattle.trace_forms.specs.Uses.{same_opened, has_opened, granted_by, shared_by, last_behind, granted_in, shared_in, is_granted_in, is_that, first_opening, is_source_in, is_new_in, is_left_with, is_left_in, is_opened_in, use_fits, opened_behind, modes_behind, KeepsStreams, TellsLast, TellsStreams, TellsUses}
use Rattle.trace_forms.proofs.ListLaws.{and_assoc, any_more, tail_of, tail_drop, last_more, before_more}

-- ---- the last records

pub last_on : (last : Last) (records : List Rec) (rec : Rec) → TellsLast last records → TellsLast (last_behind rec.event last) (records ++ rec ∷ [])
last_on last records rec told = record {
  granted_told = sym (ap granted_in (last_more records rec));
  shared_told = sym (ap shared_in (last_more records rec));
  before_told = told.shared_told ∙ sym (ap shared_in (before_more records rec));
}

granted_is : (o : Option Event) (file : FileId) (to : ℕ) → holds (is_grant_to file to) o ≡ is_granted_in (granted_in o) file to
granted_is None file to = refl
granted_is (Some (event.Grant f t stamp m)) file to = refl
granted_is (Some _) file to = refl

any_shared_is : (o : Option Event) → holds is_any_shared o ≡ is_some (shared_in o)
any_shared_is None = refl
any_shared_is (Some (event.Shared f s)) = refl
any_shared_is (Some _) = refl

shared_is : (o : Option Event) (stream : StreamNo) → holds (is_shared_stream stream) o ≡ is_that (shared_in o) stream
shared_is None stream = refl
shared_is (Some (event.Shared f s)) stream = refl
shared_is (Some _) stream = refl

-- ---- judging

source_is : (streams : Streams) (records : List Rec) (file : FileId) (stream : StreamNo) (to : ℕ) (m : Mode) (e : Event) → TellsStreams streams records → is_source_in streams.opens.keys (record { file = file; stream = stream; kernel = to; mode = mode_number m }) e ≡ is_source file stream to m (opens_of file records) e
source_is streams records file stream to m (event.Closed f s kernel n) told =
    ap₂ (λ a b. same_file f file && same_stream s stream && not (kernel == to) && a && b) (number_same n m) (told.opens_told file stream kernel m)
source_is streams records file stream to m _ told = refl

next_source : (streams : Streams) (records : List Rec) (file : FileId) (stream : StreamNo) (to : ℕ) (m : Mode) (rest : List Rec) → TellsStreams streams records → next_is (is_at file.server (is_source_in streams.opens.keys (record { file = file; stream = stream; kernel = to; mode = mode_number m }))) rest ≡ next_is (is_at file.server (is_source file stream to m (opens_of file records))) rest
next_source streams records file stream to m [] told = refl
next_source streams records file stream to m (rec ∷ rest) told =
    ap (λ b. rec.kernel == file.server && b) (source_is streams records file stream to m rec.event told)

-- by the stream that was made shared before the grant
left_by : (streams : Streams) (records : List Rec) (file : FileId) (stream : StreamNo) (to : ℕ) (m : Mode) (rest : List Rec) (o : Option StreamNo) → TellsStreams streams records → is_left_with o streams (record { file = file; stream = stream; kernel = to; mode = mode_number m }) rest ≡ cond (is_some o) (is_that o stream && not (next_is (has_event (is_closed_of file stream)) rest)) (cond (list_any (has_event (is_shared_stream stream)) records) (not (next_is (has_event (is_closed_for file stream to)) rest)) (next_is (is_at file.server (is_source file stream to m (opens_of file records))) rest))
left_by streams records file stream to m rest (Some shared) told = refl
left_by streams records file stream to m rest None told =
    ap₂ (λ a b. cond a (not (next_is (has_event (is_closed_for file stream to)) rest)) b) (told.shared_told stream) (next_source streams records file stream to m rest told)

left_is : (last : Last) (streams : Streams) (past : Past) (file : FileId) (stream : StreamNo) (to : ℕ) (m : Mode) (rest : List Rec) → TellsLast last past.records → TellsStreams streams past.records → is_left_in last streams (record { file = file; stream = stream; kernel = to; mode = mode_number m }) rest ≡ is_left_well past file stream to m rest
left_is last streams past file stream to m rest told streams_told =
    ap (λ o. is_left_with o streams (record { file = file; stream = stream; kernel = to; mode = mode_number m }) rest) told.before_told
    ∙ left_by streams past.records file stream to m rest (shared_in (event_before_last past.records)) streams_told
    ∙ ap₂ (λ a b. cond a (b && not (next_is (has_event (is_closed_of file stream)) rest)) (cond (list_any (has_event (is_shared_stream stream)) past.records) (not (next_is (has_event (is_closed_for file stream to)) rest)) (next_is (is_at file.server (is_source file stream to m (opens_of file past.records))) rest))) (sym (any_shared_is (event_before_last past.records))) (sym (shared_is (event_before_last past.records) stream))

regrouped : (a b d e : Bool) → (a && (b && d && e)) ≡ (a && b && d && e)
regrouped true b d e = refl
regrouped false b d e = refl

opened_is : (last : Last) (streams : Streams) (past : Past) (file : FileId) (stream : StreamNo) (to : ℕ) (m : Mode) (made : Option Stream) (rest : List Rec) → TellsLast last past.records → TellsStreams streams past.records → is_opened_in last streams (record { file = file; stream = stream; kernel = to; mode = mode_number m }) made rest ≡ is_opened_well past file stream to m made rest
opened_is last streams past file stream to m (Some made) rest told streams_told =
    regrouped (mode_number m == mode_number made.mode) (stream.kernel == to) (not (has_stream streams.opened.keys stream)) (not (is_some last.shared_before))
    ∙ ap₂ (λ a b. a && stream.kernel == to && not b && not (is_some last.shared_before)) (number_same m made.mode) (streams_told.opened_told stream)
    ∙ ap (λ b. same_mode m made.mode && stream.kernel == to && not (list_any (has_event (is_opening_of stream)) past.records) && not b) (ap is_some told.before_told ∙ sym (any_shared_is (event_before_last past.records)))
opened_is last streams past file stream to m None rest told streams_told =
    ap₂ (λ a b. a && b) (streams_told.modes_told file stream m) (left_is last streams past file stream to m rest told streams_told)

-- the stream of a file that the next record makes
opening_is : (c : Description) (u : Option Unix) (rest : List Rec) → first_opening (openings_from c u rest) ≡ opening_behind c u rest
opening_is c u [] = refl
opening_is c u (rec ∷ rest) = refl

told_of : (c : Description) (last : Last) (streams : Streams) (past : Past) (kernel : ℕ) (e : Event) (rest : List Rec) → TellsLast last past.records → TellsStreams streams past.records → is_use_well c past kernel e rest ≡ use_fits last streams kernel e (first_opening (openings_from c (state_by c e past.unix) rest)) rest
told_of c last streams past kernel (event.Opened file stream to m) rest told streams_told =
    ap₂ (λ a b. kernel == file.server && a && b)
    (granted_is (last_event past.records) file to ∙ ap (λ o. is_granted_in o file to) (sym told.granted_told))
    (ap (λ o. is_opened_well past file stream to m o rest) (sym (opening_is c past.unix rest))
    ∙ sym (opened_is last streams past file stream to m (first_opening (openings_from c past.unix rest)) rest told streams_told))
told_of c last streams past kernel (event.Grant file to stamp m) rest told streams_told = refl
told_of c last streams past kernel (event.Closed file stream to m) rest told streams_told = refl
told_of c last streams past kernel (event.Callback file to stamp kind) rest told streams_told = refl
told_of c last streams past kernel (event.Shared file stream) rest told streams_told = refl
told_of c last streams past kernel _ rest told streams_told = refl

-- ---- one record more

opened_on : (e : Event) (stream : StreamNo) (before : Bool) → opened_behind e stream before ≡ cond (is_opening_of stream e) true before
opened_on (event.Opened f s kernel m) stream before = refl
opened_on _ stream before = refl

modes_on : (e : Event) (file : FileId) (stream : StreamNo) (m : Mode) (before : Bool) → modes_behind e (record { file = file; stream = stream; mode = mode_number m }) before ≡ cond (is_opening_as file stream m e) true before
modes_on (event.Opened f s kernel n) file stream m before =
    ap (λ b. cond b true before) (sym (and_assoc (same_file f file) (same_stream s stream) (mode_number n == mode_number m)))
    ∙ ap (λ b. cond (same_file f file && same_stream s stream && b) true before) (number_same n m)
modes_on _ file stream m before = refl

pub streams_on : (old new : Streams) (records : List Rec) (rec : Rec) → TellsStreams old records → KeepsStreams rec.event old new → TellsStreams new (records ++ rec ∷ [])
streams_on old new records rec told keeps = record {
  opened_told = λ stream.
      keeps.opened stream
      ∙ opened_on rec.event stream (has_stream old.opened.keys stream)
      ∙ ap (λ b. cond (is_opening_of stream rec.event) true b) (told.opened_told stream)
      ∙ sym (any_more (has_event (is_opening_of stream)) records rec);
  modes_told = λ file stream m.
      keeps.modes (record { file = file; stream = stream; mode = mode_number m })
      ∙ modes_on rec.event file stream m (has_opened old.modes.keys (record { file = file; stream = stream; mode = mode_number m }))
      ∙ ap (λ b. cond (is_opening_as file stream m rec.event) true b) (told.modes_told file stream m)
      ∙ sym (any_more (has_event (is_opening_as file stream m)) records rec);
  shared_told = λ stream.
      keeps.shared stream
      ∙ shared_on rec.event stream (has_stream old.shared.keys stream)
      ∙ ap (λ b. cond (is_shared_stream stream rec.event) true b) (told.shared_told stream)
      ∙ sym (any_more (has_event (is_shared_stream stream)) records rec);
  opens_told = λ file stream kernel m.
      keeps.opens (record { file = file; stream = stream; kernel = kernel; mode = mode_number m })
      ∙ ap (opens_behind rec.event (record { file = file; stream = stream; kernel = kernel; mode = mode_number m })) (told.opens_told file stream kernel m)
      ∙ opens_on rec.event file (record { stream = stream; kernel = kernel; mode = m }) (opens_of file records)
      ∙ sym (ap (list_any (is_opened_at stream kernel m)) (look_backs_grow.opens file records rec));
}

-- a record is judged by what is kept
pub uses_told : (c : Description) (last : Last) (streams : Streams) (openings : List (Option Stream)) (past : Past) (rec : Rec) (rest : List Rec) → TellsUses c last streams openings past (rec ∷ rest) → is_use_well c past rec.kernel rec.event rest ≡ use_fits last streams rec.kernel rec.event (first_opening (tail_of openings)) rest
uses_told c last streams openings past rec rest told =
    told_of c last streams past rec.kernel rec.event rest told.last_told told.streams_told
    ∙ sym (ap (λ os. use_fits last streams rec.kernel rec.event (first_opening (tail_of os)) rest) told.openings_told)

-- what is kept tells of one record more
pub uses_on : (c : Description) (last last_after : Last) (streams after : Streams) (openings later : List (Option Stream)) (past : Past) (rec : Rec) (rest : List Rec) → TellsUses c last streams openings past (rec ∷ rest) → last_after ≡ last_behind rec.event last → KeepsStreams rec.event streams after → later ≡ tail_of openings → TellsUses c last_after after later (past_with c rec past) rest
uses_on c last last_after streams after openings later past rec rest told last_is keeps later_is = record {
  last_told = subst (λ (l : Last). TellsLast l (past.records ++ rec ∷ [])) (sym last_is) (last_on last past.records rec told.last_told);
  streams_told = streams_on streams after past.records rec told.streams_told keeps;
  openings_told = later_is ∙ ap tail_of told.openings_told;
}

-- what the code asks of the records behind a place
pub fits_there : (last : Last) (streams : Streams) (rec : Rec) (openings : List (Option Stream)) (trace : List Rec) (place : ℕ) (made : Option Stream) (fit : Bool) → made ≡ first_opening (take (length openings - (place + 1)) (drop (place + 1) openings)) → fit ≡ use_fits last streams rec.kernel rec.event made (take (length trace - (place + 1)) (drop (place + 1) trace)) → use_fits last streams rec.kernel rec.event (first_opening (tail_of (drop place openings))) (drop (place + 1) trace) ≡ fit
fits_there last streams rec openings trace place made fit made_is fit_is =
    ap₂ (λ o rs. use_fits last streams rec.kernel rec.event o rs)
    (ap first_opening (tail_drop place openings ∙ sym (take_rest openings (place + 1))) ∙ sym made_is)
    (sym (take_rest trace (place + 1)))
    ∙ sym fit_is

-- before the first record
pub nothing_used : (c : Description) (last : Last) (streams : Streams) (openings : List (Option Stream)) (trace : List Rec) → last.granted ≡ None → last.shared ≡ None → last.shared_before ≡ None → streams.opened.keys ≡ [] → streams.modes.keys ≡ [] → streams.shared.keys ≡ [] → streams.opens.keys ≡ [] → openings ≡ openings_of c trace → TellsUses c last streams openings (no_past c) trace
nothing_used c last streams openings trace granted last_shared before opened modes shared opens are = record {
  last_told = record { granted_told = granted; shared_told = last_shared; before_told = before };
  streams_told = record {
    opened_told = λ stream. ap (λ ks. has_stream ks stream) opened;
    modes_told = λ file stream m. ap (λ ks. has_opened ks (record { file = file; stream = stream; mode = mode_number m })) modes;
    shared_told = λ stream. ap (λ ks. has_stream ks stream) shared;
    opens_told = λ file stream kernel m. ap (λ ks. has_open ks (record { file = file; stream = stream; kernel = kernel; mode = mode_number m })) opens;
  };
  openings_told = are;
}
