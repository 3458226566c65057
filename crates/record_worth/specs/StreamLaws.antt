-- Where streams are open, and whether they are shared, is told record by record.
use Rattle.std.proofs.Common.{◌≡◌, ◌∙◌, Bool, true, cond, ◌&&◌, not, refl, sym, ap, ap₂}
use Rattle.std.specs.List.{list_any}
use Rattle.unix_calls.specs.declared.description.Description.{Description}
use Rattle.unix_calls.specs.declared.event.Event.{Event}
use Rattle.unix_calls.specs.declared.event.Event.TheVariants as event
use Rattle.unix_calls.specs.declared.event.Rec.{Rec}
use Rattle.call_journal.specs.Past.{Past, past_with}
use Rattle.call_journal.specs.Matching.{has_event}
use Rattle.call_journal.specs.Files.{is_opened_at, opens_of}
use Rattle.call_journal.specs.Formed.{is_shared_stream}
use Rattle.call_journal.specs.WorthRecords.{is_opened_stream}
use Rattle.call_journal.proofs.GrowthLaws.{look_backs_grow}
use Rattle.trace_forms.specs.Opens.{mode_number, has_stream, opens_behind}
use Rattle.trace_forms.proofs.OpenLaws.{shared_on, opens_on}
use Rattle.trace_rules.specs.Lists.{any_more}
use Rattle.record_worth.specs.declared.keys.StreamOf.{StreamOf}
use Rattle.record_worth.specs.declared.streams.Streams.{Streams}
use Rattle.record_worth.specs.Parts.{streams_well}
use Rattle.record_worth.specs.Streams.{has_opened, may_stream, opened_behind, KeepsStreams, TellsStreams}

-- ---- looking

event_told : (judge : Streams) (past : Past) (e : Event) → TellsStreams judge past.records → streams_well past e ≡ may_stream judge e
event_told judge past (event.Shared file stream) told = ap₂ (λ a b. a && not b) (sym (told.opened_told (record { file = file; stream = stream }))) (sym (told.shared_told stream))
event_told judge past (event.Closed file stream kernel m) told = sym (told.opens_told file stream kernel m)
event_told judge past _ told = refl

-- a stream is judged by what is kept
pub streams_told : (c : Description) (judge : Streams) (past : Past) (rec : Rec) → TellsStreams judge past.records → streams_well past rec.event ≡ may_stream judge rec.event
streams_told c judge past rec told = event_told judge past rec.event told

-- ---- one record more

opened_on : (e : Event) (one : StreamOf) (before : Bool) → opened_behind e one before ≡ cond (is_opened_stream one.file one.stream e) true before
opened_on (event.Opened f s kernel m) one before = refl
opened_on _ one before = refl

pub streams_told_on : (c : Description) (old new : Streams) (past : Past) (rec : Rec) → TellsStreams old past.records → KeepsStreams rec.event old new → TellsStreams new (past_with c rec past).records
streams_told_on c old new past rec told keeps = record {
  opened_told = λ one.
      keeps.opened one
      ∙ opened_on rec.event one (has_opened old.opened.keys one)
      ∙ ap (λ b. cond (is_opened_stream one.file one.stream rec.event) true b) (told.opened_told one)
      ∙ sym (any_more (has_event (is_opened_stream one.file one.stream)) past.records rec);
  shared_told = λ stream.
      keeps.shared stream
      ∙ shared_on rec.event stream (has_stream old.shared.keys stream)
      ∙ ap (λ b. cond (is_shared_stream stream rec.event) true b) (told.shared_told stream)
      ∙ sym (any_more (has_event (is_shared_stream stream)) past.records rec);
  opens_told = λ file stream kernel m.
      keeps.opens (record { file = file; stream = stream; kernel = kernel; mode = mode_number m })
      ∙ ap (opens_behind rec.event (record { file = file; stream = stream; kernel = kernel; mode = mode_number m })) (told.opens_told file stream kernel m)
      ∙ opens_on rec.event file (record { stream = stream; kernel = kernel; mode = m }) (opens_of file past.records)
      ∙ sym (ap (list_any (is_opened_at stream kernel m)) (look_backs_grow.opens file past.records rec));
}
