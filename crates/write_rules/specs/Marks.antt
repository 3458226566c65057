-- What the one-kernel Unix tells of a record, beside the records themselves: of a block that is written back, whether a `sync` of
-- its file is due at its kernel; of an entry, whether it makes a stream of a file.
use Rattle.std.specs.Prelude.{ℕ, Bool, false, List, [], ◌∷◌, Option, refl}
use Rattle.std.specs.Option.{is_some}
use Rattle.unix_calls.specs.declared.description.Description.{Description}
use Rattle.unix_calls.specs.declared.event.SendKind.TheVariants as send
use Rattle.unix_calls.specs.declared.event.Event.{Event}
use Rattle.unix_calls.specs.declared.event.Event.TheVariants as event
use Rattle.unix_calls.specs.declared.event.Rec.{Rec}
use Rattle.unix_calls.specs.State.{Unix}
use Rattle.call_journal.specs.Past.{Past, entry_count, file_stream, no_past, past_with, state_by, stream_made}
use Rattle.call_journal.specs.WriteBacks.{is_synced}
use Rattle.trace_rules.specs.Judging.{TellsEach}

-- an entry that leads to that state makes a stream of a file
abbrev pub opens_file : Past → Option Unix → Bool
opens_file past later = is_some (file_stream (stream_made (entry_count past.unix) later))

abbrev pub mark_by : Description → Past → ℕ → Event → Bool
mark_by c past kernel (event.Send tx to about (send.WriteBack file block)) = is_synced past kernel file
mark_by c past kernel (event.Enter entry) = opens_file past (state_by c (event.Enter entry) past.unix)
mark_by c past kernel _ = false

abbrev pub mark_of : Description → Past → Rec → Bool
mark_of c past rec = mark_by c past rec.kernel rec.event

-- of each of some records behind a past
abbrev pub marks_from : Description → Past → List Rec → List Bool
marks_from c past [] = []
marks_from c past (rec ∷ rest) = mark_of c past rec ∷ marks_from c (past_with c rec past) rest

-- of each record of a trace
abbrev pub marks_of : Description → List Rec → List Bool
marks_of c trace = marks_from c (no_past c) trace

pub marks_each : (c : Description) → TellsEach c (mark_of c) (marks_from c)
marks_each c = record { none = λ past. refl; first = λ past rec rest. refl }
