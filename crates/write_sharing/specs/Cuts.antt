-- Which records of a trace open a file and truncate it.
use Rattle.std.specs.Prelude.{Bool, ◌&&◌, List, [], ◌∷◌}
use Rattle.std.specs.Option.{is_some}
use Rattle.unix_calls.specs.declared.description.Description.{Description}
use Rattle.unix_calls.specs.declared.event.Rec.{Rec}
use Rattle.call_journal.specs.Past.{Past, state_by, entry_count, made_by, file_stream, no_past, past_with}
use Rattle.call_journal.specs.Drops.{is_truncating_event}

-- a record's entry makes a stream of a file, and truncates
abbrev pub cuts_at : Description → Past → Rec → Bool
cuts_at c past rec =
    is_truncating_event rec.event && is_some (file_stream (made_by (entry_count past.unix) rec.event (state_by c rec.event past.unix)))

-- of each of some records behind a past, and of each record of a trace
abbrev pub cuts_from : Description → Past → List Rec → List Bool
cuts_from c past [] = []
cuts_from c past (rec ∷ rest) = cuts_at c past rec ∷ cuts_from c (past_with c rec past) rest

abbrev pub cuts_of : Description → List Rec → List Bool
cuts_of c trace = cuts_from c (no_past c) trace
