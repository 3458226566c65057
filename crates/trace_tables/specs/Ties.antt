-- Which file and stream the call of a record goes by.
use Rattle.std.specs.Prelude.{List, [], ◌∷◌, Option, None}
use Rattle.std.specs.Option.{option_map, option_and_then}
use Rattle.unix_calls.specs.declared.description.Description.{Description}
use Rattle.unix_calls.specs.declared.entry.Entry.{Entry}
use Rattle.unix_calls.specs.declared.event.Event.{Event}
use Rattle.unix_calls.specs.declared.event.Event.TheVariants as event
use Rattle.unix_calls.specs.declared.event.Rec.{Rec}
use Rattle.call_journal.specs.Past.{Past, Tie, tied, no_past, past_with}
use Rattle.call_journal.specs.Calls.{descriptor_of}
use Rattle.call_journal.specs.Operations.{stream_of_call}
use Rattle.trace_tables.specs.declared.tied.Tied.{Tied}

-- the file and the stream of a tie
abbrev pub tied_by : Tie → Tied
tied_by tie = record { file = tie.file; stream = tie.stream }

-- what the descriptor of an entry's call leads to, and, of a send, that of the call for whose sake it goes
abbrev pub tie_of_entry : Past → Entry → Option Tie
tie_of_entry past entry = option_and_then (tied past entry.pid) (option_and_then descriptor_of entry.call)

abbrev pub tie_of_event : Past → Event → Option Tie
tie_of_event past (event.Enter entry) = tie_of_entry past entry
tie_of_event past (event.Send tx to about kind) = stream_of_call past about
tie_of_event past _ = None

abbrev pub tied_at : Past → Event → Option Tied
tied_at past e = option_map tied_by (tie_of_event past e)

-- of each of some records behind a past
abbrev pub ties_from : Description → Past → List Rec → List (Option Tied)
ties_from c past [] = []
ties_from c past (rec ∷ rest) = tied_at past rec.event ∷ ties_from c (past_with c rec past) rest

-- of each record of a trace
abbrev pub ties_of : Description → List Rec → List (Option Tied)
ties_of c trace = ties_from c (no_past c) trace
