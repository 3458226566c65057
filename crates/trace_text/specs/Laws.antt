-- What holds of all printed traces.
use Rattle.unix_calls.specs.declared.event.Rec.{Rec}
use Rattle.history_text.specs.Laws.{IsOneLine}
use Rattle.history_text.specs.Listings.{ListingHasNoOther, PrintedIsListing, TextHasOneOther, TextIsOneListing}
use Rattle.trace_text.specs.Traces.{HasLine, line_of, record_line}

-- what is printed of a record is one line
abbrev pub RecordIsOneLine : Type 0
RecordIsOneLine = (r : Rec) → HasLine r → IsOneLine (line_of r)

-- a trace is a listing of records: what is printed of them is a trace of these
abbrev pub PrintedIsTrace : Type 0
PrintedIsTrace = PrintedIsListing record_line

-- a text is the trace of one list at most
abbrev pub TextIsOneTrace : Type 0
TextIsOneTrace = TextIsOneListing record_line

-- a trace has no first bad line, and a text has one at most
abbrev pub TraceHasNoBadLine : Type 0
TraceHasNoBadLine = ListingHasNoOther record_line

abbrev pub TextHasOneBadLine : Type 0
TextHasOneBadLine = TextHasOneOther record_line
