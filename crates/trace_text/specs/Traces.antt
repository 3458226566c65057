-- How a trace is printed, a line for each record, and what reading it answers.
use Rattle.std.specs.Prelude.{codes, ℕ, List}
use Rattle.std.specs.List.{flat_map}
use Rattle.unix_calls.specs.declared.event.Rec.{Rec}
use Rattle.history_text.specs.Formats.{Format, ◌then◌, made_of, followed}
use Rattle.history_text.specs.Listings.{IsFirstOther, IsListing}
use Rattle.trace_text.specs.declared.trace_error.TraceError.{TraceError}
use Rattle.trace_text.specs.declared.trace_error.TraceError.TheVariants.{Line, NoMemory}
use Rattle.trace_text.specs.Fields.{kernel}
use Rattle.trace_text.specs.Events.{event_format}

-- a record: its kernel's number, its event's name, and the event's fields
abbrev pub record_format : Format Rec
record_format = made_of (kernel then event_format) (λ p. record { kernel = p.0; event = p.1 }) (λ r. (r.kernel, r.event))

abbrev pub record_line : Format Rec
record_line = followed record_format (codes "\n")

-- a record that has a line of its own: it is no fault that is none, the parts of an entry belong together, and its numbers
-- and bytes are in their ranges
abbrev pub HasLine : Rec → Type 0
HasLine r = record_line.Fits r

-- what is printed of a record, with byte 10 at its end
abbrev pub line_of : Rec → List ℕ
line_of r = record_line.printed r

-- the lines of the records
abbrev pub trace_of : List Rec → List ℕ
trace_of records = flat_map line_of records

-- ---- reading

-- the text is a listing of these records
abbrev pub IsTrace : List ℕ → List Rec → Type 0
IsTrace text records = IsListing record_line text records

-- the line of that number, counted from 1, is the first that is no record's
abbrev pub IsFirstBad : List ℕ → ℕ → Type 0
IsFirstBad text number = IsFirstOther record_line text number

-- why no trace was read
abbrev pub TellsBad : List ℕ → TraceError → Type 0
TellsBad text (Line number) = IsFirstBad text number
TellsBad text NoMemory = Unit {0}
