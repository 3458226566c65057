-- A text of events, and the text that answers it.
use Rattle.std.specs.Prelude.{ℕ, List, Result, Err}
use Rattle.text_lines.specs.Lines.{lines_of}
use Rattle.text_rows.specs.declared.line_error.LineError.{LineError}
use Rattle.text_rows.specs.Rows.{IsBadAt, by_head, come_to, rows_read}
use Rattle.host_lending.specs.declared.event.LendEvent.{LendEvent}
use Rattle.host_lending.specs.Lending.{answers_to}
use Rattle.lend_text.specs.Events.{event_of, hosts_of, answers_text}

-- the events of the lines, of which the first has that number; or the number of the first that is none
abbrev pub events_read : ℕ → ℕ → List (List ℕ) → Result (List LendEvent) ℕ
events_read hosts number lines = rows_read (λ place line. event_of hosts line) number lines

-- the text of the answers to the events of the lines behind the first, among so many hosts
abbrev pub answered : ℕ → List (List ℕ) → Result (List ℕ) ℕ
answered hosts lines = come_to (λ events. answers_text (answers_to hosts events)) (events_read hosts 2 lines)

-- the text that answers a text of events, or the number of its first line, counted from 1, that isn't of its form: the
-- first line is the number of hosts, each other one an event
abbrev pub answer_text : List ℕ → Result (List ℕ) ℕ
answer_text text = by_head hosts_of answered (lines_of text)

-- why no answer was given
abbrev pub TellsLine : List ℕ → LineError → Type 0
TellsLine text error = IsBadAt (answer_text text) error
