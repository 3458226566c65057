-- Which streams of files the records of a trace make.
use Rattle.std.specs.Prelude.{◌≡◌, ℕ, List, [], ◌∷◌, ◌++◌, map, Option, Some, None}
use Rattle.unix_calls.specs.declared.description.Description.{Description}
use Rattle.unix_calls.specs.declared.event.Event.{Event}
use Rattle.unix_calls.specs.declared.event.Event.TheVariants as event
use Rattle.unix_calls.specs.declared.event.Rec.{Rec}
use Rattle.unix_calls.specs.declared.state.Stream.{Stream}
use Rattle.unix_calls.specs.State.{Unix, stream_at}
use Rattle.unix_calls.specs.Boot.{boot_of}
use Rattle.call_journal.specs.Past.{file_stream, opening_of, seen_from}

-- of each of some records behind a state
abbrev pub openings_from : Description → Option Unix → List Rec → List (Option Stream)
openings_from c u rest = map opening_of (seen_from c u rest)

-- of each record of a trace
abbrev pub openings_of : Description → List Rec → List (Option Stream)
openings_of c trace = openings_from c (Some (boot_of c)) trace

-- a record that is no entry makes none
abbrev pub SeesMade : Event → List (Option Stream) → List (Option Stream) → Type 0
SeesMade (event.Enter entry) old new = new ≡ old
SeesMade e old new = new ≡ old ++ None ∷ []

-- an entry makes what stands at its place behind it
abbrev pub HeedsMade : List Stream → ℕ → List (Option Stream) → List (Option Stream) → Type 0
HeedsMade streams place old new = new ≡ old ++ file_stream (stream_at streams place) ∷ []
