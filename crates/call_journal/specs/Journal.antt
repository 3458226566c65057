-- The journal of a trace: the history that it tells of the one-kernel Unix.
use Rattle.std.specs.Prelude.{ℕ, List, [], ◌∷◌, ◌++◌, map}
use Rattle.unix_calls.specs.declared.entry.Entry.{Entry}
use Rattle.unix_calls.specs.declared.event.Event.{Event}
use Rattle.unix_calls.specs.declared.event.Event.TheVariants as event
use Rattle.unix_calls.specs.declared.event.Rec.{Rec}

-- the entry that an event brings, if it brings one
abbrev pub entered : Event → List Entry
entered (event.Enter entry) = entry ∷ []
entered _ = []

-- the entries of the records that enter one, in their order
abbrev pub journal_of : List Rec → List Entry
journal_of [] = []
journal_of (rec ∷ recs) = entered rec.event ++ journal_of recs

-- what a kernel told, as records of it
abbrev pub records_by : ℕ → List Event → List Rec
records_by kernel told = map (λ (event : Event). record { kernel = kernel; event = event }) told
