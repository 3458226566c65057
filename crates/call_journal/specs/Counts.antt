-- What a trace keeps beside its records.
use Rattle.std.specs.Prelude.{◌≡◌, ℕ, ◌+◌, ◌<◌, List, [], ◌∷◌, length, slice_index, slice_set}
use Rattle.unix_calls.specs.declared.event.Event.{Event}
use Rattle.unix_calls.specs.declared.event.Rec.{Rec}
use Rattle.call_journal.specs.declared.counts.Tally.{Tally}
use Rattle.call_journal.specs.Units.{units_of, units_of_event, count_of, kind_of}

-- the counts are those of each kind
pub record AreCounts (trace : List Rec) (counts : List ℕ) : Type 0 where
  pub all : length counts ≡ 21
  pub each : (kind : ℕ) → kind < 21 → slice_index counts kind ≡ count_of kind trace

-- the units and the counts are those of the records
pub record AreTold (trace : List Rec) (tally : Tally) : Type 0 where
  pub are_units : tally.units ≡ units_of trace
  pub are_counts : AreCounts trace tally.counts

-- the units and the counts with one event more
abbrev pub tally_more : Tally → Event → Tally
tally_more tally event = record { units = tally.units + units_of_event event; counts = slice_set tally.counts (kind_of event) (slice_index tally.counts (kind_of event) + 1) }

-- and with those of some events more
abbrev pub tally_after : Tally → List Event → Tally
tally_after tally [] = tally
tally_after tally (event ∷ events) = tally_after (tally_more tally event) events
