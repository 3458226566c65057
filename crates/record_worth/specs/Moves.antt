-- Which processes may be frozen and thawed.
use Rattle.std.specs.Prelude.{ℕ, Bool, true, not, List}
use Rattle.unix_calls.specs.declared.event.Event.{Event}
use Rattle.unix_calls.specs.declared.event.Event.TheVariants as event
use Rattle.trace_places.specs.declared.Place.{Place}
use Rattle.trace_places.specs.Places.{place_kept, is_on_its_way}

abbrev pub may_move : List (ℕ × Place) → Event → Bool
may_move places (event.Freeze pid) = not (is_on_its_way (place_kept places pid))
may_move places (event.Thaw pid) = is_on_its_way (place_kept places pid)
may_move places _ = true
