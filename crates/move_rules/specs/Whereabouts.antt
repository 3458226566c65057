-- Where processes are that aren't on their way.
use Rattle.std.specs.Prelude.{ℕ, ◌==◌, Bool, false, ◌&&◌, not, Option, Some, None}
use Rattle.trace_places.specs.declared.places.Place.{Place}

-- whether a process is at a kernel, and not on its way
abbrev pub is_placed_at : Option Place → ℕ → Bool
is_placed_at None kernel = false
is_placed_at (Some place) kernel = not place.moving && place.kernel == kernel
