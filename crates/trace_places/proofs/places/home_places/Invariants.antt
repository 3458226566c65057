use Rattle.std.proofs.Common.{◌≡◌, ℕ, drop}
use Rattle.call_journal.specs.Calls.{or_else}
use Rattle.call_journal.specs.Past.{at_homes}
use Rattle.trace_places.specs.Places.{place_kept, place_among}
use Rattle.trace_places.proofs.places.home_places.Given as goal

-- what was put, and else what is left to be put, is the home of each
abbrev pub invariant-loop-p : goal.invariant-loop-p
invariant-loop-p l = (pid : ℕ) → or_else (place_kept l.places.entries pid) (place_among (at_homes (drop l.p-index l.ps)) pid) ≡ place_among (at_homes l.ps) pid
