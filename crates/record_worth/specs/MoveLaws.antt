-- A freeze or a thaw is judged by where its process is.
use Rattle.std.proofs.Common.{◌≡◌, ℕ, not, List, refl, ap}
use Rattle.unix_calls.specs.declared.description.Description.{Description}
use Rattle.unix_calls.specs.declared.event.Event.{Event}
use Rattle.unix_calls.specs.declared.event.Event.TheVariants as event
use Rattle.unix_calls.specs.declared.event.Rec.{Rec}
use Rattle.call_journal.specs.Past.{Past, past_with}
use Rattle.trace_places.specs.declared.Place.{Place}
use Rattle.trace_places.specs.Places.{TellsPlaces, MovesOn}
use Rattle.trace_places.specs.PlaceLaws.{moving_told, places_more}
use Rattle.record_worth.specs.declared.moves.Moves.{Moves}
use Rattle.record_worth.specs.Parts.{moves_well}
use Rattle.record_worth.specs.Moves.{may_move}

event_told : (places : List (ℕ × Place)) (past : Past) (e : Event) → TellsPlaces places past.processes → moves_well past e ≡ may_move places e
event_told places past (event.Freeze pid) told = ap not (moving_told places past pid told)
event_told places past (event.Thaw pid) told = moving_told places past pid told
event_told places past _ told = refl

pub moves_told : (c : Description) (judge : Moves) (past : Past) (rec : Rec) → TellsPlaces judge.places.entries past.processes → moves_well past rec.event ≡ may_move judge.places.entries rec.event
moves_told c judge past rec told = event_told judge.places.entries past rec.event told

-- one record more
pub moves_told_on : (c : Description) (old new : Moves) (past : Past) (rec : Rec) → TellsPlaces old.places.entries past.processes → MovesOn rec.kernel rec.event old.places.entries new.places.entries → TellsPlaces new.places.entries (past_with c rec past).processes
moves_told_on c old new past rec told more = places_more rec.kernel rec.event old.places.entries new.places.entries past.processes told more
