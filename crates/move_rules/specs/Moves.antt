-- Where processes run and move, judged by what is kept.
use Rattle.std.specs.Prelude.{ℕ, ◌==◌, Bool, true, ◌&&◌, ◌||◌, not, nat_lt, count_by, Option, Some, None}
use Rattle.std.specs.List.{list_any}
use Rattle.sprite_ids.specs.Pid.{home_of}
use Rattle.unix_calls.specs.declared.description.Description.{Description}
use Rattle.unix_calls.specs.declared.event.Event.{Event}
use Rattle.unix_calls.specs.declared.event.Event.TheVariants as event
use Rattle.unix_calls.specs.declared.event.Rec.{Rec}
use Rattle.call_journal.specs.Past.{Past}
use Rattle.trace_tables.specs.declared.Caller.{Caller}
use Rattle.move_rules.specs.declared.moves.Moves.{Moves}
use Rattle.trace_places.specs.declared.places.Place.{Place}
use Rattle.move_rules.specs.Arrivals.{ArrivalsOn, TellsArrivals, named_target, returns_at}
use Rattle.move_rules.specs.Evictions.{EvictionsOn, TellsEvictions, due_in, is_left_in, stops_of, uses_of}
use Rattle.move_rules.specs.Movers.{MoversOn, TellsMovers, mover_of, moves_itself}
use Rattle.place_rules.specs.Pasts.{IsWhole}
use Rattle.trace_places.specs.Places.{MovesOn, TellsPlaces, place_kept, is_on_its_way}
use Rattle.move_rules.specs.Whereabouts.{is_placed_at}

-- a process is at a kernel, and not on its way
abbrev pub is_there : Moves → ℕ → ℕ → Bool
is_there judge pid kernel = is_placed_at (place_kept judge.places.entries pid) kernel

-- a process that issues a call is there, and heeded the evictions that are due for it, unless it holds a master stream
abbrev pub issues_well : Description → Moves → ℕ → ℕ → Caller → Bool
issues_well c judge pid kernel caller =
    is_there judge pid kernel
    && (caller.is_master || not (list_any (is_left_in judge.evictions.due.entries (stops_of judge.movers pid) pid kernel) c.evicts))

-- one that is frozen is so by its own call, or by an eviction that is due and wasn't used
abbrev pub freezes_well : Description → Moves → ℕ → ℕ → Bool
freezes_well c judge pid kernel =
    is_there judge pid kernel
    && (moves_itself judge.movers pid
    || nat_lt (uses_of judge.evictions.used.entries (record { pid = pid; kernel = kernel })) (count_by (due_in judge.evictions.due.entries pid kernel) c.evicts))

-- one that was evicted goes on at its home
abbrev pub thaws_well : Moves → ℕ → ℕ → Bool
thaws_well judge pid kernel = kernel == home_of pid || not (mover_of judge.movers.movers.entries pid).is_evicted

-- a move enters where it leads, or on the way
abbrev pub leads_well : Option ℕ → Option Place → Bool
leads_well None at = true
leads_well (Some target) at = is_placed_at at target || is_on_its_way at

abbrev pub moves_well : Description → Moves → ℕ → Event → Caller → Bool
moves_well c judge kernel (event.Burst pid count) caller = is_there judge pid kernel
moves_well c judge kernel (event.Issue pid number call) caller = issues_well c judge pid kernel caller
moves_well c judge kernel (event.Freeze pid) caller = freezes_well c judge pid kernel
moves_well c judge kernel (event.Thaw pid) caller = thaws_well judge pid kernel
moves_well c judge kernel (event.Enter entry) caller =
    leads_well (named_target c entry.call entry.reply) (place_kept judge.places.entries entry.pid)
moves_well c judge kernel (event.Return pid number reply) caller = returns_at judge.arrivals pid number kernel
moves_well c judge kernel _ caller = true

pub record KeepsMoving (c : Description) (rec : Rec) (old new : Moves) : Type 0 where
  pub arrivals : ArrivalsOn c old.places.entries rec old.arrivals new.arrivals
  pub evictions : EvictionsOn c old.places.entries old.movers rec old.evictions new.evictions
  pub movers : MoversOn rec.event old.movers new.movers
  pub places : MovesOn rec.kernel rec.event old.places.entries new.places.entries

pub record TellsMoves (c : Description) (judge : Moves) (past : Past) : Type 0 where
  pub whole : IsWhole c past
  pub places : TellsPlaces judge.places.entries past.processes
  pub movers : TellsMovers c judge.movers past
  pub evictions : TellsEvictions c judge.movers judge.evictions past
  pub arrivals : TellsArrivals c judge.arrivals past
