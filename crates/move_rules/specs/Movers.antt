-- What is kept of the calls and the freezes of each process.
use Rattle.std.specs.Prelude.{◌≡◌, ℕ, ◌+◌, ◌==◌, Bool, true, false, ◌&&◌, not, if◌then◌else◌, List, Option, Some, None}
use Rattle.std.specs.List.{list_any}
use Rattle.std.specs.Map.{lookup}
use Rattle.std.specs.Option.{option_map}
use Rattle.unix_calls.specs.declared.description.Description.{Description}
use Rattle.unix_calls.specs.declared.event.Event.{Event}
use Rattle.unix_calls.specs.declared.event.Event.TheVariants as event
use Rattle.call_journal.specs.Past.{Past, since_last, some_record}
use Rattle.call_journal.specs.Calls.{is_move, issued_call, or_else}
use Rattle.call_journal.specs.Formed.{last_issue}
use Rattle.call_journal.specs.Matching.{has_event, is_entry_at, is_freeze_of, is_issue_of, is_return}
use Rattle.call_journal.specs.Moves.{is_last_eviction}
use Rattle.trace_tables.specs.declared.CallAt.{CallAt}
use Rattle.move_rules.specs.declared.movers.Mover.{Mover}
use Rattle.move_rules.specs.declared.movers.Movers.{Movers}
use Rattle.trace_tables.specs.Calls.{has_call, same_call}

-- what is kept of a process; of one that did nothing so far nothing
abbrev pub mover_or : Option Mover → Mover
mover_or None = record { number = 0; is_frozen = false; is_evicted = false; stops = 0 }
mover_or (Some mover) = mover

abbrev pub mover_of : List (ℕ × Mover) → ℕ → Mover
mover_of movers pid = mover_or (lookup (λ other. pid == other) movers)

-- whether a call that was issued moves its process
abbrev pub asked_at : List (CallAt × Bool) → CallAt → Option Bool
asked_at asked at = lookup (same_call at) asked

abbrev pub is_move_asked : Option Bool → Bool
is_move_asked None = false
is_move_asked (Some moves) = moves

-- a process is inside a call of its own that moves it, not entered so far, and wasn't frozen since
abbrev pub moves_itself : Movers → ℕ → Bool
moves_itself movers pid =
    not (has_call movers.entered.keys (record { pid = pid; number = (mover_of movers.movers.entries pid).number }))
    && is_move_asked (asked_at movers.asked.entries (record { pid = pid; number = (mover_of movers.movers.entries pid).number }))
    && not (mover_of movers.movers.entries pid).is_frozen

-- ---- one record more

-- a process behind an event; `own`: the one that is frozen is so by its own call
abbrev pub mover_behind : Bool → Event → ℕ → Mover → Mover
mover_behind own (event.Issue p n call) pid m =
    if p == pid then record { number = n; is_frozen = false; is_evicted = m.is_evicted; stops = m.stops + 1 } else m
mover_behind own (event.Freeze p) pid m =
    if p == pid then record { number = m.number; is_frozen = true; is_evicted = not own; stops = m.stops + 1 } else m
mover_behind own _ pid m = m

-- whether the process that an event freezes is so by its own call
abbrev pub frozen_by_itself : Movers → Event → Bool
frozen_by_itself movers (event.Freeze p) = moves_itself movers p
frozen_by_itself movers _ = false

abbrev pub asked_behind : Event → CallAt → Option Bool → Option Bool
asked_behind (event.Issue p n call) at before =
    if p == at.pid && n == at.number then or_else before (Some (is_move call)) else before
asked_behind _ at before = before

abbrev pub AskedOn : Event → List (CallAt × Bool) → List (CallAt × Bool) → Type 0
AskedOn e before after = (at : CallAt) → asked_at after at ≡ asked_behind e at (asked_at before at)

pub record MoversOn (e : Event) (old new : Movers) : Type 0 where
  pub movers : (pid : ℕ) → mover_of new.movers.entries pid ≡ mover_behind (frozen_by_itself old e) e pid (mover_of old.movers.entries pid)
  pub asked : AskedOn e old.asked.entries new.asked.entries
  pub entered : (at : CallAt) → has_call new.entered.keys at ≡ (if is_entry_at at.pid at.number e then true else has_call old.entered.keys at)
  pub returned : (at : CallAt) → has_call new.returned.keys at ≡ (if is_return at.pid at.number e then true else has_call old.returned.keys at)

-- ---- what is kept is told by the records

pub record TellsMovers (c : Description) (movers : Movers) (past : Past) : Type 0 where
  pub numbers : (pid : ℕ) → (mover_of movers.movers.entries pid).number ≡ last_issue pid past.records
  pub frozen : (pid : ℕ) → (mover_of movers.movers.entries pid).is_frozen ≡ list_any (has_event (is_freeze_of pid)) (since_last (has_event (is_issue_of pid)) past.records)
  pub evicted : (pid : ℕ) → (mover_of movers.movers.entries pid).is_evicted ≡ some_record c (λ earlier r rest. is_last_eviction earlier pid r rest) past.records
  pub asked : (at : CallAt) → asked_at movers.asked.entries at ≡ option_map is_move (issued_call at.pid at.number past.records)
  pub entered : (at : CallAt) → has_call movers.entered.keys at ≡ list_any (has_event (is_entry_at at.pid at.number)) past.records
  pub returned : (at : CallAt) → has_call movers.returned.keys at ≡ list_any (has_event (is_return at.pid at.number)) past.records
