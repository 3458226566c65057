-- The kills that were entered so far, and where a kill is to be told.
use Rattle.std.specs.Prelude.{◌≡◌, ℕ, ◌/◌, ◌==◌, Bool, true, false, ◌&&◌, ◌||◌, if◌then◌else◌, List, [], Option, Some, None}
use Rattle.std.specs.List.{list_any}
use Rattle.sprite_ids.specs.Pid.{home_of}
use Rattle.unix_calls.specs.declared.description.Description.{Description}
use Rattle.unix_calls.specs.declared.entry.Entry.{Entry}
use Rattle.unix_calls.specs.declared.event.Event.{Event}
use Rattle.unix_calls.specs.declared.event.Event.TheVariants as event
use Rattle.call_journal.specs.Past.{Past, no_past, place_of}
use Rattle.call_journal.specs.Matching.{has_event}
use Rattle.call_journal.specs.Calls.{is_kill_of}
use Rattle.call_journal.specs.WorthKills.{killed_by}
use Rattle.trace_places.specs.declared.places.Place.{Place}
use Rattle.trace_places.specs.Places.{MovesOn, TellsPlaces, place_kept}
use Rattle.kill_worth.specs.declared.keys.KillAt.{KillAt}
use Rattle.kill_worth.specs.declared.kills.Kills.{Kills}

-- the same kill
abbrev pub same_kill : KillAt → KillAt → Bool
same_kill a b = a.home == b.home && (a.to == b.to && (a.pid == b.pid && a.number == b.number))

abbrev pub is_kill : Option KillAt → KillAt → Bool
is_kill None at = false
is_kill (Some kill) at = same_kill kill at

-- a process is among those that were killed
abbrev pub has_killed : List ℕ → ℕ → Bool
has_killed killed pid = list_any (λ other. pid == other) killed

abbrev pub was_killed : Past → ℕ → Bool
was_killed past pid = list_any (has_event (is_kill_of pid)) past.records

-- ---- where an entry's kill is to be told

-- of a process at a place
abbrev pub away_from : Entry → ℕ → Place → Option KillAt
away_from entry pid place =
    if place.moving || place.kernel == pid / 1000
    then None
    else Some (record { home = pid / 1000; to = place.kernel; pid = entry.pid; number = entry.number })

abbrev pub away_at : Entry → ℕ → Option Place → Option KillAt
away_at entry pid None = None
away_at entry pid (Some place) = away_from entry pid place

-- by what is kept
abbrev pub first_away : Kills → Entry → ℕ → Option KillAt
first_away kills entry pid =
    if has_killed kills.killed.keys pid then None else away_at entry pid (place_kept kills.places.entries pid)

abbrev pub entry_kept : Kills → Entry → Option ℕ → Option KillAt
entry_kept kills entry None = None
entry_kept kills entry (Some pid) = first_away kills entry pid

abbrev pub kill_kept : Kills → Event → Option KillAt
kill_kept kills (event.Enter entry) = entry_kept kills entry (killed_by entry.call entry.reply)
kill_kept kills _ = None

-- by what the records tell
abbrev pub settled_away : Entry → ℕ → Option ℕ → Option KillAt
settled_away entry pid None = None
settled_away entry pid (Some at) =
    if at == home_of pid then None else Some (record { home = home_of pid; to = at; pid = entry.pid; number = entry.number })

abbrev pub past_away : Past → Entry → ℕ → Option KillAt
past_away past entry pid = if was_killed past pid then None else settled_away entry pid (place_of past pid)

abbrev pub entry_told : Past → Entry → Option ℕ → Option KillAt
entry_told past entry None = None
entry_told past entry (Some pid) = past_away past entry pid

abbrev pub kill_told : Past → Event → Option KillAt
kill_told past (event.Enter entry) = entry_told past entry (killed_by entry.call entry.reply)
kill_told past _ = None

-- ---- one record more

abbrev pub puts_killed : Option ℕ → ℕ → Bool → Bool
puts_killed None pid before = before
puts_killed (Some killed) pid before = if killed == pid then true else before

abbrev pub killed_behind : Event → ℕ → Bool → Bool
killed_behind (event.Enter entry) pid before = puts_killed (killed_by entry.call entry.reply) pid before
killed_behind _ pid before = before

abbrev pub KillsOn : Event → List ℕ → List ℕ → Type 0
KillsOn e before after = (pid : ℕ) → has_killed after pid ≡ killed_behind e pid (has_killed before pid)

pub record KeepsKills (kernel : ℕ) (e : Event) (old new : Kills) : Type 0 where
  pub places : MovesOn kernel e old.places.entries new.places.entries
  pub killed : KillsOn e old.killed.keys new.killed.keys

-- what is kept is what the records tell
pub record TellsKills (kills : Kills) (past : Past) : Type 0 where
  pub places_told : TellsPlaces kills.places.entries past.processes
  pub killed_told : (pid : ℕ) → has_killed kills.killed.keys pid ≡ was_killed past pid

-- before the first record
pub record BeginsKills (c : Description) (kills : Kills) : Type 0 where
  pub places : TellsPlaces kills.places.entries (no_past c).processes
  pub killed : kills.killed.keys ≡ []
