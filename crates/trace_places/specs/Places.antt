-- Where each process is, kept from one record to the next.
use Rattle.std.specs.Prelude.{◌≡◌, ℕ, ◌==◌, Bool, true, false, if◌then◌else◌, List, Option, Some, None}
use Rattle.std.specs.Option.{option_map}
use Rattle.std.specs.Map.{lookup}
use Rattle.sprite_ids.specs.Pid.{home_of}
use Rattle.unix_calls.specs.declared.event.Event.{Event}
use Rattle.unix_calls.specs.declared.event.Event.TheVariants as event
use Rattle.call_journal.specs.Past.{Whereabouts, whereabouts_of, child_of_entry, holds}
use Rattle.call_journal.specs.Calls.{or_else}
use Rattle.trace_places.specs.declared.places.Place.{Place}

-- what is kept of a process
abbrev pub place_kept : List (ℕ × Place) → ℕ → Option Place
place_kept places pid = lookup (λ other. pid == other) places

-- the place of whereabouts, and of a process among those of all
abbrev pub place_by : Whereabouts → Place
place_by w = record { kernel = w.kernel; moving = w.moving }

abbrev pub place_among : List Whereabouts → ℕ → Option Place
place_among ws pid = option_map place_by (whereabouts_of ws pid)

-- what is kept is what the records tell
abbrev pub TellsPlaces : List (ℕ × Place) → List Whereabouts → Type 0
TellsPlaces places ws = (pid : ℕ) → place_kept places pid ≡ place_among ws pid

-- a process's home
abbrev pub home_place : ℕ → Place
home_place pid = record { kernel = home_of pid; moving = false }

-- one is put where there was none, and where there may be one
abbrev pub PutsFirst : ℕ → List (ℕ × Place) → List (ℕ × Place) → Type 0
PutsFirst pid before after =
    (other : ℕ) → place_kept after other ≡ (if pid == other then or_else (place_kept before other) (Some (home_place pid)) else place_kept before other)

abbrev pub PutsPlace : ℕ → Place → List (ℕ × Place) → List (ℕ × Place) → Type 0
PutsPlace pid place before after =
    (other : ℕ) → place_kept after other ≡ (if pid == other then Some place else place_kept before other)

-- what is kept of a process, where a child is put at its parent's place
abbrev pub moves_child : Option ℕ → Option Place → ℕ → Option Place → Option Place
moves_child (Some child) (Some place) pid before = if child == pid then Some place else before
moves_child _ _ pid before = before

-- what is kept of a process behind an event of a kernel
abbrev pub moved_behind : ℕ → Event → List (ℕ × Place) → ℕ → Option Place → Option Place
moved_behind kernel (event.Enter entry) places pid before =
    moves_child (child_of_entry entry) (place_kept places entry.pid) pid before
moved_behind kernel (event.Freeze p) places pid before = if p == pid then Some (record { kernel = kernel; moving = true }) else before
moved_behind kernel (event.Thaw p) places pid before = if p == pid then Some (record { kernel = kernel; moving = false }) else before
moved_behind kernel _ places pid before = before

abbrev pub MovesOn : ℕ → Event → List (ℕ × Place) → List (ℕ × Place) → Type 0
MovesOn kernel e before after = (pid : ℕ) → place_kept after pid ≡ moved_behind kernel e before pid (place_kept before pid)

-- ---- what is asked of a place

-- whether it is a kernel's; whether one is on its way; where one is that isn't
abbrev pub is_kernel_of : ℕ → Option Place → Bool
is_kernel_of kernel place = holds (λ (p : Place). p.kernel == kernel) place

abbrev pub is_on_its_way : Option Place → Bool
is_on_its_way place = holds (λ (p : Place). p.moving) place

abbrev pub settled_in : Option Place → Option ℕ
settled_in None = None
settled_in (Some p) = if p.moving then None else Some p.kernel
