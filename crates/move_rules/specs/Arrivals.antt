-- Where calls are to return whose moves were entered on the way.
use Rattle.std.specs.Prelude.{◌≡◌, ℕ, ◌+◌, ◌≤◌, ◌==◌, Bool, false, ◌&&◌, ◌||◌, not, if◌then◌else◌, List, Option, Some, None}
use Rattle.std.specs.Map.{lookup}
use Rattle.std.specs.Option.{option_map}
use Rattle.process_machine.specs.declared.call.Call.{Call}
use Rattle.process_machine.specs.declared.call.Reply.{Reply}
use Rattle.unix_calls.specs.declared.description.Description.{Description}
use Rattle.unix_calls.specs.declared.entry.Entry.{Entry}
use Rattle.unix_calls.specs.declared.event.Event.{Event}
use Rattle.unix_calls.specs.declared.event.Event.TheVariants as event
use Rattle.unix_calls.specs.declared.event.Rec.{Rec}
use Rattle.call_journal.specs.Past.{Past, some_record}
use Rattle.call_journal.specs.Calls.{move_target}
use Rattle.call_journal.specs.Moves.{arrives_at, kernel_named, target_on_way}
use Rattle.move_rules.specs.declared.arrivals.Arrival.{Arrival}
use Rattle.move_rules.specs.declared.arrivals.Arrivals.{Arrivals}
use Rattle.move_rules.specs.declared.arrivals.ThawAt.{ThawAt}
use Rattle.trace_tables.specs.declared.CallAt.{CallAt}
use Rattle.trace_places.specs.declared.places.Place.{Place}
use Rattle.trace_tables.specs.Calls.{same_call}
use Rattle.move_rules.specs.Evictions.{count_or}
use Rattle.trace_places.specs.Places.{place_kept, is_on_its_way}

-- how often a process was thawed at a kernel
abbrev pub same_thaw : ThawAt → ThawAt → Bool
same_thaw a b = a.pid == b.pid && a.kernel == b.kernel

abbrev pub thaws_of : List (ThawAt × ℕ) → ThawAt → ℕ
thaws_of thaws at = count_or (lookup (same_thaw at) thaws)

-- where a call is to return
abbrev pub arrival_at : List (CallAt × Arrival) → CallAt → Option Arrival
arrival_at dues at = lookup (same_call at) dues

-- it went to another kernel than that one, which has thawed its process so often; or it wasn't thawed there since
abbrev pub strays : Option Arrival → ℕ → Bool
strays None kernel = false
strays (Some due) kernel = due.is_split || not (kernel == due.target)

abbrev pub is_unthawed : Option Arrival → ℕ → Bool
is_unthawed None thaws = false
is_unthawed (Some due) thaws = thaws == due.thaws

abbrev pub is_astray : Option Arrival → ℕ → ℕ → Bool
is_astray o kernel thaws = strays o kernel || is_unthawed o thaws

-- a call may return at a kernel
abbrev pub returns_at : Arrivals → ℕ → ℕ → ℕ → Bool
returns_at arrivals pid number kernel =
    not (is_astray (arrival_at arrivals.dues.entries (record { pid = pid; number = number })) kernel (thaws_of arrivals.thaws.entries (record { pid = pid; kernel = kernel })))

-- ---- one record more

-- with one more move to a kernel, which has thawed the process so often
abbrev pub was_split : ℕ → Option Arrival → Bool
was_split target None = false
was_split target (Some due) = due.is_split || not (due.target == target)

abbrev pub arrival_behind : ℕ → ℕ → Option Arrival → Arrival
arrival_behind target thaws o = record { target = target; thaws = thaws; is_split = was_split target o }

-- the kernel to which an entry moves its process
abbrev pub named_target : Description → Option Call → Option Reply → Option ℕ
named_target c call reply = option_map (kernel_named c) (move_target call reply)

abbrev pub way_target : Description → List (ℕ × Place) → Entry → Option ℕ
way_target c places entry = if is_on_its_way (place_kept places entry.pid) then named_target c entry.call entry.reply else None

abbrev pub due_behind : Option ℕ → Bool → (ℕ → ℕ) → Option Arrival → Option Arrival
due_behind None same thaws before = before
due_behind (Some target) same thaws before = if same then Some (arrival_behind target (thaws target) before) else before

abbrev pub arrival_on : Description → List (ℕ × Place) → Event → List (ThawAt × ℕ) → CallAt → Option Arrival → Option Arrival
arrival_on c places (event.Enter entry) thaws at before =
    due_behind (way_target c places entry) (entry.pid == at.pid && entry.number == at.number) (λ kernel. thaws_of thaws (record { pid = entry.pid; kernel = kernel })) before
arrival_on c places _ thaws at before = before

abbrev pub DuesOn : Description → List (ℕ × Place) → Event → List (ThawAt × ℕ) → List (CallAt × Arrival) → List (CallAt × Arrival) → Type 0
DuesOn c places e thaws before after = (at : CallAt) → arrival_at after at ≡ arrival_on c places e thaws at (arrival_at before at)

abbrev pub is_thaw : ℕ → Event → ThawAt → Bool
is_thaw kernel (event.Thaw p) at = p == at.pid && kernel == at.kernel
is_thaw kernel _ at = false

abbrev pub ThawsOn : Rec → List (ThawAt × ℕ) → List (ThawAt × ℕ) → Type 0
ThawsOn rec before after =
    (at : ThawAt) → thaws_of after at ≡ (if is_thaw rec.kernel rec.event at then thaws_of before at + 1 else thaws_of before at)

pub record ArrivalsOn (c : Description) (places : List (ℕ × Place)) (rec : Rec) (old new : Arrivals) : Type 0 where
  pub thaws : ThawsOn rec old.thaws.entries new.thaws.entries
  pub dues : DuesOn c places rec.event old.thaws.entries old.dues.entries new.dues.entries

-- ---- what is kept is told by the records

-- a move of that call that was entered on the way goes to another kernel
abbrev pub is_elsewhere : Description → ℕ → Option (List ℕ) → Bool
is_elsewhere c kernel None = false
is_elsewhere c kernel (Some name) = not (kernel == kernel_named c name)

-- no more thaws were counted when it was entered
abbrev pub Counted : Option Arrival → (ℕ → ℕ) → Type 0
Counted None thaws = Unit {0}
Counted (Some due) thaws = due.thaws ≤ thaws due.target

pub record TellsArrivals (c : Description) (arrivals : Arrivals) (past : Past) : Type 0 where
  pub stray : (at : CallAt) (kernel : ℕ) → strays (arrival_at arrivals.dues.entries at) kernel ≡ some_record c (λ earlier r rest. is_elsewhere c kernel (target_on_way earlier at.pid at.number r.event)) past.records
  pub astray : (at : CallAt) (kernel : ℕ) → is_astray (arrival_at arrivals.dues.entries at) kernel (thaws_of arrivals.thaws.entries (record { pid = at.pid; kernel = kernel })) ≡ some_record c (λ earlier r rest. not (arrives_at c at.pid kernel (target_on_way earlier at.pid at.number r.event) rest)) past.records
  pub counted : (at : CallAt) → Counted (arrival_at arrivals.dues.entries at) (λ kernel. thaws_of arrivals.thaws.entries (record { pid = at.pid; kernel = kernel }))
