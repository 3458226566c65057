-- What is kept of the entries, requests and replies so far.
use Rattle.std.specs.Prelude.{◌≡◌, ℕ, ◌==◌, Bool, true, false, ◌&&◌, ◌||◌, not, if◌then◌else◌, List, Option, Some, None}
use Rattle.std.specs.List.{list_any}
use Rattle.sprite_ids.specs.declared.names.StreamNo.{StreamNo}
use Rattle.process_machine.specs.declared.call.Call.{Call}
use Rattle.process_machine.specs.declared.call.Call.TheVariants as call
use Rattle.process_machine.specs.declared.call.Reply.{Reply}
use Rattle.process_machine.specs.declared.call.Reply.TheVariants.{Value}
use Rattle.unix_calls.specs.declared.description.Description.{Description}
use Rattle.unix_calls.specs.declared.entry.Entry.{Entry}
use Rattle.unix_calls.specs.declared.event.Event.{Event}
use Rattle.unix_calls.specs.declared.event.Event.TheVariants as event
use Rattle.unix_calls.specs.declared.event.Rec.{Rec}
use Rattle.call_journal.specs.Past.{Past, Tie, some_record, server_of_device}
use Rattle.call_journal.specs.Calls.{or_else}
use Rattle.call_journal.specs.Matching.{has_event, is_at, is_reply_about, is_request_about, same_stream}
use Rattle.call_journal.specs.EntryPlaces.{is_away, is_shared}
use Rattle.trace_tables.specs.declared.Caller.{Caller}
use Rattle.trace_tables.specs.declared.CallAt.{CallAt}
use Rattle.trace_tables.specs.Calls.{has_call}
use Rattle.place_rules.specs.declared.request_at.RequestAt.{RequestAt}
use Rattle.place_rules.specs.declared.entries.Entries.{Entries}
use Rattle.place_rules.specs.Pasts.{IsWhole}
use Rattle.place_rules.specs.Stands as stands
use Rattle.place_rules.specs.Stands.{device_at, stand_by}
use Rattle.trace_rules.specs.Modes.{has_stream}
use Rattle.trace_places.specs.declared.places.Place.{Place}
use Rattle.trace_places.specs.Places.{place_kept, is_kernel_of, MovesOn, TellsPlaces}

-- the same call, and the same at the same kernel
abbrev pub same_request : RequestAt → RequestAt → Bool
same_request a b = a.kernel == b.kernel && a.pid == b.pid && a.number == b.number

abbrev pub has_request : List RequestAt → RequestAt → Bool
has_request requests at = list_any (same_request at) requests

-- ---- judging

-- an entry at a kernel stands where it is to stand
abbrev pub stands_by : Description → Entries → ℕ → Entry → Caller → Option Place → Bool
stands_by c judge kernel entry caller None = false
stands_by c judge kernel entry caller (Some at) =
    stands.is_at (stand_by c judge.shared.keys judge.devices.entries caller entry.pid entry.part entry.call entry.reply) at.kernel kernel
    && (kernel == at.kernel || has_request judge.requests.keys (record { kernel = kernel; pid = entry.pid; number = entry.number }))

abbrev pub stands_in : Description → Entries → ℕ → Entry → Caller → Bool
stands_in c judge kernel entry caller = stands_by c judge kernel entry caller (place_kept judge.places.entries entry.pid)

-- a call may return
abbrev pub is_answered_by : Entries → ℕ → ℕ → Bool
is_answered_by judge pid number =
    not (has_call judge.away.keys (record { pid = pid; number = number }))
    || has_call judge.replies.keys (record { pid = pid; number = number })

abbrev pub enters_well : Description → Entries → ℕ → Event → Caller → Bool
enters_well c judge kernel (event.Enter entry) caller = stands_in c judge kernel entry caller
enters_well c judge kernel (event.Return pid number reply) caller = is_answered_by judge pid number
enters_well c judge kernel _ caller = true

-- ---- one record more

-- an entry of that call at another kernel than its process's
abbrev pub is_away_by : ℕ → Event → List (ℕ × Place) → CallAt → Bool
is_away_by kernel (event.Enter entry) places at =
    entry.pid == at.pid && entry.number == at.number && not (is_kernel_of kernel (place_kept places entry.pid))
is_away_by kernel _ places at = false

abbrev pub AwayOn : Rec → List (ℕ × Place) → List CallAt → List CallAt → Type 0
AwayOn rec places before after =
    (at : CallAt) → has_call after at ≡ (if is_away_by rec.kernel rec.event places at then true else has_call before at)

-- the kernel of the device that an entry makes
abbrev pub made_kernel : Option Call → Option Reply → Option Place → Option ℕ
made_kernel (Some (call.PdMake path)) (Some (Value first second bytes)) (Some at) = Some at.kernel
made_kernel _ _ _ = None

abbrev pub served_behind : Option ℕ → ℕ → ℕ → Option ℕ → Option ℕ
served_behind None place other before = before
served_behind (Some kernel) place other before = if place == other then or_else before (Some kernel) else before

abbrev pub PutsServed : ℕ → ℕ → List (ℕ × ℕ) → List (ℕ × ℕ) → Type 0
PutsServed place kernel before after =
    (other : ℕ) → device_at after other ≡ (if place == other then or_else (device_at before other) (Some kernel) else device_at before other)

abbrev pub kernel_made : Event → List (ℕ × Place) → Option ℕ
kernel_made (event.Enter entry) places = made_kernel entry.call entry.reply (place_kept places entry.pid)
kernel_made _ places = None

abbrev pub ServesOn : Event → ℕ → List (ℕ × Place) → List (ℕ × ℕ) → List (ℕ × ℕ) → Type 0
ServesOn e place places before after =
    (other : ℕ) → device_at after other ≡ served_behind (kernel_made e places) place other (device_at before other)

-- a stream that becomes shared
abbrev pub shares : Event → StreamNo → Bool
shares (event.Shared file s) stream = same_stream s stream
shares _ stream = false

abbrev pub SharesOn : Event → List StreamNo → List StreamNo → Type 0
SharesOn e before after = (stream : StreamNo) → has_stream after stream ≡ (if shares e stream then true else has_stream before stream)

abbrev pub RequestsOn : Rec → List RequestAt → List RequestAt → Type 0
RequestsOn rec before after =
    (at : RequestAt) → has_request after at ≡ (if is_at at.kernel (is_request_about at.pid at.number) rec then true else has_request before at)

abbrev pub RepliesOn : Event → List CallAt → List CallAt → Type 0
RepliesOn e before after = (at : CallAt) → has_call after at ≡ (if is_reply_about at.pid at.number e then true else has_call before at)

pub record EntersOn (rec : Rec) (caller : Caller) (old new : Entries) : Type 0 where
  pub away : AwayOn rec old.places.entries old.away.keys new.away.keys
  pub serves : ServesOn rec.event caller.place old.places.entries old.devices.entries new.devices.entries
  pub shares : SharesOn rec.event old.shared.keys new.shared.keys
  pub requests : RequestsOn rec old.requests.keys new.requests.keys
  pub replies : RepliesOn rec.event old.replies.keys new.replies.keys
  pub moves : MovesOn rec.kernel rec.event old.places.entries new.places.entries

-- ---- what is kept is told by the records

pub record TellsEntries (c : Description) (judge : Entries) (past : Past) : Type 0 where
  pub whole : IsWhole c past
  pub places : TellsPlaces judge.places.entries past.processes
  pub devices : (place : ℕ) → device_at judge.devices.entries place ≡ server_of_device past.devices place
  pub shared : (tie : Tie) → has_stream judge.shared.keys tie.stream ≡ is_shared past tie
  pub requests : (at : RequestAt) → has_request judge.requests.keys at ≡ list_any (is_at at.kernel (is_request_about at.pid at.number)) past.records
  pub replies : (at : CallAt) → has_call judge.replies.keys at ≡ list_any (has_event (is_reply_about at.pid at.number)) past.records
  pub away : (at : CallAt) → has_call judge.away.keys at ≡ some_record c (λ earlier r rest. is_away earlier at.pid at.number r.kernel r.event) past.records
